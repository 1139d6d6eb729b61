-- The answers of the calls, the numbers of their statuses, and what they write to the caller's
-- buffer.
use Rattle.std.specs.Prelude.{◌≡◌, ℕ, zero, suc, ◌<◌, ◌≤◌, ◌++◌, List, length, drop, codes, nat_le, if◌then◌else◌, Option, Some, None, IsSome, Result, Ok, Err}
use Rattle.grid_core.specs.Nonogram.{Nonogram}
use Rattle.grid_core.specs.declared.limits.TheConstants.{MAX_SIDE}
use Rattle.lane_core.specs.declared.jobs.TheConstants.{MAX_GUESSES}
use Rattle.puzzle_text.specs.Answers.{Gives}
use Rattle.puzzle_text.specs.Diagnosis.{line_number}
use Rattle.puzzle_text.specs.Formats.{read_as, text_as}
use Rattle.puzzle_text.specs.Words.{word_of_text}
use Rattle.puzzle_text.specs.declared.faults.TextFault.{TextFault}
use Rattle.puzzle_text.specs.declared.faults.TextFault.TheVariants as text
use Rattle.puzzle_text.specs.declared.faults.WriteFault.{WriteFault}
use Rattle.puzzle_text.specs.declared.faults.WriteFault.TheVariants as written
use Rattle.puzzle_text.specs.declared.limits.TheConstants.{MAX_PUZZLE_LEN}
use Rattle.puzzle_text.specs.declared.formats.Format.{Format}
use Rattle.puzzle_text.specs.declared.formats.Format.TheVariants.{Non, Mk, Nin}
use Rattle.solve_core.specs.declared.picks.Pick.{Pick}
use Rattle.solve_core.specs.declared.picks.Pick.TheVariants.{First, Most}
use Rattle.reports.specs.Reports.{lines_text, solve_text}
use Rattle.nonograde_c.specs.declared.faults.Fault.{Fault}
use Rattle.nonograde_c.specs.declared.faults.Fault.TheVariants.{Setting, Text, Ambiguous, Cells}
use Rattle.nonograde_c.specs.declared.faults.Status.{Status}
use Rattle.nonograde_c.specs.declared.faults.Status.TheVariants as status
use Rattle.nonograde_c.specs.declared.replies.Reply.{Reply}

-- the number of a status
abbrev pub status_number : Status → ℕ
status_number status.Answered = 0
status_number status.BufferTooSmall = 1
status_number status.BadSetting = 2
status_number status.UnknownFormat = 3
status_number status.TooLong = 4
status_number status.NoSize = 5
status_number status.BadSize = 6
status_number status.NoSection = 7
status_number status.BadLine = 8
status_number status.Twice = 9
status_number status.BadCount = 10
status_number status.BadNumber = 11
status_number status.BadGoal = 12
status_number status.Ambiguous = 13
status_number status.NoMemory = 14
status_number status.BadCells = 15

-- the status of a fault of a puzzle's text
abbrev pub status_of_text : TextFault → Status
status_of_text text.TooLong = status.TooLong
status_of_text text.NoSize = status.NoSize
status_of_text text.BadSize = status.BadSize
status_of_text text.NoSection = status.NoSection
status_of_text (text.BadLine _) = status.BadLine
status_of_text (text.Twice _) = status.Twice
status_of_text text.BadCount = status.BadCount
status_of_text (text.BadNumber _) = status.BadNumber
status_of_text (text.BadGoal _) = status.BadGoal
status_of_text text.NoMemory = status.NoMemory

-- the status of a fault
abbrev pub status_of : Fault → Status
status_of Setting = status.BadSetting
status_of (Text fault) = status_of_text fault
status_of Ambiguous = status.Ambiguous
status_of Cells = status.BadCells

-- the fault word
abbrev pub fault_word : Fault → List ℕ
fault_word Setting = codes "BadSetting"
fault_word (Text fault) = word_of_text fault
fault_word Ambiguous = codes "Ambiguous"
fault_word Cells = codes "BadCells"

-- the number of the line that a fault is about, if it is about one
abbrev pub line_of : Fault → Option ℕ
line_of Setting = None
line_of (Text fault) = line_number fault
line_of Ambiguous = None
line_of Cells = None

-- the guess rule with this number, if there is one
abbrev pub pick_from_number : ℕ → Option Pick
pick_from_number zero = Some First
pick_from_number (suc zero) = Some Most
pick_from_number (suc (suc _)) = None

-- the format with this number, if there is one
abbrev pub format_from_number : ℕ → Option Format
format_from_number zero = Some Non
format_from_number (suc zero) = Some Mk
format_from_number (suc (suc zero)) = Some Nin
format_from_number (suc (suc (suc _))) = None

-- the guess rule with the number `pick`, if there is one and `guesses` is in its range
abbrev pub pick_within : ℕ → ℕ → Option Pick
pick_within guesses pick = if nat_le guesses MAX_GUESSES then pick_from_number pick else None

-- the fault of a call in which an allocation failed
abbrev pub no_memory : Fault
no_memory = Text text.NoMemory

-- the puzzle that a reader found, or the fault of the text
abbrev pub of_reader : Result Nonogram TextFault → Result Nonogram Fault
of_reader (Ok p) = Ok p
of_reader (Err fault) = Err (Text fault)

-- the puzzle in `body`; without a format, the fault of a bad setting
abbrev pub read_in : Option Format → List ℕ → Result Nonogram Fault
read_in None body = Err Setting
read_in (Some format) body = of_reader (read_as format MAX_SIDE body)

-- the puzzle in `body`, with the format as a number
abbrev pub puzzle_of : ℕ → List ℕ → Result Nonogram Fault
puzzle_of format body = read_in (format_from_number format) body

-- the answer on the puzzle, or on the grid, that was read, or the fault of reading it
abbrev pub answer_on : {A B : Type 0} → (A → Result B Fault) → Result A Fault → Result B Fault
answer_on answer (Ok read) = answer read
answer_on answer (Err fault) = Err fault

-- the answer of line logic to the puzzle in `body`
abbrev pub lines_answer : ℕ → List ℕ → Result (List ℕ) Fault
lines_answer format body = answer_on (λ p. Ok (lines_text p)) (puzzle_of format body)

-- the answer to grading the puzzle in `body` by a guess rule; without a rule, the fault of a bad
-- setting
abbrev pub solve_by : Option Pick → ℕ → List ℕ → ℕ → List ℕ → Result (List ℕ) Fault
solve_by None guesses name format body = Err Setting
solve_by (Some pick) guesses name format body =
    answer_on (λ p. Ok (solve_text name guesses pick p)) (puzzle_of format body)

-- the answer to grading the puzzle in `body`, which is printed with `name`; `pick` is the number of
-- the guess rule
abbrev pub solve_answer : ℕ → ℕ → List ℕ → ℕ → List ℕ → Result (List ℕ) Fault
solve_answer guesses pick name format body =
    solve_by (pick_within guesses pick) guesses name format body

-- the text that a writer made, or its fault
abbrev pub of_writer : Result (List ℕ) WriteFault → Result (List ℕ) Fault
of_writer (Ok text) = Ok text
of_writer (Err written.Ambiguous) = Err Ambiguous
of_writer (Err written.NoMemory) = Err no_memory

-- the answer to converting the puzzle in `body`; without a format, the fault of a bad setting
abbrev pub convert_to : Option Format → ℕ → List ℕ → Result (List ℕ) Fault
convert_to None format body = Err Setting
convert_to (Some to) format body = answer_on (λ p. of_writer (text_as to p)) (puzzle_of format body)

-- the answer to converting the puzzle in `body` to the format with the number `to`
abbrev pub convert_answer : ℕ → ℕ → List ℕ → Result (List ℕ) Fault
convert_answer to format body = convert_to (format_from_number to) format body

-- `bytes` are written to a buffer: if they fit they stand at its start, and the rest is unchanged;
-- if not, all of it is unchanged. The reply has the status with this number, or that the buffer is
-- too small, and the length of `bytes`.
pub record FillsBuffer (number : ℕ) (bytes : List ℕ) (reply : Reply)
    (old new : List ℕ) : Type 0 where
  pub reported : reply.length ≡ length bytes
  pub fitting : length bytes ≤ length old →
      (reply.status ≡ number) × (new ≡ bytes ++ drop (length bytes) old)
  pub refused : length old < length bytes →
      (reply.status ≡ status_number status.BufferTooSmall) × (new ≡ old)

-- an answer is written to a buffer: the text, or the fault word
abbrev pub Fills : Result (List ℕ) Fault → Reply → List ℕ → List ℕ → Type 0
Fills (Ok text) reply old new = FillsBuffer (status_number status.Answered) text reply old new
Fills (Err fault) reply old new =
    FillsBuffer (status_number (status_of fault)) (fault_word fault) reply old new

-- a call writes this answer, or `NoMemory` in its place, to the buffer
abbrev pub Answers : Result (List ℕ) Fault → Reply → List ℕ → List ℕ → Type 0
Answers answer reply old new =
    (given : Result (List ℕ) Fault) × Gives no_memory (λ text. text) given answer
    × Fills given reply old new

-- The faults of a text that a call finds before it allocates anything, so that `NoMemory` never
-- hides them: `number` is that of no format, or the text `body` is too long. `Refused fault` states
-- that the fault is the answer.
pub record RefusesText (number : ℕ) (body : List ℕ) (Refused : Fault → Type 0) : Type 0 where
  pub format : format_from_number number ≡ None → Refused Setting
  pub too_long : IsSome (format_from_number number) → MAX_PUZZLE_LEN < length body →
      Refused (Text text.TooLong)

-- The faults that a call with one more setting finds first, in the same way: `taken` is that
-- setting, or `None` if its number is out of range.
pub record RefusesSetting {A : Type 0} (taken : Option A) (number : ℕ) (body : List ℕ)
    (Refused : Fault → Type 0) : Type 0 where
  pub setting : taken ≡ None → Refused Setting
  pub format : format_from_number number ≡ None → Refused Setting
  pub too_long : IsSome taken → IsSome (format_from_number number) →
      MAX_PUZZLE_LEN < length body → Refused (Text text.TooLong)
