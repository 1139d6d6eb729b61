-- The text of an entry in a survey: its line and its solutions.
use Rattle.std.specs.Prelude.{ℕ, Bool, true, false, List, [], ◌∷◌, ◌++◌, map, decimal, codes, if◌then◌else◌, nat_lt, ◌==◌, ◌||◌, Some, None, Result, Ok, Err}
use Rattle.std.specs.List.{flat_map}
use Rattle.grid_core.specs.Nonogram.{Nonogram}
use Rattle.grid_core.specs.PartialGrid.{PartialGrid}
use Rattle.grid_core.specs.declared.memory.NoMemory.{NoMemory}
use Rattle.solve_core.specs.declared.findings.Findings.{Findings}
use Rattle.solve_core.specs.declared.findings.Grade.{Grade}
use Rattle.solve_core.specs.declared.findings.Grade.TheVariants.{Lines, Trials, Search}
use Rattle.solve_core.specs.declared.findings.Verdict.{Verdict}
use Rattle.solve_core.specs.declared.findings.Verdict.TheVariants.{Nothing, One, Several, Unsettled}
use Rattle.puzzle_text.specs.Words.{word_of}
use Rattle.puzzle_text.specs.declared.faults.EntryFault.{EntryFault}
use Rattle.puzzle_text.specs.declared.faults.EntryFault.TheVariants.{Text}
use Rattle.puzzle_text.specs.declared.faults.TextFault.TheVariants as text
use Rattle.lane_core.specs.declared.answers.Answer.{Answer}
use Rattle.survey_text.specs.Goals.{goal_text, goal_word}
use Rattle.survey_text.specs.Grids.{grid_text}
use Rattle.survey_text.specs.declared.outcomes.Outcome.{Outcome}

-- a graded entry: its name, with its puzzle and the findings of the report on that, or with the
-- fault for which it is refused
pub record GradedEntry : Type 0 where
  pub name : List ℕ
  pub result : Result (Nonogram × Findings) EntryFault

-- `byte` of a name as it is printed: `?` if it is a control byte (below 32, or 127)
abbrev pub printed_byte : ℕ → ℕ
printed_byte byte = if nat_lt byte 32 || (byte == 127) then 63 else byte

-- the word for a verdict
abbrev pub verdict_word : Verdict → List ℕ
verdict_word Nothing = codes "none"
verdict_word (One _) = codes "one"
verdict_word (Several _ _) = codes "several"
verdict_word (Unsettled _) = codes "unsettled"

-- the word for a grade
abbrev pub grade_word : Grade → List ℕ
grade_word Lines = codes "line"
grade_word Trials = codes "trials"
grade_word Search = codes "search"

-- the size of `p`, as `20x15` for width 20 and height 15, the verdict and the grade
abbrev pub verdict_text : Nonogram → Findings → List ℕ
verdict_text p findings =
    decimal p.width ++ codes "x" ++ decimal p.height ++ codes " "
    ++ verdict_word findings.verdict ++ codes " " ++ grade_word findings.grade

-- how many cells are known after line deduction and after trials, how many guesses were spent, and
-- the word for the goal
abbrev pub counts_text : Nonogram → Findings → List ℕ
counts_text p findings =
    decimal findings.line_known ++ codes " " ++ decimal findings.trial_known ++ codes " "
    ++ decimal findings.spent ++ codes " " ++ goal_text (goal_word p)

-- the result of an entry: what was found of its puzzle, or why it is refused
abbrev pub result_text : Result (Nonogram × Findings) EntryFault → List ℕ
result_text (Ok found) = verdict_text found.0 found.1 ++ codes " " ++ counts_text found.0 found.1
result_text (Err fault) = codes "refused " ++ word_of fault

-- the line of `entry`: its number, its result and its name
abbrev pub entry_line : ℕ → GradedEntry → List ℕ
entry_line number entry =
    decimal number ++ codes " " ++ result_text entry.result ++ codes " "
    ++ map printed_byte entry.name ++ codes "\n"

-- the solutions in a verdict, in the order in which they were found
abbrev pub solutions_of : Verdict → List PartialGrid
solutions_of Nothing = []
solutions_of (One grid) = grid ∷ []
solutions_of (Several first second) = first ∷ second ∷ []
solutions_of (Unsettled None) = []
solutions_of (Unsettled (Some grid)) = grid ∷ []

-- the rows of the solution `grid`, and an empty line
abbrev pub solution_text : PartialGrid → List ℕ
solution_text grid = grid_text grid ++ codes "\n"

-- the text of the solutions of an entry: empty if it is refused
abbrev pub solutions_text : Result (Nonogram × Findings) EntryFault → List ℕ
solutions_text (Ok found) = flat_map solution_text (solutions_of found.1.verdict)
solutions_text (Err fault) = []

-- the text of the solutions of an entry, if they are asked for
abbrev pub shown_solutions : Bool → Result (Nonogram × Findings) EntryFault → List ℕ
shown_solutions true result = solutions_text result
shown_solutions false result = []

-- the line of `entry`, and its solutions if `show` is true
abbrev pub entry_text : Bool → ℕ → GradedEntry → List ℕ
entry_text show number entry = entry_line number entry ++ shown_solutions show entry.result

-- `p` with its findings, or the fault `NoMemory` if an allocation failed
abbrev pub found_of : Nonogram → Result Findings NoMemory → Result (Nonogram × Findings) EntryFault
found_of p (Ok findings) = Ok (p, findings)
found_of p (Err refused) = Err (Text text.NoMemory)

-- the puzzle of an answer with its findings, or the fault
abbrev pub shown_result : Result Answer EntryFault → Result (Nonogram × Findings) EntryFault
shown_result (Ok answer) = found_of answer.puzzle answer.outcome
shown_result (Err fault) = Err fault

-- `outcome` as a graded entry
abbrev pub shown_outcome : Outcome → GradedEntry
shown_outcome outcome = record { name = outcome.name.items; result = shown_result outcome.result }
