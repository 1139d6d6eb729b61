-- The result of reading entries: jobs and faults.
use Rattle.std.specs.Prelude.{◌≡◌, ◌≤◌, ℕ, List, [], ◌∷◌, length, map, vec_len, Option, Some, None, Result, Ok, Err}
use Rattle.std.specs.List.{enumerate_from, flat_map}
use Rattle.grid_core.specs.Nonogram.{Nonogram}
use Rattle.puzzle_text.specs.declared.collections.Entry.{Entry}
use Rattle.puzzle_text.specs.declared.faults.EntryFault.{EntryFault}
use Rattle.lane_core.specs.declared.jobs.Job.{Job}
use Rattle.solve_core.specs.declared.picks.Pick.{Pick}
use Rattle.survey_text.specs.Survey.{GuessSettings}
use Rattle.survey_core.specs.Results.{parsed_all}
use Rattle.survey_core.specs.declared.parsed_entries.ParsedEntries.{ParsedEntries}

-- the fault of an entry, or none if it is a puzzle
abbrev pub fault_of : Result Nonogram EntryFault → Option EntryFault
fault_of (Ok p) = None
fault_of (Err fault) = Some fault

-- the number, the puzzle, the limit on guesses and the pick of a job
pub record NumberedPuzzle : Type 0 where
  pub number : ℕ
  pub puzzle : Nonogram
  pub guesses : ℕ
  pub pick : Pick

-- `job` as a numbered puzzle
abbrev pub shown_job : Job → NumberedPuzzle
shown_job job =
    record { number = job.number; puzzle = job.puzzle; guesses = job.guesses; pick = job.pick }

-- the job of the entry with this number, if it is a puzzle
abbrev pub job_of : GuessSettings → ℕ → Result Nonogram EntryFault → List NumberedPuzzle
job_of guesses number (Ok p) =
    record { number = number; puzzle = p; guesses = guesses.limit; pick = guesses.pick } ∷ []
job_of guesses number (Err fault) = []

-- the jobs of entries, which are numbered from `first`. A refused entry has a number, but no job
abbrev pub jobs_from : GuessSettings → ℕ → List (Result Nonogram EntryFault) → List NumberedPuzzle
jobs_from guesses first parsed_all =
    flat_map (λ numbered. job_of guesses numbered.0 numbered.1) (enumerate_from first parsed_all)

-- `read` is the result of reading `entries`, which are numbered from `first`
pub record IsParseOf (guesses : GuessSettings) (first : ℕ) (entries : List Entry)
    (read : ParsedEntries)
    : Type 0 where
  pub jobs : map shown_job read.jobs.items ≡ jobs_from guesses first (parsed_all entries)
  pub few : vec_len read.jobs ≤ length entries
  pub faults : read.faults.items ≡ map fault_of (parsed_all entries)
