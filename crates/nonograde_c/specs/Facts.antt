-- What grading finds of a puzzle, as a structure of numbers.
use Rattle.std.specs.Prelude.{◌≡◌, ℕ, List, Option, Some, None, Result, Ok, Err, unwrap_or}
use Rattle.grid_core.specs.Nonogram.{Nonogram}
use Rattle.grid_core.specs.declared.puzzles.GoalWord.{GoalWord}
use Rattle.grid_core.specs.declared.puzzles.GoalWord.TheVariants.{Absent, Meets, Misses}
use Rattle.solve_core.specs.Report.{findings_of}
use Rattle.solve_core.specs.declared.findings.Findings.{Findings}
use Rattle.solve_core.specs.declared.findings.Grade.{Grade}
use Rattle.solve_core.specs.declared.findings.Grade.TheVariants.{Lines, Trials, Search}
use Rattle.solve_core.specs.declared.findings.Verdict.{Verdict}
use Rattle.solve_core.specs.declared.findings.Verdict.TheVariants.{Nothing, One, Several, Unsettled}
use Rattle.solve_core.specs.declared.picks.Pick.{Pick}
use Rattle.puzzle_text.specs.Answers.{Gives}
use Rattle.survey_text.specs.Goals.{goal_word}
use Rattle.nonograde_c.specs.Calls.{answer_on, line_of, no_memory, pick_within, puzzle_of, status_number, status_of}
use Rattle.nonograde_c.specs.declared.facts.Facts.{Facts}
use Rattle.nonograde_c.specs.declared.faults.Fault.{Fault}
use Rattle.nonograde_c.specs.declared.faults.Fault.TheVariants.{Setting}
use Rattle.nonograde_c.specs.declared.faults.Status.TheVariants as status

-- the number of a verdict
abbrev pub verdict_number : Verdict → ℕ
verdict_number Nothing = 0
verdict_number (One _) = 1
verdict_number (Several _ _) = 2
verdict_number (Unsettled _) = 3

-- the number of a grade
abbrev pub grade_number : Grade → ℕ
grade_number Lines = 0
grade_number Trials = 1
grade_number Search = 2

-- the number of a word for a goal
abbrev pub goal_number : GoalWord → ℕ
goal_number Absent = 0
goal_number Meets = 1
goal_number Misses = 2

-- the facts about the puzzle `p` that has these findings
abbrev pub facts_of : Nonogram → Findings → Facts
facts_of p findings = record {
  width = p.width;
  height = p.height;
  verdict = verdict_number findings.verdict;
  grade = grade_number findings.grade;
  line_cells = findings.line_known;
  trial_cells = findings.trial_known;
  guesses = findings.spent;
  goal = goal_number (goal_word p);
  fault_line = 0;
}

-- the facts that are written for a fault: only the line that it is about
abbrev pub refused_facts : Fault → Facts
refused_facts fault = record {
  width = 0;
  height = 0;
  verdict = 0;
  grade = 0;
  line_cells = 0;
  trial_cells = 0;
  guesses = 0;
  goal = 0;
  fault_line = unwrap_or (line_of fault) 0;
}

-- the facts about the puzzle in `body` by a guess rule; without a rule, the fault of a bad setting
abbrev pub facts_by : Option Pick → ℕ → ℕ → List ℕ → Result Facts Fault
facts_by None guesses format body = Err Setting
facts_by (Some pick) guesses format body =
    answer_on (λ p. Ok (facts_of p (findings_of pick p guesses))) (puzzle_of format body)

-- the facts about the puzzle in `body`; `pick` is the number of the guess rule
abbrev pub facts_answer : ℕ → ℕ → ℕ → List ℕ → Result Facts Fault
facts_answer guesses pick format body = facts_by (pick_within guesses pick) guesses format body

-- the facts, or the fault, are written, and the call returns the number of the status
abbrev pub FillsFacts : Result Facts Fault → ℕ → Facts → Type 0
FillsFacts (Ok facts) number new = (number ≡ status_number status.Answered) × (new ≡ facts)
FillsFacts (Err fault) number new =
    (number ≡ status_number (status_of fault)) × (new ≡ refused_facts fault)

-- a call writes these facts, or `NoMemory` in their place
abbrev pub AnswersFacts : Result Facts Fault → ℕ → Facts → Type 0
AnswersFacts answer number new =
    (given : Result Facts Fault) × Gives no_memory (λ facts. facts) given answer
    × FillsFacts given number new
