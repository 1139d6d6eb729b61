-- The findings on a graded puzzle, and the level of the worst.
use Rattle.std.specs.Prelude.{ℕ, Bool, not, ◌||◌, ◌==◌, List, [], ◌++◌, length, Option, Some, None, is_some, if◌then◌else◌}
use Rattle.grid_core.specs.Nonogram.{Nonogram}
use Rattle.grid_core.specs.PartialGrid.{PartialGrid}
use Rattle.solve_core.specs.declared.findings.Findings.{Findings}
use Rattle.solve_core.specs.declared.findings.Grade.{Grade}
use Rattle.solve_core.specs.declared.findings.Verdict.{Verdict}
use Rattle.solve_core.specs.declared.findings.Verdict.TheVariants.{Nothing, One, Several, Unsettled}
use Rattle.survey_text.specs.Goals.{goal_word}
use Rattle.diagnosis.specs.Contradictions.{refutation_of}
use Rattle.diagnosis.specs.Goals.{goal_rows}
use Rattle.diagnosis.specs.Misfits.{misfits_of}
use Rattle.diagnosis.specs.Sums.{sums_of}
use Rattle.check_text.specs.Ambiguity.{ambiguity}
use Rattle.check_text.specs.Goals.{goal_difference, missed_goal}
use Rattle.check_text.specs.Grades.{beyond, grade_finding, solved_line}
use Rattle.check_text.specs.Unfinished.{unfinished, unfinished_level}
use Rattle.check_text.specs.Unsolvable.{unsolvable}
use Rattle.check_text.specs.declared.heads.Level.{Level}
use Rattle.check_text.specs.declared.heads.Level.TheVariants.{Error, Warning}
use Rattle.check_text.specs.declared.puzzle_findings.CheckOptions.{CheckOptions}

-- whether there is a finding on a puzzle with one solution, whose goal differs from that in these
-- rows: there is such a row, or the grade is above the greatest one asked for
abbrev pub is_warned : CheckOptions → List ℕ → Grade → Bool
is_warned options rows grade = not (length rows == 0) || is_some (beyond options.grade grade)

-- the line of a puzzle with one solution on which there is no finding, if it is asked for
abbrev pub solved_if_asked : CheckOptions → List ℕ → Nonogram → List ℕ → Grade → List ℕ
solved_if_asked options name p rows grade =
    if is_warned options rows grade then []
    else if options.all then solved_line name p grade else []

-- what is printed on `p`, which has one solution, from which its goal differs in these rows
abbrev pub unique_text : CheckOptions → List ℕ → Nonogram → List ℕ → Grade → List ℕ
unique_text options name p rows grade =
    goal_difference name rows ++ grade_finding name (beyond options.grade grade)
    ++ solved_if_asked options name p rows grade

-- the level of the findings on a puzzle with one solution, from which its goal differs in these
-- rows
abbrev pub unique_level : CheckOptions → List ℕ → Grade → Option Level
unique_level options rows grade = if is_warned options rows grade then Some Warning else None

-- what is printed on `p`, which has these two solutions
abbrev pub several_text : List ℕ → Nonogram → PartialGrid → PartialGrid → List ℕ
several_text name p first second = ambiguity name first second ++ missed_goal name (goal_word p)

-- what is printed on `p` with this verdict and this grade, under a limit on guesses
abbrev pub verdict_findings
    : CheckOptions → List ℕ → Nonogram → ℕ → Verdict → Grade → List ℕ
verdict_findings options name p limit Nothing grade =
    unsolvable name p (misfits_of p) (sums_of p) (refutation_of p grade)
verdict_findings options name p limit (One found) grade =
    unique_text options name p (goal_rows p found) grade
verdict_findings options name p limit (Several first second) grade =
    several_text name p first second
verdict_findings options name p limit (Unsettled found) grade =
    unfinished name p (sums_of p) limit

-- what is printed on `p` with these findings of a report, under a limit on guesses
abbrev pub puzzle_findings : CheckOptions → List ℕ → Nonogram → ℕ → Findings → List ℕ
puzzle_findings options name p limit findings =
    verdict_findings options name p limit findings.verdict findings.grade

-- the level of the worst finding on `p` with this verdict and this grade
abbrev pub verdict_level : CheckOptions → Nonogram → Verdict → Grade → Option Level
verdict_level options p Nothing grade = Some Error
verdict_level options p (One found) grade = unique_level options (goal_rows p found) grade
verdict_level options p (Several first second) grade = Some Error
verdict_level options p (Unsettled found) grade = Some (unfinished_level (sums_of p))

-- the level of the worst finding on `p` with these findings of a report
abbrev pub puzzle_level : CheckOptions → Nonogram → Findings → Option Level
puzzle_level options p findings = verdict_level options p findings.verdict findings.grade
