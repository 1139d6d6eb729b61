-- What is printed of the means that a puzzle with one solution took.
use Rattle.std.specs.Prelude.{ℕ, ◌*◌, List, [], ◌++◌, map, codes, Option, Some, None}
use Rattle.grid_core.specs.Nonogram.{Nonogram}
use Rattle.solve_core.specs.declared.findings.Grade.{Grade}
use Rattle.solve_core.specs.declared.findings.Grade.TheVariants.{Lines, Trials, Search}
use Rattle.survey_text.specs.Entries.{printed_byte}
use Rattle.check_text.specs.Findings.{finding}
use Rattle.check_text.specs.Numbers.{cell_count}
use Rattle.check_text.specs.declared.heads.Level.TheVariants.{Warning}

-- the sentence on a puzzle that takes more than line logic
abbrev pub beyond_lines : Grade → Option (List ℕ)
beyond_lines Lines = None
beyond_lines Trials = Some (codes "line logic alone does not solve it (it takes trials)")
beyond_lines Search = Some (codes "line logic alone does not solve it (it takes a search)")

-- the sentence on a puzzle that takes more than trials
abbrev pub beyond_trials : Grade → Option (List ℕ)
beyond_trials Lines = None
beyond_trials Trials = None
beyond_trials Search = Some (codes "trials do not solve it (it takes a search)")

-- the sentence on a puzzle whose grade, the second argument, is above the greatest one asked for
abbrev pub beyond : Option Grade → Grade → Option (List ℕ)
beyond None grade = None
beyond (Some Lines) grade = beyond_lines grade
beyond (Some Trials) grade = beyond_trials grade
beyond (Some Search) grade = None

-- the finding with a sentence on a puzzle's grade, if there is one
abbrev pub grade_finding : List ℕ → Option (List ℕ) → List ℕ
grade_finding name None = []
grade_finding name (Some sentence) = finding name Warning sentence

-- the means that solved a puzzle
abbrev pub means : Grade → List ℕ
means Lines = codes "line logic"
means Trials = codes "trials"
means Search = codes "search"

-- the line of the puzzle `p` with one solution on which there is no finding
abbrev pub solved_line : List ℕ → Nonogram → Grade → List ℕ
solved_line name p grade =
    map printed_byte name ++ codes ": one solution, by " ++ means grade
    ++ codes " (" ++ cell_count (p.width * p.height) ++ codes ")\n"
