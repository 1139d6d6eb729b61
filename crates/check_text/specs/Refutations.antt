-- What refuted a puzzle without solutions, if its clues alone don't.
use Rattle.std.specs.Prelude.{ℕ, List, ◌++◌, codes}
use Rattle.grid_core.specs.declared.axes.Axis.{Axis}
use Rattle.grid_core.specs.declared.axes.Axis.TheVariants.{Rows, Columns}
use Rattle.grid_core.specs.Nonogram.{Nonogram}
use Rattle.diagnosis.specs.declared.contradictions.Contradiction.{Contradiction}
use Rattle.diagnosis.specs.declared.contradictions.Contradiction.TheVariants.{NoPlacing, TwoColours}
use Rattle.diagnosis.specs.declared.contradictions.Refutation.{Refutation}
use Rattle.diagnosis.specs.declared.contradictions.Refutation.TheVariants.{Lines, Trials, Search}
use Rattle.diagnosis.specs.declared.differences.Position.{Position}
use Rattle.check_text.specs.ClueTexts.{clue_in_parentheses, line_name, line_with_clue}

-- that line logic leaves no placing for line `i` of an axis
abbrev pub no_placing_text : Nonogram → Axis → ℕ → List ℕ
no_placing_text p axis i =
    codes "no solution: by line logic no placing is left for " ++ line_name axis i
    ++ clue_in_parentheses p axis i

-- that by line logic the row and the column of a cell contradict each other
abbrev pub two_colours_text : Nonogram → Position → List ℕ
two_colours_text p at =
    codes "no solution: by line logic " ++ line_with_clue p Rows at.row ++ codes " and "
    ++ line_with_clue p Columns at.column ++ codes " contradict each other in their common cell"

-- that there is no solution, since line logic shows this contradiction
abbrev pub contradiction_text : Nonogram → Contradiction → List ℕ
contradiction_text p (NoPlacing axis i) = no_placing_text p axis i
contradiction_text p (TwoColours at) = two_colours_text p at

-- that there is no solution, with what refuted `p`
abbrev pub refutation_text : Nonogram → Refutation → List ℕ
refutation_text p (Lines contradiction) = contradiction_text p contradiction
refutation_text p Trials = codes "no solution: each colour of some cell leads to a contradiction"
refutation_text p Search = codes "no solution: the search found none"
