-- The findings on a puzzle without solutions.
use Rattle.std.specs.Prelude.{ℕ, Bool, true, not, ◌==◌, List, [], ◌∷◌, ◌++◌, codes, Option, if◌then◌else◌}
use Rattle.std.specs.List.{flat_map}
use Rattle.std.specs.Option.{option_map_or}
use Rattle.grid_core.specs.Nonogram.{Nonogram}
use Rattle.diagnosis.specs.declared.contradictions.Refutation.{Refutation}
use Rattle.diagnosis.specs.declared.misfits.Misfit.{Misfit}
use Rattle.diagnosis.specs.declared.sums.Sums.{Sums}
use Rattle.check_text.specs.ClueTexts.{clue_in_parentheses, line_name}
use Rattle.check_text.specs.Findings.{finding}
use Rattle.check_text.specs.Numbers.{cell_count, grouped}
use Rattle.check_text.specs.Refutations.{refutation_text}
use Rattle.check_text.specs.declared.heads.Level.TheVariants.{Error}

-- that there is no solution since the clue of a line doesn't fit
abbrev pub misfit_text : Nonogram → Misfit → List ℕ
misfit_text p misfit =
    codes "no solution: " ++ line_name misfit.axis misfit.index
    ++ codes " needs " ++ cell_count misfit.needed
    ++ clue_in_parentheses p misfit.axis misfit.index ++ codes " and has " ++ grouped misfit.cells

-- the finding on a clue that doesn't fit its line
abbrev pub misfit_finding : List ℕ → Nonogram → Misfit → List ℕ
misfit_finding name p misfit = finding name Error (misfit_text p misfit)

-- that there is no solution since the rows fill another number of cells than the columns
abbrev pub sums_text : Sums → List ℕ
sums_text sums =
    codes "no solution: the rows fill " ++ cell_count sums.rows
    ++ codes ", the columns " ++ grouped sums.columns

-- the finding that the rows fill another number of cells than the columns; nothing if the numbers
-- are equal
abbrev pub sums_finding : List ℕ → Sums → List ℕ
sums_finding name sums =
    if sums.rows == sums.columns then []
    else finding name Error (sums_text sums)

-- whether some clue doesn't fit its line, or the sums differ
abbrev pub do_clues_refute : List Misfit → Sums → Bool
do_clues_refute [] sums = not (sums.rows == sums.columns)
do_clues_refute (misfit ∷ misfits) sums = true

-- the findings on the clues of `p`: one for each of those that don't fit, and one if the sums differ
abbrev pub clue_findings : List ℕ → Nonogram → List Misfit → Sums → List ℕ
clue_findings name p misfits sums =
    flat_map (misfit_finding name p) misfits ++ sums_finding name sums

-- the finding that `p` has no solution, with what refuted it
abbrev pub refutation_finding : List ℕ → Nonogram → Refutation → List ℕ
refutation_finding name p refutation = finding name Error (refutation_text p refutation)

-- the findings on `p`, which has no solution: those on its clues, given which of them don't fit and
-- its sums; if there is none, what refuted it
abbrev pub unsolvable : List ℕ → Nonogram → List Misfit → Sums → Option Refutation → List ℕ
unsolvable name p misfits sums refutation =
    if do_clues_refute misfits sums then clue_findings name p misfits sums
    else option_map_or (refutation_finding name p) refutation []
