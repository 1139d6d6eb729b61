-- What a deducer starts with: clues that fit into its sets, and nothing deduced.
use Rattle.solve_core.proofs.Names.{◌≡◌, ℕ, ◌≤◌, ◌++◌, List, [], ◌∷◌, arith, true, AllByRecursion, recursion_from_All, IsNonogram, MAX_SIDE, Nonogram}
use Rattle.grid_core.specs.Clues.{is_clue}
use Rattle.line_core.proofs.LineCells.{clue_within}
use Rattle.solve_core.proofs.TrailSteps.{all_append}
use Rattle.solve_core.specs.steps.Widths.{FitsIn}
use Rattle.std.specs.List.{All}
use Rattle.line_core.specs.Lookahead.{Table}
use Rattle.solve_core.proofs.TableSteps.{empty_tables}
use Rattle.solve_core.specs.steps.LookaheadTables.{AreEmpty}
use Rattle.solve_core.specs.steps.DeductionCache.{AreDeductionsOf, CachedLine}

-- clues fit into sets of `width` indices if their numbers do
fit : (width : ℕ) (clues : List (List ℕ)) → AllByRecursion (λ clue. is_clue MAX_SIDE clue ≡ true) clues
    → AllByRecursion (All (λ number. number ≤ width)) clues → AllByRecursion (λ clue. is_clue width clue ≡ true) clues
fit width [] are within = tt
fit width (clue ∷ clues) are within = (clue_within MAX_SIDE width clue are.0 within.0, fit width clues are.1 within.1)

-- the clues of a puzzle fit into its sets
pub clues_fit : (width : ℕ) (p : Nonogram) → IsNonogram p → FitsIn width p.rows p.columns
    → AllByRecursion (λ clue. is_clue width clue ≡ true) (p.rows ++ p.columns)
clues_fit width p is fits =
    all_append (λ clue. is_clue width clue ≡ true) p.rows p.columns (fit width p.rows is.rows (recursion_from_All _ p.rows fits.rows_fit))
    (fit width p.columns is.columns (recursion_from_All _ p.columns fits.columns_fit))

-- nothing is deduced yet
pub none_deduced : (width : ℕ) (clues : List (List ℕ)) (entries : List CachedLine) (tables : List Table)
    → AllByRecursion (λ clue. is_clue width clue ≡ true) clues → entries ≡ [] → AreEmpty tables → AreDeductionsOf width clues entries tables
none_deduced width clues entries tables fits none empty = record {
  fit = fits;
  right = rw none (λ k d h. absurd (omega arith));
  tables_are = empty_tables clues tables empty;
}
