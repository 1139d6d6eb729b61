-- How a search ends, as a function of its events.
use Rattle.std.specs.Prelude.{ℕ, zero, suc, Bool, true, false, List, [], ◌∷◌}
use Rattle.grid_core.specs.PartialGrid.{PartialGrid}
use Rattle.grid_core.specs.Nonogram.{Nonogram}
use Rattle.solve_core.specs.Search.{Event, Guess, Solution}
use Rattle.solve_core.specs.Report.{grid_of}

-- how a search ends: the solutions that it found, whether the limit on guesses cut it short, and
-- how many guesses it spent
pub record Ending : Type 0 where
  pub found : List PartialGrid
  pub cut : Bool
  pub spent : ℕ

-- how a search ends that has found these grids, has spent `spent` guesses, may spend `left` more,
-- and continues with the events `es`. It ends at the second solution
abbrev pub ending : Nonogram → List PartialGrid → ℕ → ℕ → List Event → Ending
ending p (first ∷ second ∷ more) spent left es =
    record { found = first ∷ second ∷ more; cut = false; spent = spent }
ending p [] spent left [] = record { found = []; cut = false; spent = spent }
ending p [] spent left (Solution cells ∷ es) = ending p (grid_of p cells ∷ []) spent left es
ending p [] spent zero (Guess ∷ es) = record { found = []; cut = true; spent = spent }
ending p [] spent (suc left) (Guess ∷ es) = ending p [] (suc spent) left es
ending p (first ∷ []) spent left [] = record { found = first ∷ []; cut = false; spent = spent }
ending p (first ∷ []) spent left (Solution cells ∷ es) =
    ending p (first ∷ grid_of p cells ∷ []) spent left es
ending p (first ∷ []) spent zero (Guess ∷ es) =
    record { found = first ∷ []; cut = true; spent = spent }
ending p (first ∷ []) spent (suc left) (Guess ∷ es) = ending p (first ∷ []) (suc spent) left es
