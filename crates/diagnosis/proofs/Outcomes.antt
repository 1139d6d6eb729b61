-- What the outcome of a diagnosis says of the verdict that it was made of.
use Rattle.std.proofs.Common.{◌≡◌, ℕ, List, Option, Some, None, Vec, option_map, refl}
use Rattle.std.specs.declared.alloc.Global.{Global}
use Rattle.std.specs.Borrow.{Bor}
use Rattle.grid_core.specs.Nonogram.{Nonogram}
use Rattle.grid_core.specs.PartialGrid.{PartialGrid}
use Rattle.solve_core.specs.declared.findings.Grade.{Grade}
use Rattle.solve_core.specs.declared.findings.Verdict.{Verdict}
use Rattle.solve_core.specs.declared.findings.Verdict.TheVariants.{Nothing, One, Several, Unsettled as Undecided}
use Rattle.diagnosis.specs.declared.contradictions.Refutation.{Refutation}
use Rattle.diagnosis.specs.declared.diagnosing.Outcome.{Outcome}
use Rattle.diagnosis.specs.declared.diagnosing.Outcome.TheVariants.{Ambiguous, Refuted, Unique, Unsettled}
use Rattle.diagnosis.specs.declared.differences.Position.{Position}
use Rattle.diagnosis.specs.Contradictions.{refutation_of}
use Rattle.diagnosis.specs.Diagnoses.{IsOutcomeBy}
use Rattle.diagnosis.specs.Differences.{differing_cells}
use Rattle.diagnosis.specs.Goals.{goal_rows}

-- the verdict is `Nothing`, and this refuted `p`
pub record WasRefutedBy (p : Nonogram) (verdict : Verdict) (grade : Grade) (refutation : Refutation) : Type 0 where
  pub nothing : verdict ≡ Nothing
  pub by : refutation_of p grade ≡ Some refutation

pub refuted_by : (p : Nonogram) (verdict : Verdict) (grade : Grade) (refutation : Refutation) → IsOutcomeBy p verdict grade (Refuted refutation)
    → WasRefutedBy p verdict grade refutation
refuted_by p Nothing grade refutation e = record { nothing = refl; by = found (refutation_of p grade) e }
  where
    found : (o : Option Refutation) → option_map Refuted o ≡ Some (Refuted refutation) → o ≡ Some refutation
    found None e = absurd (cc)
    found (Some other) e = (cc)
refuted_by p (One found) grade refutation e = absurd e
refuted_by p (Several first second) grade refutation e = absurd e
refuted_by p (Undecided found) grade refutation e = absurd (cc)

-- the verdict is `One`, and in these rows that solution and the goal differ
pub record IsUniqueBy (p : Nonogram) (verdict : Verdict) (rows : List ℕ) : Type 0 where
  pub found : PartialGrid
  pub one : verdict ≡ One found
  pub differ : rows ≡ goal_rows p found

pub unique_by : (p : Nonogram) (verdict : Verdict) (grade : Grade) (rows : Vec ℕ Global) → IsOutcomeBy p verdict grade (Unique rows)
    → IsUniqueBy p verdict rows.items
unique_by p Nothing grade rows e = absurd (none (refutation_of p grade) e)
  where
    none : (o : Option Refutation) → option_map Refuted o ≡ Some (Unique rows) → ⊥
    none None e = absurd (cc)
    none (Some other) e = absurd (cc)
unique_by p (One found) grade rows e = record { found = found; one = refl; differ = e }
unique_by p (Several first second) grade rows e = absurd e
unique_by p (Undecided found) grade rows e = absurd (cc)

-- the verdict is `Several` with these solutions, and in these cells they differ
pub record IsAmbiguousBy (verdict : Verdict) (g h : PartialGrid) (cells : List Position) : Type 0 where
  pub several : verdict ≡ Several g h
  pub differ : cells ≡ differing_cells g h

pub ambiguous_by : (p : Nonogram) (verdict : Verdict) (grade : Grade) (first second : Bor PartialGrid) (cells : Vec Position Global)
    → IsOutcomeBy p verdict grade (Ambiguous first second cells) → IsAmbiguousBy verdict first.now second.now cells.items
ambiguous_by p Nothing grade first second cells e = absurd (none (refutation_of p grade) e)
  where
    none : (o : Option Refutation) → option_map Refuted o ≡ Some (Ambiguous first second cells) → ⊥
    none None e = absurd (cc)
    none (Some other) e = absurd (cc)
ambiguous_by p (One found) grade first second cells e = absurd e
ambiguous_by p (Several g h) grade first second cells e =
    record { several = rw (e.0, e.1) refl; differ = rw (e.0, e.1) e.2 }
ambiguous_by p (Undecided found) grade first second cells e = absurd (cc)

-- the verdict is `Unsettled`
pub record IsUnsettled (verdict : Verdict) : Type 0 where
  pub found : Option PartialGrid
  pub unsettled : verdict ≡ Undecided found

pub unsettled_by : (p : Nonogram) (verdict : Verdict) (grade : Grade) → IsOutcomeBy p verdict grade Unsettled → IsUnsettled verdict
unsettled_by p Nothing grade e = absurd (none (refutation_of p grade) e)
  where
    none : (o : Option Refutation) → option_map Refuted o ≡ Some Unsettled → ⊥
    none None e = absurd (cc)
    none (Some other) e = absurd (cc)
unsettled_by p (One found) grade e = absurd e
unsettled_by p (Several g h) grade e = absurd e
unsettled_by p (Undecided found) grade e = record { found = found; unsettled = refl }
