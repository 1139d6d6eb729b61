-- Two tests at each cell, whether it can be filled and whether it can be blank, determine the deduced line.
use Rattle.line_core.proofs.Names.{rules, ◌≡◌, ℕ, Bool, true, false, List, get_or, refl, false_from_ne_true, Cell, shared_at, agrees, runs, deduced_cell, true_from_ne_false}
use Rattle.line_core.proofs.DeductionLaws.{IsPlacing, ListsPlacings, not_all, filled_at, blank_at, agrees_is}

-- some placing of `clue` on `line` has the colour `filled` at cell `i`
abbrev pub CanBe : List Cell → List ℕ → Bool → ℕ → Type 0
CanBe line clue filled i = (full : List Bool) × (agrees line full ≡ true) × (runs full ≡ clue) × (get_or full i false ≡ filled)

-- the test `b` passes exactly if `P` holds
pub record IsTestOf (P : Type 0) (b : Bool) : Type 0 where
  pub to : b ≡ true → P
  pub from : P → b ≡ true

-- the colour that all placings share at cell `k` is the deduced one, if `f` and `b` test whether it can be filled and
-- blank
pub deduced_cell_is : (l : List Cell) (clue : List ℕ) (ps : List (List Bool)) (k : ℕ) → ListsPlacings l clue ps → (y : List Bool)
    → IsPlacing l clue y
    → (f b : Bool) → IsTestOf (CanBe l clue true k) f → IsTestOf (CanBe l clue false k) b → shared_at ps k ≡ deduced_cell f b
deduced_cell_is l clue ps k listed y p true true tf tb =
    let x = tf.to refl in
    let z = tb.to refl in search (rules, not_all l clue ps listed (filled_at k) z.0, not_all l clue ps listed (blank_at k) x.0, agrees_is)
deduced_cell_is l clue ps k listed y p f b tf tb = search (rules, true_from_ne_false, false_from_ne_true, not_all, agrees_is)
