-- The indices at which two lines differ, by their masks.
use Rattle.grid_core.proofs.Names.{◌≡◌, ◌≢◌, ℕ, ◌<◌, ◌⊎◌, nat_eq, List, length, refl, sym, arith, IsTrue, ext_get_or, nat_tests, bit_at-zero, Cell, Unknown, Filled, Blank, Has, has, IsMaskOf, line_cells, IsChanged}
use Rattle.bit_sets.proofs.WordSteps.{some_index}
use Rattle.grid_core.proofs.LineCells.{length_seen, seen_at}
use Rattle.grid_core.specs.Lines.{IsLine}

-- two lines of one length differ at exactly the indices at which one of their masks differs
pub changed_is : (width len f b more g d x y z : ℕ) (l other : List Cell) → line_cells len f b ≡ l → line_cells more g d ≡ other
    → length other ≡ length l → IsLine width len f b → IsLine width more g d
    → IsMaskOf (λ i. has f i ≢ has g i) x → IsMaskOf (λ i. has b i ≢ has d i) y → IsMaskOf (λ i. Has x i ⊎ Has y i) z
    → IsMaskOf (IsChanged l other) z
changed_is width len f b more g d x y z l other e o same own far px py pz =
    grind (arith, nat_tests, length_seen len f b l e, length_seen more g d other o, seen_at len f b, seen_at more g d)

-- two cells that are not different are equal
pub same_cells : (c d : Cell) → (d ≢ c → ⊥) → d ≡ c
same_cells c d n = grind arith

-- lines of one length are equal exactly if the mask of their differences is empty
pub same_without_change : (line other : List Cell) (m : ℕ) → length other ≡ length line → IsMaskOf (IsChanged line other) m
    → (IsTrue (nat_eq m 0) → line ≡ other) × (line ≡ other → IsTrue (nat_eq m 0))
same_without_change line other m e p = (
  (λ t. ext_get_or Unknown line other (sym e)
      (λ k l. sym (same_cells _ _ (λ n. absurd (grind (arith, nat_tests, bit_at-zero k, p.from k (l, n))))))),
  λ s. grind (arith, nat_tests, some_index m, p.to),
)

pub ruleset alike = (length_seen, same_without_change, nat_tests)
