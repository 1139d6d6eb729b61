-- The record of consistent colours: why it stays correct, and which cells need no trial by it.
use Rattle.std.proofs.Math.Nat.{mod-add-div'}
use Rattle.solve_core.proofs.Names.{◌≡◌, ℕ, ◌+◌, ◌*◌, ◌/◌, ◌%◌, ◌<◌, ◌≤◌, ◌⊎◌, ◌∙◌, inl, inr, false, List, length, set, get_or, Some, sym, ap, arith, cases_Bool, cases_eq, div-mul-add, mod-mul-add, get_or-set_same, get_or-set_other, get_or_default, Cell, Unknown, Extends, Has, has, IsMaskOf, IsUnknownCell, Nonogram, Rows, lines_of, round, is_refuted, TrailedGrid, cells_along, ColourMasks, mask_of, no_colours, AreBothRecorded, AreConsistent, rules}
use Rattle.bit_sets.proofs.HasLemmas.{true_has}
use Rattle.solve_core.proofs.GridLineSteps.{get_or-along, length-along, passed}
use Rattle.solve_core.proofs.TrialSteps.{met_consistent}
use Rattle.solve_core.specs.steps.Trails.{CanAssign}

-- the record stays correct if the colours added in a row aren't refuted
more_consistent : (p : Nonogram) (rows : List ColourMasks) (row : ColourMasks) (y : ℕ) (cells : List Cell) → AreConsistent p rows cells →
    y < length rows → ((k : ℕ) (c : Cell) → CanAssign cells k c → k / p.width ≡ y → Has (mask_of c row) (k % p.width) →
    Has (mask_of c (get_or rows y no_colours)) (k % p.width) ⊎ (is_refuted (lines_of p) cells k c ≡ false)) →
    AreConsistent p (set rows y row) cells
more_consistent p rows row y cells before ly more = search (rules, cases_eq, get_or-set_same, get_or-set_other)

-- the record stays correct if a colour that isn't refuted is added at column `x` of row `y`
pub one_more : (p : Nonogram) (rows : List ColourMasks) (old row : ColourMasks) (x y : ℕ) (colour : Cell) (cells : List Cell)
    → x < p.width → is_refuted (lines_of p) cells (y * p.width + x) colour ≡ false → AreConsistent p rows cells → y < length rows
    → old ≡ get_or rows y old
    → ((c : Cell) (i : ℕ) → Has (mask_of c row) i → Has (mask_of c old) i ⊎ ((c ≡ colour) × (i ≡ x)))
    → AreConsistent p (set rows y row) cells
one_more p rows old row x y colour cells lx free before ly is only =
    more_consistent p rows row y cells before ly (λ k c can at h. elim (only c (k % p.width) h) [
      | inl was ↦ inl (rw (is ∙ get_or_default rows y old no_colours ly) at was)
      | inr new ↦ (let place : y * p.width + x ≡ k = omega (arith, rw (at, new.1) at (mod-add-div' k p.width)) in
          inr (rw (← place, new.0) free))
    ])

-- the record stays correct if the known cells of a row of a line-closed grid are added
pub all_consistent : (p : Nonogram) (rows : List ColourMasks) (old row : ColourMasks) (line : List Cell) (g : TrailedGrid) (y : ℕ)
    (cells : List Cell) → 0 < p.width → AreConsistent p rows cells → y < length rows → old ≡ get_or rows y old → g.width ≡ p.width →
    round (lines_of p) g.cells ≡ Some g.cells → Extends cells g.cells → line ≡ cells_along g Rows y →
    ((c : Cell) (i : ℕ) → i < length line → Has (mask_of c row) i → Has (mask_of c old) i ⊎ (get_or line i Unknown ≡ c)) →
    AreConsistent p (set rows y row) cells
all_consistent p rows old row line g y cells some before ly is wide closed more along only =
    let w = p.width in
    let is_row = rw wide at along in
    let long : length line ≡ w = ap length is_row ∙ length-along g.cells (y * w) 1 w in
    more_consistent p rows row y cells before ly (λ k c can at h. elim (only c (k % w) (omega (arith, long, some)) h) [
      | inl was ↦ inl (rw (is ∙ get_or_default rows y old no_colours ly) at was)
      | inr new ↦ (let place : y * w + k % w * 1 ≡ k = rw (← at) (omega (arith, mod-add-div' k w)) in
          inr (met_consistent (lines_of p) cells g.cells k c closed more
          (sym (get_or-along g.cells (y * w) 1 w (k % w) k (omega (arith, some)) place) ∙ rw is_row at new)))
    ])

-- both colours are recorded at the unknown cells up to column `end` of row `y`, if they are up to `column`, and from
-- there on `untried` has none of the row's cells
pub tried_before : (rows : List ColourMasks) (cells : List Cell) (w y column end from near tried untried : ℕ) → end ≤ w →
    ((x : ℕ) → x < w → IsUnknownCell cells (y * w + x) → Has near x) → IsMaskOf (λ x. AreBothRecorded rows x y) tried →
    IsMaskOf (λ x. Has near x × (has tried x ≡ false)) untried → ((x : ℕ) → column ≤ x → x < end → Has untried x → ⊥) →
    ((k : ℕ) → from ≤ k → k < y * w + column → IsUnknownCell cells k → AreBothRecorded rows (k % w) (k / w)) →
    (k : ℕ) → from ≤ k → k < y * w + end → IsUnknownCell cells k → AreBothRecorded rows (k % w) (k / w)
tried_before rows cells w y column end from near tried untried within each both left none before =
    passed (λ k. IsUnknownCell cells k → AreBothRecorded rows (k % w) (k / w)) w y column end from before (λ x low high unknown.
    let lx : x < w = omega (arith, high, within) in
    rw (mod-mul-add y w x lx, div-mul-add y w x lx) (elim (cases_Bool (has tried x)) [
      | inl is ↦ both.to x (true_has tried x is)
      | inr not ↦ absurd (none x low high (left.from x (each x lx unknown, not)))
    ]))
