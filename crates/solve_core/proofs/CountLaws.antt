-- The known neighbours of a row's cells, by the sets of unknown cells.
use Rattle.solve_core.proofs.Names.{◌≡◌, ℕ, ◌+◌, ◌-◌, ◌*◌, ◌<◌, ◌≤◌, nat_eq, nat_lt, length, get_or, inl, inr, arith, cases_eq, eq-eqb, eqb-false, ne_eqb, le-leb, lt-leb, le-ltb, lt-ltb, mod-mul-add, true≢false, false, Unknown, is_known, has, Has, IsMaskOf, IsUnknownIn, IsShifted, PartialGrid, rules, ◌∙◌, is_known_or_outside, is_above_known, is_below_known, count_beside, count_across, known_neighbours, is_left_known, is_right_known, two_of, Option, Some, None, IsFirstHighest}
use Rattle.std.specs.Prelude.{not, ◌||◌}
use Rattle.grid_core.proofs.LineCells.{has_by}
use Rattle.grid_core.proofs.LineLaws.{index-within}

-- a cell is known unless it is in the set of the unknown cells of its row
pub known_is : (g : PartialGrid) (y unknown x : ℕ) → IsMaskOf (IsUnknownIn g y) unknown → length g.cells ≡ g.width * g.height →
    y < g.height → x < g.width → not (has unknown x) ≡ is_known (get_or g.cells (y * g.width + x) Unknown)
known_is g y unknown x u count ly lx = grind (arith, has_by, index-within, true≢false)

-- a cell outside `m` is in the complement of `m`
pub complement_is : (len m c x : ℕ) → IsMaskOf (λ i. (i < len) × (has m i ≡ false)) c → x < len → has c x ≡ not (has m x)
complement_is len m c x h l = grind (arith, has_by, true≢false)

-- the cells whose left neighbour isn't in `unknown`
left_is : (w unknown up x : ℕ) → IsMaskOf (IsShifted w (Has unknown) 1) up → x < w →
    not (has up x) ≡ (nat_eq x 0 || not (has unknown (x - 1)))
left_is w unknown up x u h = grind (arith, has_by, true≢false, eq-eqb, eqb-false)

-- the cells whose right neighbour isn't in `unknown`
right_is : (unknown down x : ℕ) → IsMaskOf (λ i. Has unknown (i + 1)) down → not (has down x) ≡ not (has unknown (x + 1))
right_is unknown down x d = grind (arith, has_by, true≢false)

-- the set of the cells whose left neighbour isn't in `unknown`, and that of those whose right one isn't, count them
pub beside_is : (w len unknown up down left right x : ℕ) → len ≤ w → IsMaskOf (IsShifted w (Has unknown) 1) up →
    IsMaskOf (λ i. Has unknown (i + 1)) down → IsMaskOf (λ i. (i < len) × (has up i ≡ false)) left →
    IsMaskOf (λ i. (i < len) × (has down i ≡ false)) right → x < len → two_of (has left x) (has right x) ≡ count_beside unknown x
beside_is w len unknown up down left right x fits u d l r h = λ i.
    two_of ((complement_is len up left x l h ∙ left_is w unknown up x u (omega arith)) i)
    ((complement_is len down right x r h ∙ right_is unknown down x d) i)

-- the cell in the row above is the neighbour above
pub above_is : (g : PartialGrid) (y x : ℕ) → x < g.width →
    is_known_or_outside (nat_eq y 0) (get_or g.cells ((y - 1) * g.width + x) Unknown)
    ≡ is_above_known g.width g.cells (y * g.width + x)
above_is g y x l = search (rules, nat_eq, nat_lt, lt-ltb, ne_eqb, le-ltb, eqb-false)

-- the cell in the row below is the neighbour below
pub below_is : (g : PartialGrid) (y x : ℕ) → y < g.height → x < g.width → length g.cells ≡ g.width * g.height →
    is_known_or_outside (nat_eq (y + 1) g.height) (get_or g.cells ((y + 1) * g.width + x) Unknown)
    ≡ is_below_known g.width g.cells (y * g.width + x)
below_is g y x ly lx count = elim (cases_eq (y + 1) g.height) [
  | inl last ↦ search (rules, eq-eqb, le-leb)
  | inr other ↦ search (rules, ne_eqb, lt-leb, (index-within g.width g.height x (y + 1) lx (omega (arith, ly, other))))
]

-- the neighbours beside a cell, and those above and below it, are its four neighbours
pub neighbours_are : (g : PartialGrid) (y unknown x : ℕ) → IsMaskOf (IsUnknownIn g y) unknown → length g.cells ≡ g.width * g.height →
    y < g.height → x < g.width → count_beside unknown x + count_across g y x ≡ known_neighbours g.width g.cells (y * g.width + x)
neighbours_are g y unknown x u count ly lx = (λ i. two_of (left i) (right i) + count_across g y x) ∙ omega arith
  where
    left : (nat_eq x 0 || not (has unknown (x - 1))) ≡ is_left_known g.width g.cells (y * g.width + x)
    left = search (rules, nat_eq, mod-mul-add, eqb-false, known_is)

    right : not (has unknown (x + 1)) ≡ is_right_known g.width g.cells (y * g.width + x)
    right = search (rules, nat_eq, mod-mul-add, eqb-false, known_is)

-- the highest score of the indices in a mask is that of the indices which the mask stands for
pub highest_by : (f g : ℕ → ℕ) (P : ℕ → Type 0) (mask least : ℕ) (found : Option (ℕ × ℕ)) → IsMaskOf P mask →
    ((x : ℕ) → P x → f x ≡ g x) → IsFirstHighest f (Has mask) least found → IsFirstHighest g P least found
highest_by f g P mask least None m same h = grind arith
highest_by f g P mask least (Some found) m same h = grind arith
