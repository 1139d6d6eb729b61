-- The order of grids by what they know, and joins in it.
use Rattle.solve_core.proofs.Names.{◌≡◌, ℕ, zero, suc, List, [], ◌∷◌, length, get_or, set, Option, Some, None, refl, sym, arith, option_and_then, AllByRecursion, Cell, Unknown, CellExtends, Extends, join_cells, join, join_all, option_cons, AtMost, Extends-refl, length-Extends, AtMost-trans}

-- a cell is at most an outcome: the outcome extends it, or is `None`, the greatest
abbrev pub CellAtMost : Cell → Option Cell → Type 0
CellAtMost c None = Unit {0}
CellAtMost c (Some d) = CellExtends c d

join_cells-left : (c d : Cell) → CellAtMost c (join_cells c d)
join_cells-left c d = grind arith

join_cells-right : (c d : Cell) → CellAtMost d (join_cells c d)
join_cells-right c d = grind (arith, Extends-refl)

-- a cell that extends two cells extends their join
join_cells-least : (c d z : Cell) → CellExtends c z → CellExtends d z → (j : Cell) × (join_cells c d ≡ Some j) × CellExtends j z
join_cells-least c d z h k = grind arith

pub cons_at_most : (c : Cell) (g : List Cell) (o : Option Cell) (os : Option (List Cell)) → CellAtMost c o → AtMost (Some g) os →
    AtMost (Some (c ∷ g)) (option_cons o os)
cons_at_most c g o os h k = grind arith

pub join-left : (a b : List Cell) → length a ≡ length b → AtMost (Some a) (join a b)
join-left [] b h = tt
join-left (c ∷ a) [] h = tt
join-left (c ∷ a) (d ∷ b) h = cons_at_most c a (join_cells c d) (join a b) (join_cells-left c d) (join-left a b (omega arith))

pub join-right : (a b : List Cell) → length a ≡ length b → AtMost (Some b) (join a b)
join-right [] [] h = tt
join-right [] (d ∷ b) h = absurd (omega arith)
join-right (c ∷ a) [] h = tt
join-right (c ∷ a) (d ∷ b) h = cons_at_most d b (join_cells c d) (join a b) (join_cells-right c d) (join-right a b (omega arith))

pub join-least : (a b z : List Cell) → Extends a z → Extends b z → (j : List Cell) × (join a b ≡ Some j) × Extends j z
join-least [] b [] h k = ([], refl, tt)
join-least (c ∷ a) (d ∷ b) (e ∷ z) h k =
    let cell = join_cells-least c d e h.0 k.0 in
    let rest = join-least a b z h.1 k.1 in
    (cell.0 ∷ rest.0, rw (cell.1, rest.1) refl, (cell.2, rest.2))
join-least (c ∷ a) [] (e ∷ z) h k = absurd k
join-least _ _ _ h k = absurd h

-- the outcome is a grid of `n` cells, or dead
abbrev pub HasLength : ℕ → Option (List Cell) → Type 0
HasLength n None = Unit {0}
HasLength n (Some g) = length g ≡ n

-- a grid that extends `g` and each of `os` extends their join
pub join_all-least : (g z : List Cell) (os : List (Option (List Cell))) → Extends g z → AllByRecursion (λ o. AtMost o (Some z)) os →
    AtMost (join_all g os) (Some z)
join_all-least g z [] h k = h
join_all-least g z (None ∷ os) h k = absurd k.0
join_all-least g z (Some d ∷ os) h k =
    let j = join-least g d z h k.0 in
    rw j.1 (join_all-least j.0 z os j.2 k.1)

dead_above : (os : List (Option (List Cell))) → AllByRecursion (λ o. AtMost o None) os
dead_above [] = tt
dead_above (o ∷ os) = (tt, dead_above os)

-- the join of a grid with others is above each of them, if all are equally long or dead
pub join_all-above : (g : List Cell) (os : List (Option (List Cell))) → AllByRecursion (HasLength (length g)) os →
    AllByRecursion (λ o. AtMost o (join_all g os)) (Some g ∷ os)
join_all-above g [] h = (Extends-refl g, tt)
join_all-above g (None ∷ os) h = (tt, (tt, dead_above os))
join_all-above g (Some d ∷ os) h =
    elim (join g d) as (λ o. AtMost (Some g) o → AtMost (Some d) o →
    AllByRecursion (λ p. AtMost p (option_and_then (λ joined. join_all joined os) o)) (Some g ∷ Some d ∷ os)) [
      | None ↦ (λ k l. (tt, (tt, dead_above os)))
      | Some j ↦ (λ k l.
          let rest = join_all-above j os (rw (sym (length-Extends g j k)) h.1) in
          let under = λ (x : List Cell) (m : Extends x j). AtMost-trans (Some x) (Some j) (join_all j os) m rest.0 in
          (under g k, (under d l, rest.1)))
    ]
    (join-left g d (sym h.0)) (join-right g d (sym h.0))

-- `x` is below the outcome `o` if it is below each grid that `o` can be
pub below_each : (x o : Option (List Cell)) → ((w : List Cell) → o ≡ Some w → AtMost x (Some w)) → AtMost x o
below_each x o h = grind arith

-- a grid below `b` stays below it if it gets a cell that `b` has
pub set_within : (a b : List Cell) (i : ℕ) (d : Cell) → Extends a b → CellExtends d (get_or b i Unknown) → Extends (set a i d) b
set_within [] [] i d e f = tt
set_within (x ∷ a) (y ∷ b) zero d e f = (f, e.1)
set_within (x ∷ a) (y ∷ b) (suc i) d e f = (e.0, set_within a b i d e.1 f)
set_within _ _ i d e f = absurd e

-- a grid with an unknown cell assigned extends the old grid
pub set_extends : (g : List Cell) (k : ℕ) (c : Cell) → get_or g k Unknown ≡ Unknown → Extends g (set g k c)
set_extends [] k c e = tt
set_extends (x ∷ g) zero c e = (rw e tt, Extends-refl g)
set_extends (x ∷ g) (suc k) c e = ((Extends-refl (x ∷ [])).0, set_extends g k c e)
