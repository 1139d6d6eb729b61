-- The closure is the least line-closed grid above a grid, and each solution that extends the grid extends the closure.
use Rattle.solve_core.proofs.Names.{◌≡◌, ℕ, zero, suc, ◌+◌, ◌<◌, Bool, false, List, [], ◌∷◌, length, get_or, set, map, Option, Some, None, refl, ap, ◌∙◌, arith, length-set, option_map, AllByRecursion, get_or-map, set-get_or, Cell, Unknown, Blank, CellExtends, Extends, colour, runs, GridLine, cells_at, deduced, with_cells, deduce_line, round, repeat, closure, AtMost, AtMost-trans, Extends-trans, Extends-antisym, IsLeastClosed, deduced-below, deduced-monotone, deduced-full, get_or-map_colour, rules}
use Rattle.solve_core.proofs.Order.{HasLength, join_all-above, join_all-least, below_each}
use Rattle.solve_core.proofs.Closing.{IsDeduction, repeat-above, repeat-below, repeat-least, repeat-closed, unknown_count-le}

-- if `z` extends `g`, cell `k` of `z` extends that of `g`; if there is none, any value extends it
at_more : (g z : List Cell) (k : ℕ) (d : Cell) → Extends g z → CellExtends (get_or g k Unknown) (get_or z k d)
at_more [] [] k d h = tt
at_more (x ∷ g) (y ∷ z) zero d h = h.0
at_more (x ∷ g) (y ∷ z) (suc k) d h = at_more g z k d h.1
at_more _ _ k d h = absurd h

cells_at-monotone : (g z : List Cell) (d : Cell) (indices : List ℕ) → Extends g z
    → Extends (cells_at Unknown g indices) (cells_at d z indices)
cells_at-monotone g z d [] h = tt
cells_at-monotone g z d (k ∷ indices) h = (at_more g z k d h, cells_at-monotone g z d indices h)

-- writing the cells that are there already changes nothing
pub with_cells-read : (d : Cell) (g : List Cell) (indices : List ℕ) → with_cells g indices (cells_at d g indices) ≡ g
with_cells-read d g [] = refl
with_cells-read d g (p ∷ ps) = ap (λ (r : List Cell). with_cells r ps (cells_at d g ps)) (set-get_or g p d) ∙ with_cells-read d g ps

-- writing a cell is monotone in the grid and in the cell
pub set-monotone : (g z : List Cell) (k : ℕ) (c d : Cell) → Extends g z → CellExtends c d → Extends (set g k c) (set z k d)
set-monotone [] [] k c d h e = tt
set-monotone (x ∷ g) (y ∷ z) zero c d h e = (e, h.1)
set-monotone (x ∷ g) (y ∷ z) (suc k) c d h e = (h.0, set-monotone g z k c d h.1 e)
set-monotone _ _ k c d h e = absurd h

-- writing several cells is monotone in the grid and in the cells
pub with_cells-monotone : (g z : List Cell) (indices : List ℕ) (cs ds : List Cell) → Extends g z → Extends cs ds →
    Extends (with_cells g indices cs) (with_cells z indices ds)
with_cells-monotone g z (k ∷ indices) (c ∷ cs) (d ∷ ds) h e =
    with_cells-monotone (set g k c) (set z k d) indices cs ds (set-monotone g z k c d h e.0) e.1
with_cells-monotone g z (k ∷ indices) [] (d ∷ ds) h e = absurd e
with_cells-monotone g z (k ∷ indices) (c ∷ cs) [] h e = absurd e
with_cells-monotone g z _ _ _ h e = h

written-monotone : (g z : List Cell) (indices : List ℕ) (o p : Option (List Cell)) → Extends g z → AtMost o p →
    AtMost (option_map (with_cells g indices) o) (option_map (with_cells z indices) p)
written-monotone g z indices o p h k = search (rules, with_cells-monotone)

-- deducing a line is monotone: a grid that knows more yields no less
pub deduce_line-monotone : (line : GridLine) (g z : List Cell) → Extends g z → AtMost (deduce_line g line) (deduce_line z line)
deduce_line-monotone line g z h = search (rules, written-monotone, deduced-monotone, cells_at-monotone)

-- writing cells doesn't change the length of a grid
pub length-with_cells : (g : List Cell) (indices : List ℕ) (cs : List Cell) → length (with_cells g indices cs) ≡ length g
length-with_cells g [] cs = refl
length-with_cells g (k ∷ indices) [] = refl
length-with_cells g (k ∷ indices) (c ∷ cs) = length-with_cells (set g k c) indices cs ∙ length-set g k c

length-written : (g : List Cell) (indices : List ℕ) (o : Option (List Cell)) → HasLength (length g) (option_map (with_cells g indices) o)
length-written g indices o = search (rules, length-with_cells)

-- the grid with a line deduced is dead or as long as before
lengths : (g : List Cell) (lines : List GridLine) → AllByRecursion (HasLength (length g)) (map (deduce_line g) lines)
lengths g [] = tt
lengths g (line ∷ lines) = (length-written g line.indices (deduced (cells_at Unknown g line.indices) line.clue), lengths g lines)

-- a round only adds known cells
pub round-above : (lines : List GridLine) (g : List Cell) → AtMost (Some g) (round lines g)
round-above lines g = (join_all-above g (map (deduce_line g) lines) (lengths g lines)).0

-- a round is above the deduction of each line
pub round-above_each : (lines : List GridLine) (g : List Cell) → AllByRecursion (λ o. AtMost o (round lines g)) (map (deduce_line g) lines)
round-above_each lines g = (join_all-above g (map (deduce_line g) lines) (lengths g lines)).1

-- if `z` extends `g`, a grid `w` above all deductions from `z` is above all deductions from `g`
lines_above : (lines : List GridLine) (g z w : List Cell) → Extends g z →
    AllByRecursion (λ o. AtMost o (Some w)) (map (deduce_line z) lines) →
    AllByRecursion (λ o. AtMost o (Some w)) (map (deduce_line g) lines)
lines_above [] g z w h k = tt
lines_above (line ∷ lines) g z w h k =
    (AtMost-trans (deduce_line g line) (deduce_line z line) (Some w) (deduce_line-monotone line g z h) k.0, lines_above lines g z w h k.1)

pub round-deduction : (lines : List GridLine) → IsDeduction (round lines)
round-deduction lines = record {
  above = round-above lines;
  monotone = λ g z h. below_each (round lines g) (round lines z) (λ w is.
      join_all-least g w (map (deduce_line g) lines) (Extends-trans g z w h (rw is at (round-above lines z)))
      (lines_above lines g z w h (rw is at (round-above_each lines z))));
}

-- a deduction repeated once more than there are cells yields the least fixpoint above the first grid
pub repeat-IsLeastClosed : (f : List Cell → Option (List Cell)) → IsDeduction f → (g : List Cell) →
    IsLeastClosed f g (repeat f (length g + 1) g)
repeat-IsLeastClosed f d g = record {
  above = repeat-above f d.above (length g + 1) g;
  closed = λ z e. repeat-closed f d.above (length g + 1) g z (omega (arith, unknown_count-le g)) e;
  least = λ z e h. repeat-least f d (length g + 1) g z e h;
}

-- the closure is the least line-closed grid that extends the grid, or dead if there is none
pub closure-IsLeastClosed : (lines : List GridLine) (g : List Cell) → IsLeastClosed (round lines) g (closure lines g)
closure-IsLeastClosed lines g = repeat-IsLeastClosed (round lines) (round-deduction lines) g

-- the least grid above `g` that `f` leaves unchanged is unique
pub IsLeastClosed-unique : (f : List Cell → Option (List Cell)) (g : List Cell) (a b : Option (List Cell)) → IsLeastClosed f g a →
    IsLeastClosed f g b → a ≡ b
IsLeastClosed-unique f g None None h k = refl
IsLeastClosed-unique f g None (Some y) h k = absurd (h.least y (k.closed y refl) k.above)
IsLeastClosed-unique f g (Some x) None h k = absurd (k.least x (h.closed x refl) h.above)
IsLeastClosed-unique f g (Some x) (Some y) h k = search (rules, Extends-antisym)

-- `full`, a full grid, meets the clue of each of `lines`
abbrev pub MeetsLines : List GridLine → List Bool → Type 0
MeetsLines lines full = AllByRecursion (λ line. runs (cells_at false full line.indices) ≡ line.clue) lines

read-colour : (full : List Bool) (indices : List ℕ) → cells_at Blank (map colour full) indices ≡ map colour (cells_at false full indices)
read-colour full [] = refl
read-colour full (k ∷ indices) = λ i. get_or-map colour full k false i ∷ read-colour full indices i

lines_below : (lines : List GridLine) (full : List Bool) (g : List Cell) → MeetsLines lines full → Extends g (map colour full) →
    AllByRecursion (λ o. AtMost o (Some (map colour full))) (map (deduce_line g) lines)
lines_below [] full g m h = tt
lines_below (line ∷ lines) full g m h =
    let z = map colour full in
    let same = read-colour full line.indices in
    let old = cells_at Unknown g line.indices in
    let below : AtMost (deduced old line.clue) (Some (cells_at Blank z line.indices)) =
    rw same (deduced-below old line.clue (cells_at false full line.indices)
    (record { extends = rw same at (cells_at-monotone g z Blank line.indices h); runs_are = m.0 })) in (
      rw (with_cells-read Blank z line.indices) at
          (written-monotone g z line.indices (deduced old line.clue) (Some (cells_at Blank z line.indices)) h below),
      lines_below lines full g m.1 h,
    )

-- if a solution extends a grid, it extends the grid after a round
pub round-below : (lines : List GridLine) (full : List Bool) → MeetsLines lines full → (g : List Cell) → Extends g (map colour full) →
    AtMost (round lines g) (Some (map colour full))
round-below lines full m g h = join_all-least g (map colour full) (map (deduce_line g) lines) h (lines_below lines full g m h)

-- each solution that extends a grid extends its closure, which is therefore alive
pub closure-below : (lines : List GridLine) (full : List Bool) → MeetsLines lines full → (g : List Cell) → Extends g (map colour full) →
    AtMost (closure lines g) (Some (map colour full))
closure-below lines full m g h = repeat-below (round lines) (map colour full) (round-below lines full m) (length g + 1) g h

-- an outcome that is both above and below `z` is `z`
pub same_at_most : (z : List Cell) (o : Option (List Cell)) → AtMost (Some z) o → AtMost o (Some z) → o ≡ Some z
same_at_most z None h k = absurd k
same_at_most z (Some w) h k = ap (λ (r : List Cell). Some r) (Extends-antisym w z k h)

-- the cell indices of each line are below `n`
abbrev pub AreInRange : ℕ → List GridLine → Type 0
AreInRange n lines = AllByRecursion (λ line. AllByRecursion (λ k. k < n) line.indices) lines

cells_at-colour : (full : List Bool) (indices : List ℕ) → AllByRecursion (λ k. k < length full) indices →
    cells_at Unknown (map colour full) indices ≡ map colour (cells_at false full indices)
cells_at-colour full [] h = refl
cells_at-colour full (k ∷ indices) h = λ i. get_or-map_colour full k h.0 i ∷ cells_at-colour full indices h.1 i

meets_each : (lines : List GridLine) (full : List Bool) (w : List Cell) → AreInRange (length full) lines →
    AllByRecursion (λ o. AtMost o (Some w)) (map (deduce_line (map colour full)) lines) → MeetsLines lines full
meets_each [] full w r h = tt
meets_each (line ∷ lines) full w r h = search (rules, cells_at-colour, deduced-full, (meets_each lines full w r.1 h.1))

-- a full grid that a round leaves alive meets its lines
pub full-meets : (lines : List GridLine) (full : List Bool) (w : List Cell) → AreInRange (length full) lines →
    round lines (map colour full) ≡ Some w → MeetsLines lines full
full-meets lines full w r e =
    let z = map colour full in
    meets_each lines full w r (rw e at (round-above_each lines z))
