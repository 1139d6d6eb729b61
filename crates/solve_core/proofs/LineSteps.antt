-- Writing a line into a grid: which cells change, and what becomes of the closure.
use Rattle.solve_core.proofs.Names.{◌≡◌, ◌≢◌, ℕ, zero, suc, ◌+◌, ◌*◌, ◌<◌, true, List, [], ◌∷◌, length, get_or, set, Option, Some, None, option_map, refl, sym, ap, ◌∙◌, ext_get_or, inl, inr, arith, length-set, get_or-set_same, replicate, AllByRecursion, Cell, Unknown, CellExtends, Extends, is_known, GridLine, strided_indices, cells_at, deduced, length-strided_indices, get_or-strided_indices, length-cells_at, get_or-cells_at, with_cells, deduce_line, round, closure, IsDeduced, IsWritten, unknown_count, AtMost, Extends-refl, Extends-trans, Extends-antisym, length-Extends, deduced-above, deduced-idempotent, IsLeastClosed, rules}
use Rattle.solve_core.proofs.Changes.{is_among}
use Rattle.solve_core.proofs.Closing.{fewer_unknown}
use Rattle.solve_core.proofs.ClosureLaws.{IsLeastClosed-unique, closure-IsLeastClosed, length-with_cells, with_cells-monotone, with_cells-read}
use Rattle.solve_core.proofs.StepLaws.{IsOneOf, closed_line, step_within}

set_elsewhere : (g : List Cell) (p : ℕ) (c : Cell) (k : ℕ) → (p ≡ k → c ≡ get_or g k Unknown) →
    get_or (set g p c) k Unknown ≡ get_or g k Unknown
set_elsewhere [] p c k h = refl
set_elsewhere (x ∷ g) zero c zero h = h refl
set_elsewhere (x ∷ g) zero c (suc k) h = refl
set_elsewhere (x ∷ g) (suc p) c zero h = refl
set_elsewhere (x ∷ g) (suc p) c (suc k) h = set_elsewhere g p c k (λ e. h (ap suc e))

-- cell `k` keeps its value if nothing else is written at its index
pub get_or-with_cells : (g : List Cell) (indices : List ℕ) (d : List Cell) (k : ℕ)
    → ((i : ℕ) → i < length indices → get_or indices i 0 ≡ k → get_or d i Unknown ≡ get_or g k Unknown) →
    get_or (with_cells g indices d) k Unknown ≡ get_or g k Unknown
get_or-with_cells g [] d k h = refl
get_or-with_cells g (p ∷ ps) [] k h = refl
get_or-with_cells g (p ∷ ps) (c ∷ d) k h =
    let here : get_or (set g p c) k Unknown ≡ get_or g k Unknown = set_elsewhere g p c k (λ e. h 0 (omega arith) e) in
    get_or-with_cells (set g p c) ps d k (λ i l e. h (suc i) (omega arith) e ∙ sym here) ∙ here

-- a list of equal items reads as that item at each index, and outside if it is the default
pub get_or-replicated : {X : Type 0} (n k : ℕ) (d : X) → get_or (replicate n d) k d ≡ d
get_or-replicated zero k d = refl
get_or-replicated (suc n) zero d = refl
get_or-replicated (suc n) (suc k) d = get_or-replicated n k d

-- no index is in the list twice
abbrev pub AreDistinct : List ℕ → Type 0
AreDistinct [] = Unit {0}
AreDistinct (p ∷ ps) = ((i : ℕ) → i < length ps → get_or ps i 0 ≢ p) × AreDistinct ps

-- each index is below `n`
abbrev pub AreBelow : ℕ → List ℕ → Type 0
AreBelow n indices = AllByRecursion (λ k. k < n) indices

-- the cells that were written at `places` are read there
pub cells_at-with_cells : (g : List Cell) (indices : List ℕ) (d : List Cell) → AreDistinct indices → AreBelow (length g) indices →
    length d ≡ length indices → cells_at Unknown (with_cells g indices d) indices ≡ d
cells_at-with_cells g [] [] a b e = refl
cells_at-with_cells g (p ∷ ps) (c ∷ d) a b e =
    search (rules, get_or-with_cells, get_or-set_same, length-set, (cells_at-with_cells (set g p c) ps d a.1 (rw length-set b.1)))
cells_at-with_cells g _ _ a b e = absurd (omega arith)

-- a grid that differs from `z` only at `places` becomes `z` when the cells of `z` are written there
pub with_cells-same : (g z : List Cell) (indices : List ℕ) → AreDistinct indices → AreBelow (length g) indices → length z ≡ length g →
    ((p : ℕ) → ((k : ℕ) → k < length indices → get_or indices k 0 ≢ p) → get_or g p Unknown ≡ get_or z p Unknown) →
    with_cells g indices (cells_at Unknown z indices) ≡ z
with_cells-same g z indices a b e others =
    let line = cells_at Unknown z indices in
    let now = with_cells g indices line in
    let read = cells_at-with_cells g indices line a b (length-cells_at Unknown z indices) in
    ext_get_or Unknown now z (length-with_cells g indices line ∙ sym e) (λ p l. elim (is_among indices p) [
      | inl there ↦ rw (← there.2) (sym (get_or-cells_at Unknown now indices there.0 there.1) ∙
          ap (λ (r : List Cell). get_or r there.0 Unknown) read ∙ get_or-cells_at Unknown z indices there.0 there.1)
      | inr none ↦ get_or-with_cells g indices line p (λ k h s. absurd (none k h s)) ∙ others p none
    ])

-- indices that are `step` apart are distinct, if `step` is positive
pub distinct_from : (first step n : ℕ) → 0 < step → AreDistinct (strided_indices first step n)
distinct_from first step zero h = tt
distinct_from first step (suc n) h = search (rules, length-strided_indices, get_or-strided_indices, (distinct_from (first + step) step n h))

-- indices that are `step` apart are below `size`, if each of them is
pub below_from : (first step n size : ℕ) → ((i : ℕ) → i < n → first + i * step < size) → AreBelow size (strided_indices first step n)
below_from first step zero size h = tt
below_from first step (suc n) size h = (
  (let start = h 0 (omega arith) in omega (arith, start)),
  below_from (first + step) step n size (λ i l. let next = h (suc i) (omega arith) in omega (arith, next)),
)

-- two grids with the same cells at `places` are read alike there
pub cells_at-same : (a b : List Cell) (indices : List ℕ) →
    ((i : ℕ) → i < length indices → get_or a (get_or indices i 0) Unknown ≡ get_or b (get_or indices i 0) Unknown) →
    cells_at Unknown a indices ≡ cells_at Unknown b indices
cells_at-same a b [] h = refl
cells_at-same a b (p ∷ ps) h =
    let first : get_or a p Unknown ≡ get_or b p Unknown = h 0 (omega arith) in
    let rest : cells_at Unknown a ps ≡ cells_at Unknown b ps = cells_at-same a b ps (λ i l. h (suc i) (omega arith)) in
    λ i. first i ∷ rest i

-- a cell that is written at one of `places` is read there
pub cells_at-set : (g : List Cell) (indices : List ℕ) (b : ℕ) (c : Cell) → AreDistinct indices → AreBelow (length g) indices
    → b < length indices →
    cells_at Unknown (set g (get_or indices b 0) c) indices ≡ set (cells_at Unknown g indices) b c
cells_at-set g [] b c distinct below l = absurd (omega arith)
cells_at-set g (p ∷ ps) zero c distinct below l = search (rules, get_or-set_same, cells_at-same, set_elsewhere)
cells_at-set g (p ∷ ps) (suc b) c distinct below l = search (rules, set_elsewhere, (cells_at-set g ps b c distinct.1 below.1 (omega arith)))

-- a line that deduces just its own cells leaves the grid unchanged
pub settled_line : (g : List Cell) (line : GridLine) → IsDeduced g line → deduce_line g line ≡ Some g
settled_line g line h = ap (option_map (with_cells g line.indices)) h
    ∙ ap (λ (r : List Cell). Some r) (with_cells-read Unknown g line.indices)

-- `new` is the grid `g` with a deduced line written into it
module _ (line : GridLine) (g new : List Cell) (w : IsWritten line g new) where
  above : Extends (cells_at Unknown g line.indices) w.certain
  above = rw w.is_certain at (deduced-above (cells_at Unknown g line.indices) line.clue)

  -- deducing the line yields the new grid
  pub written_line : deduce_line g line ≡ Some new
  written_line = ap (option_map (with_cells g line.indices)) w.is_certain ∙ ap (λ (r : List Cell). Some r) (sym w.written)

  -- the new grid extends the old one
  pub written-extends : Extends g new
  written-extends = rw w.written (rw (with_cells-read Unknown g line.indices) at
      (with_cells-monotone g g line.indices (cells_at Unknown g line.indices) w.certain (Extends-refl g) above))

  module _ (a : AreDistinct line.indices) (b : AreBelow (length g) line.indices) where
    -- the line of the new grid has the deduced cells
    pub written-read : cells_at Unknown new line.indices ≡ w.certain
    written-read = search (rules, cells_at-with_cells, length-Extends, above, length-cells_at)

    -- the line of the new grid deduces just its own cells
    pub written-settled : IsDeduced new line
    written-settled = rw written-read (deduced-idempotent (cells_at Unknown g line.indices) w.certain line.clue w.is_certain)

    -- a cell keeps its value if it isn't on the line, or if the line doesn't change it
    pub written-elsewhere : (k : ℕ) →
        ((i : ℕ) → i < length line.indices → get_or line.indices i 0 ≡ k → get_or new k Unknown ≡ get_or g k Unknown) →
        get_or new k Unknown ≡ get_or g k Unknown
    written-elsewhere k h = search (rules, get_or-with_cells, written-read, get_or-cells_at)

  -- if the deduced line differs from the old one, fewer cells are unknown
  pub written-fewer : w.certain ≢ cells_at Unknown g line.indices → AreDistinct line.indices → AreBelow (length g) line.indices →
      unknown_count new < unknown_count g
  written-fewer n a b = search (rules, fewer_unknown, written-extends, written-read)

-- a grid between `g` and its least fixpoint has the same least fixpoint
pub least_between : (f : List Cell → Option (List Cell)) (g z : List Cell) (c d : Option (List Cell)) → IsLeastClosed f g c →
    IsLeastClosed f z d → Extends g z → AtMost (Some z) c → d ≡ c
least_between f g z c d lc ld h below =
    IsLeastClosed-unique f z d c ld (record { above = below; closed = lc.closed; least = λ w e k. lc.least w e (Extends-trans g z w h k) })

-- deducing one of the lines doesn't change the closure
pub line_keeps : (lines : List GridLine) (g new : List Cell) (line : GridLine) → IsOneOf line lines → Extends g new →
    deduce_line g line ≡ Some new → closure lines new ≡ closure lines g
line_keeps lines g new line m h e =
    least_between (round lines) g new (closure lines g) (closure lines new) (closure-IsLeastClosed lines g)
    (closure-IsLeastClosed lines new) h
    (rw e at (step_within lines g g line m (closure-IsLeastClosed lines g).above))

-- if one of the lines is dead, so is the closure
pub line_dead : (lines : List GridLine) (g : List Cell) (line : GridLine) → IsOneOf line lines →
    deduced (cells_at Unknown g line.indices) line.clue ≡ None → closure lines g ≡ None
line_dead lines g line m e = search (rules, step_within, closure-IsLeastClosed, option_map)

-- a cell that changed to one that extends it was unknown and is known now
pub assigned_cell : (old new : Cell) → CellExtends old new → new ≢ old → (old ≡ Unknown) × (is_known new ≡ true)
assigned_cell old new h k = search rules

-- writing a cell that isn't on a line doesn't change the line
pub kept-elsewhere : (g : List Cell) (k : ℕ) (c : Cell) (line : GridLine)
    → ((b : ℕ) → b < length line.indices → k ≢ get_or line.indices b 0) →
    cells_at Unknown (set g k c) line.indices ≡ cells_at Unknown g line.indices
kept-elsewhere g k c line apart = search (rules, cells_at-same, set_elsewhere)

-- each line of a line-closed grid deduces just its own cells
pub closed_settled : (lines : List GridLine) (g : List Cell) (line : GridLine) → round lines g ≡ Some g → IsOneOf line lines →
    AreDistinct line.indices → AreBelow (length g) line.indices → IsDeduced g line
closed_settled lines g line e m distinct within = to (deduced (cells_at Unknown g line.indices) line.clue)
    (deduced-above (cells_at Unknown g line.indices) line.clue) (closed_line lines g line e m)
  where
    to : (o : Option (List Cell)) → AtMost (Some (cells_at Unknown g line.indices)) o →
        AtMost (option_map (with_cells g line.indices) o) (Some g) → o ≡ Some (cells_at Unknown g line.indices)
    to None above below = absurd below
    to (Some d) above below =
        let old = with_cells-monotone g g line.indices (cells_at Unknown g line.indices) d (Extends-refl g) above in
        let up : Extends g (with_cells g line.indices d) = rw (with_cells-read Unknown g line.indices) at old in
        let same : with_cells g line.indices d ≡ g = Extends-antisym (with_cells g line.indices d) g below up in
        let long : length d ≡ length line.indices = sym (length-Extends (cells_at Unknown g line.indices) d above) ∙
        length-cells_at Unknown g line.indices in
        let read : cells_at Unknown (with_cells g line.indices d) line.indices ≡ d =
        cells_at-with_cells g line.indices d distinct within long in
        ap (λ (r : List Cell). Some r) (sym read ∙ ap (λ (r : List Cell). cells_at Unknown r line.indices) same)
