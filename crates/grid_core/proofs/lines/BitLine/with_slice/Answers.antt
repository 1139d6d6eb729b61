-- `BitLine::with_slice`: `slice` knows at least what it replaces, so that the union of the masks is enough.
use Rattle.std.proofs.Common.{rules}
use Rattle.std.specs.Prelude.{◌&&◌, ◌||◌, Bool, true, nat_le, nat_lt}
use Rattle.grid_core.proofs.Names.{◌≡◌, ℕ, ◌+◌, ◌-◌, ◌<◌, ◌≤◌, ◌⊎◌, List, ◌++◌, cond, get_or, length, take, drop, arith, nat_tests, common_steps, Cell, Unknown, Has, has, IsMaskOf, cell_with, line_cells}
use Rattle.std.proofs.lemmas.List.Elements.{AllZip-get_or}
use Rattle.bit_sets.specs.Masks.{IsShifted}
use Rattle.grid_core.specs.Cells.{CellExtends, Extends}
use Rattle.grid_core.specs.Lines.{IsLine}
use Rattle.grid_core.proofs.LineCells.{length_seen, line_is, seen_at}
use Rattle.grid_core.proofs.lines.BitLine.with_slice.Goals as goal

-- the cells of `l` with those from index `n` on replaced by those of `p`
abbrev joined_cells : ℕ → List Cell → List Cell → List Cell
joined_cells n p l = take n l ++ (p ++ drop (n + length p) l)

abbrev is_in : ℕ → List Cell → ℕ → Bool
is_in n p i = nat_le n i && nat_lt i (n + length p)

at_slice : (n i : ℕ) (p l : List Cell) → n + length p ≤ length l
    → get_or (joined_cells n p l) i Unknown ≡ cond (is_in n p i) (get_or p (i - n) Unknown) (get_or l i Unknown)
at_slice n i p l within = grind (arith, common_steps)

-- each cell that is replaced is extended by the one that replaces it
known_there : (n i : ℕ) (p l : List Cell) → n + length p ≤ length l → Extends (take (length p) (drop n l)) p → n ≤ i → i < n + length p
    → CellExtends (get_or l i Unknown) (get_or p (i - n) Unknown)
known_there n i p l within more low high =
    let there = AllZip-get_or CellExtends (take (length p) (drop n l)) p (i - n) Unknown Unknown more in grind (arith, common_steps, there)

-- which indices are in the union of mask `f` and mask `q` shifted up by `n`
with_at : (width n f q s m i : ℕ) (p : List Cell) → IsMaskOf (IsShifted width (Has q) n) s → IsMaskOf (λ i. Has f i ⊎ Has s i) m
    → ((k : ℕ) → Has q k → k < length p) → i < width → has m i ≡ (has f i || (is_in n p i && has q (i - n)))
with_at width n f q s m i p shifted both inside h =
    grind (arith, nat_tests, shifted.to i, shifted.from i, both.to i, both.from i, inside (i - n))

-- if a cell is extended by another one, the unions of their tests are the tests of the latter, and aren't both true
cell_more : (t f b pf pb : Bool) → (f ≡ true → b ≡ true → ⊥) → (pf ≡ true → pb ≡ true → ⊥)
    → (t ≡ true → CellExtends (cell_with f b) (cell_with pf pb))
    → (cond t (cell_with pf pb) (cell_with f b) ≡ cell_with (f || (t && pf)) (b || (t && pb)))
    × (f || (t && pf) ≡ true → b || (t && pb) ≡ true → ⊥)
cell_more t f b pf pb n m e = search rules

module _ (width len f b n count pf pb sf sb nf nb : ℕ) (l p : List Cell) (e : line_cells len f b ≡ l) (d : line_cells count pf pb ≡ p)
    (own : IsLine width len f b) (far : IsLine width count pf pb) (within : n + length p ≤ length l)
    (more : Extends (take (length p) (drop n l)) p)
    (qf : IsMaskOf (IsShifted width (Has pf) n) sf) (qb : IsMaskOf (IsShifted width (Has pb) n) sb)
    (rf : IsMaskOf (λ i. Has f i ⊎ Has sf i) nf) (rb : IsMaskOf (λ i. Has b i ⊎ Has sb i) nb) where
  long : length l ≡ len
  long = length_seen len f b l e

  there : length p ≡ count
  there = length_seen count pf pb p d

  each : (i : ℕ) → i < len
      → (get_or (joined_cells n p l) i Unknown ≡ cell_with (has nf i) (has nb i)) × (has nf i ≡ true → has nb i ≡ true → ⊥)
  each i h =
      let k = i - n in
      let wide : i < width = omega (arith, own.short, h) in
      let filled = with_at width n f pf sf nf i p qf rf (rw there far.filled_in) wide in
      let blank = with_at width n b pb sb nb i p qb rb (rw there far.blank_in) wide in
      let given = cell_more (is_in n p i) (has f i) (has b i) (has pf k) (has pb k) in
      let known = known_there n i p l within more in
      rw (at_slice n i p l within, filled, blank)
      (grind (arith, nat_tests, given, known, seen_at len f b i l e, seen_at count pf pb k p d, long, own.apart i, far.apart k))

  filled_in : (i : ℕ) → Has nf i → i < len
  filled_in i x = grind (arith, rf.to i, qf.to i, own.filled_in i, far.filled_in (i - n), long, there)

  is_line : IsLine width len nf nb
  is_line = record {
    some = own.some;
    short = own.short;
    within = own.within;
    apart = λ i x y. grind (arith, nat_tests, each i (filled_in i x));
    filled_in = filled_in;
    blank_in = λ i x. grind (arith, rb.to i, qb.to i, own.blank_in i, far.blank_in (i - n), long, there);
  }

  joined : line_cells len nf nb ≡ joined_cells n p l
  joined = line_is len nf nb _ (grind (arith, common_steps, long)) (λ i h. (each i h).0)

pub invariant_of-result : goal.invariant_of-result
invariant_of-result g c =
    is_line _ _ _ _ _ _ _ _ _ _ _ _ _ _ c.self.view_is c.slice.view_is c.self.invariant c.slice.invariant c.requires.within c.requires.more
    c.shifted_up.ensures c.shifted_up-2.ensures c.union.ensures c.union-2.ensures

pub returns : goal.returns
returns g c =
    joined _ _ _ _ _ _ _ _ _ _ _ _ _ _ c.self.view_is c.slice.view_is c.self.invariant c.slice.invariant c.requires.within c.requires.more
    c.shifted_up.ensures c.shifted_up-2.ensures c.union.ensures c.union-2.ensures
