-- A round of line deduction shows a contradiction, or is the join of each cell's row and column.
use Rattle.std.proofs.Common.{◌≡◌, ℕ, zero, suc, ◌+◌, ◌*◌, ◌/◌, ◌%◌, ◌<◌, false, List, [], ◌∷◌, length, get_or, map, Option, Some, None, refl, ap, sym, ◌∙◌, arith, is_none, option_map, option_and_then, true≢false}
use Rattle.std.specs.Prelude.{unwrap_or}
use Rattle.std.specs.List.{AllByRecursion, range_with_len}
use Rattle.std.proofs.Math.Nat.{div-add-mod}
use Rattle.std.proofs.lemmas.Nat.{div_below, div-mul-add, mod_below, mod-mul-add}
use Rattle.std.proofs.lemmas.List.Elements.{All-from_recursion}
use Rattle.std.proofs.lemmas.List.{length-replicate}
use Rattle.std.proofs.lemmas.List.FromFn.{length-map-range_with_len}
use Rattle.grid_core.proofs.LineLaws.{each_line, index-within, length-line_indices}
use Rattle.grid_core.specs.Cells.{CellExtends, Extends}
use Rattle.grid_core.specs.Nonogram.{GridLine, IsNonogram, Nonogram, cells_at, clues_on, crossing, line_indices, line_on, lines_of}
use Rattle.grid_core.specs.declared.axes.Axis.{Axis}
use Rattle.grid_core.specs.declared.axes.Axis.TheVariants.{Rows, Columns}
use Rattle.grid_core.specs.declared.cells.Cell.{Cell}
use Rattle.grid_core.specs.declared.cells.Cell.TheVariants.{Unknown}
use Rattle.grid_core.specs.steps.Axes.{cell_index_on, line_count}
use Rattle.line_core.proofs.DeductionLaws.{Extends-antisym, Extends-at, Extends-from_places, Extends-trans, deduced-above, length-Extends}
use Rattle.line_core.specs.Order.{AtMost}
use Rattle.solve_core.proofs.AxisLines.{all_axes, below_indices, count_clues, distinct_indices}
use Rattle.solve_core.proofs.ClosureLaws.{round-above_each, with_cells-monotone, with_cells-read}
use Rattle.solve_core.proofs.LineSteps.{cells_at-with_cells}
use Rattle.solve_core.proofs.Order.{join_all-least}
use Rattle.solve_core.specs.Closure.{deduce_line, join_cells, repeat, round, with_cells}
use Rattle.solve_core.specs.Report.{line_closure, unknown_grid}
use Rattle.diagnosis.specs.Contradictions.{cell_of, contradiction_in, contradiction_within, dead_line, deduced_on, first_contradiction, first_of, has_two_colours, is_dead_on, joined_at, two_coloured_cell}
use Rattle.diagnosis.specs.Differences.{position_at}
use Rattle.diagnosis.proofs.FirstFound.{find-image_each, find-range_each, image_at}
use Rattle.diagnosis.proofs.LineReads.{cell_read, deduced_long, line_long}

-- a join extends both cells
join-above : (a b c : Cell) → join_cells a b ≡ Some c → CellExtends a c × CellExtends b c
join-above a b c e = grind arith

-- a join is below each cell that extends both cells
join-least : (a b c v : Cell) → join_cells a b ≡ Some c → CellExtends a v → CellExtends b v → CellExtends c v
join-least a b c v e h k = grind arith

-- what holds of the image of each element holds of each element of the image
all-map : {X Y : Type 0} (P : Y → Type 0) (f : X → Y) (xs : List X) → AllByRecursion (λ x. P (f x)) xs → AllByRecursion P (map f xs)
all-map P f [] h = tt
all-map P f (x ∷ xs) h = (h.0, all-map P f xs h.1)

map-all : {X Y : Type 0} (P : Y → Type 0) (f : X → Y) (xs : List X) → AllByRecursion P (map f xs) → AllByRecursion (λ x. P (f x)) xs
map-all P f [] h = tt
map-all P f (x ∷ xs) h = (h.0, map-all P f xs h.1)

alive_below : (o : Option (List Cell)) (z : List Cell) → AtMost o (Some z) → (w : List Cell) × (o ≡ Some w) × Extends w z
alive_below None z h = absurd h
alive_below (Some w) z h = (w, refl, h)

-- each line of an axis has a placing: these are the deduced lines
abbrev pub AreAlive : Axis → Nonogram → List Cell → Type 0
AreAlive axis p g = (i : ℕ) → i < line_count axis p.width p.height → (d : List Cell) × (deduced_on axis p g i ≡ Some d)

-- each cell of `z` is the join of what its row and its column deduce
abbrev pub IsJoined : Nonogram → List Cell → List Cell → Type 0
IsJoined p g z = (k : ℕ) → k < p.width * p.height → joined_at p g (position_at p.width k) ≡ Some (get_or z k Unknown)

module _ (p : Nonogram) (is : IsNonogram p) (g z : List Cell) (long : length g ≡ p.width * p.height) (new : length z ≡ p.width * p.height)
    (alive : (axis : Axis) → AreAlive axis p g) (joined : IsJoined p g z) where
  abbrev indices : Axis → ℕ → List ℕ
  indices axis i = line_indices axis p.width p.height i

  some : 0 < p.width
  some = omega (arith, is.size.width_from)

  -- the join at column `x` and row `y`
  at_xy : (x y : ℕ) → x < p.width → y < p.height →
      join_cells (cell_of (deduced_on Rows p g y) x) (cell_of (deduced_on Columns p g x) y) ≡ Some (get_or z (y * p.width + x) Unknown)
  at_xy x y l m =
      let e = joined (y * p.width + x) (index-within p.width p.height x y l m) in
      rw (div-mul-add y p.width x l, mod-mul-add y p.width x l) at e

  -- a cell of a deduced line is below that of `z`
  cell_below : (axis : Axis) (i k : ℕ) (d : List Cell) → i < line_count axis p.width p.height →
      k < line_count (crossing axis) p.width p.height → deduced_on axis p g i ≡ Some d →
      CellExtends (get_or d k Unknown) (get_or z (cell_index_on axis p.width i k) Unknown)
  cell_below Rows i k d l m e = let j = at_xy k i m l in (join-above _ _ _ (rw e at j)).0
  cell_below Columns i k d l m e = let j = at_xy i k l m in (join-above _ _ _ (rw e at j)).1

  -- a deduced line is below that of `z`
  line_below : (axis : Axis) (i : ℕ) (d : List Cell) → i < line_count axis p.width p.height → deduced_on axis p g i ≡ Some d →
      Extends d (cells_at Unknown z (indices axis i))
  line_below axis i d l e =
      Extends-from_places d (cells_at Unknown z (indices axis i))
      (deduced_long axis p g i d e ∙ sym (line_long axis p.width p.height i z))
      (λ k m. let in_line : k < line_count (crossing axis) p.width p.height = rw (deduced_long axis p g i d e) at m in
      rw (cell_read axis p.width p.height i k z in_line) (cell_below axis i k d l in_line e))

  row_above : (y : ℕ) → y < p.height → Extends (cells_at Unknown g (indices Rows y)) (cells_at Unknown z (indices Rows y))
  row_above y l =
      let row = alive Rows y l in
      let above = rw row.1 at (deduced-above (cells_at Unknown g (indices Rows y)) (line_on Rows p y).clue) in
      Extends-trans (cells_at Unknown g (indices Rows y)) row.0 (cells_at Unknown z (indices Rows y)) above
      (line_below Rows y row.0 l row.1)

  -- `z` extends `g`
  above : Extends g z
  above = Extends-from_places g z (long ∙ sym new) (λ k l.
      let w = p.width in
      let inside : k < p.height * w = omega (arith, long) in
      let y = k / w in let x = k % w in
      let low : y < p.height = div_below k w p.height some inside in
      let left : x < w = mod_below k w some in
      let e : y * w + x ≡ k = omega (arith, div-add-mod k w) in
      let at = Extends-at (cells_at Unknown g (indices Rows y)) (cells_at Unknown z (indices Rows y)) x (row_above y low) in
      rw e at (rw (cell_read Rows p.width p.height y x g left, cell_read Rows p.width p.height y x z left) at at))

  -- the grid with a line deduced is below `z`
  deduced_below : (axis : Axis) (i : ℕ) → i < line_count axis p.width p.height → AtMost (deduce_line g (line_on axis p i)) (Some z)
  deduced_below axis i l =
      let line = alive axis i l in
      let written = with_cells-monotone g z (indices axis i) line.0 (cells_at Unknown z (indices axis i)) above
      (line_below axis i line.0 l line.1) in
      rw line.1 (rw (with_cells-read Unknown z (indices axis i)) at written)

  below : AtMost (round (lines_of p) g) (Some z)
  below = join_all-least g z (map (deduce_line g) (lines_of p)) above
      (all-map (λ (o : Option (List Cell)). AtMost o (Some z)) (deduce_line g) (lines_of p)
      (all_axes (λ (line : GridLine). AtMost (deduce_line g line) (Some z)) p is deduced_below))

  -- a round that is alive has what each line deduces
  cell_above : (w : List Cell) → round (lines_of p) g ≡ Some w → (axis : Axis) (i k : ℕ) (d : List Cell) →
      i < line_count axis p.width p.height → k < line_count (crossing axis) p.width p.height → deduced_on axis p g i ≡ Some d →
      CellExtends (get_or d k Unknown) (get_or w (cell_index_on axis p.width i k) Unknown)
  cell_above w e axis i k d l m f =
      let P = λ (line : GridLine). AtMost (deduce_line g line) (round (lines_of p) g) in
      let all = All-from_recursion P (lines_of p)
      (map-all (λ (o : Option (List Cell)). AtMost o (round (lines_of p) g)) (deduce_line g) (lines_of p) (round-above_each (lines_of p) g)) in
      let one = each_line P p all axis i (rw (count_clues axis p is) l) in
      let written : Extends (with_cells g (indices axis i) d) w = rw (e, f) at one in
      let back = cells_at-with_cells g (indices axis i) d (distinct_indices axis p.width p.height i some)
      (rw long (below_indices axis p.width p.height i l)) (deduced_long axis p g i d f ∙ sym (length-line_indices axis p.width p.height i)) in
      let cell = Extends-at (with_cells g (indices axis i) d) w (cell_index_on axis p.width i k) written in
      rw (← cell_read axis p.width p.height i k (with_cells g (indices axis i) d) m, back) at cell

  joined_below : (w : List Cell) → round (lines_of p) g ≡ Some w → (x y : ℕ) → x < p.width → y < p.height →
      CellExtends (get_or z (y * p.width + x) Unknown) (get_or w (y * p.width + x) Unknown)
  joined_below w e x y l m =
      let row = alive Rows y m in
      let column = alive Columns x l in
      join-least _ _ _ _ (rw (row.1, column.1) at (at_xy x y l m)) (cell_above w e Rows y x row.0 m l row.1)
      (cell_above w e Columns x y column.0 l m column.1)

  -- the round is `z`
  pub round-joined : round (lines_of p) g ≡ Some z
  round-joined =
      let found = alive_below (round (lines_of p) g) z below in
      let w = found.0 in
      let under : Extends z w = Extends-from_places z w (sym (length-Extends w z found.2)) (λ k l.
      let width = p.width in
      let inside : k < p.height * width = omega (arith, new) in
      let y = k / width in let x = k % width in
      let low : y < p.height = div_below k width p.height some inside in
      let left : x < width = mod_below k width some in
      let e : y * width + x ≡ k = omega (arith, div-add-mod k width) in
      rw e at (joined_below w found.1 x y left low)) in
      found.1 ∙ ap (λ (r : List Cell). Some r) (Extends-antisym w z found.2 under)

present : {X : Type 0} (o : Option X) → is_none o ≡ false → (x : X) × (o ≡ Some x)
present None e = absurd (true≢false e)
present (Some x) e = (x, refl)

none_of : {X : Type 0} (a b : Option X) → first_of a b ≡ None → (a ≡ None) × (b ≡ None)
none_of None b e = (refl, e)
none_of (Some x) b e = absurd (cc)

none_mapped : {X Y : Type 0} (f : X → Y) (o : Option X) → option_map f o ≡ None → o ≡ None
none_mapped f None e = refl
none_mapped f (Some x) e = absurd (cc)

module _ (p : Nonogram) (is : IsNonogram p) (g : List Cell) (long : length g ≡ p.width * p.height) (none : contradiction_in p g ≡ None) where
  no_line : (axis : Axis) → dead_line axis p g ≡ None
  no_line Rows = none_mapped _ _ (none_of _ _ none).0
  no_line Columns = none_mapped _ _ (none_of _ _ (none_of _ _ none).1).0

  no_cell : two_coloured_cell p g ≡ None
  no_cell = none_mapped _ _ (none_of _ _ (none_of _ _ none).1).1

  alive : (axis : Axis) → AreAlive axis p g
  alive axis i l =
      let n = length (clues_on axis p) in
      let inside : i < n = rw (count_clues axis p is) l in
      let no = find-range_each (is_dead_on axis p g) n i (no_line axis) inside in
      present (deduced_on axis p g i) no

  abbrev value : ℕ → Cell
  value k = unwrap_or (joined_at p g (position_at p.width k)) Unknown

  abbrev next : List Cell
  next = map value (range_with_len 0 (p.width * p.height))

  joined : IsJoined p g next
  joined k l =
      let no = find-image_each (has_two_colours p g) (position_at p.width) (p.width * p.height) k no_cell l in
      let cell = present (joined_at p g (position_at p.width k)) no in
      let is_cell : value k ≡ cell.0 = ap (λ (o : Option Cell). unwrap_or o Unknown) cell.1 in
      cell.1 ∙ ap (λ (c : Cell). Some c) (sym (image_at value (p.width * p.height) k Unknown l ∙ is_cell))

  -- a round that shows no contradiction is alive
  pub round-alive : (z : List Cell) × (length z ≡ p.width * p.height) × (round (lines_of p) g ≡ Some z)
  round-alive =
      let size = length-map-range_with_len value 0 (p.width * p.height) in
      (next, size, round-joined p is g next long size alive joined)

-- rounds that show no contradiction are alive
rounds-alive : (p : Nonogram) → IsNonogram p → (n : ℕ) (g : List Cell) → length g ≡ p.width * p.height →
    contradiction_within p n g ≡ None → (z : List Cell) × (repeat (round (lines_of p)) n g ≡ Some z)
rounds-alive p is zero g long none = (g, refl)
rounds-alive p is (suc n) g long none =
    let parts = none_of (contradiction_in p g) (option_and_then (contradiction_within p n) (round (lines_of p) g)) none in
    let next = round-alive p is g long parts.0 in
    later next.0 next.2 (λ rest. rounds-alive p is n next.0 next.1 rest) parts.1
  where
    later : (y : List Cell) → round (lines_of p) g ≡ Some y →
        (contradiction_within p n y ≡ None → (z : List Cell) × (repeat (round (lines_of p)) n y ≡ Some z)) →
        option_and_then (contradiction_within p n) (round (lines_of p) g) ≡ None →
        (z : List Cell) × (option_and_then (repeat (round (lines_of p)) n) (round (lines_of p) g) ≡ Some z)
    later y e rest none = let last = rest (rw e at none) in (last.0, rw e last.1)

-- if the closure of the unknown grid is dead, a round shows a contradiction
pub contradiction-dead : (p : Nonogram) → IsNonogram p → line_closure p ≡ None → first_contradiction p ≡ None → ⊥
contradiction-dead p is dead none =
    let size : length (unknown_grid p) ≡ p.width * p.height = length-replicate (p.width * p.height) Unknown in
    let last = rounds-alive p is (length (unknown_grid p) + 1) (unknown_grid p) size none in
    cc
