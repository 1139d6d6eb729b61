-- Reading the cells of a line.
use Rattle.std.proofs.Common.{◌≡◌, ℕ, ◌<◌, ◌≤◌, List, length, get_or, Some, ap, sym, ◌∙◌}
use Rattle.std.proofs.lemmas.List.{ext_get_or}
use Rattle.grid_core.proofs.LineLaws.{get_or-cells_at, get_or-line_indices, length-cells_at, length-line_indices}
use Rattle.grid_core.specs.Nonogram.{Nonogram, cells_at, crossing, line_indices, line_on}
use Rattle.grid_core.specs.declared.axes.Axis.{Axis}
use Rattle.grid_core.specs.declared.axes.Axis.TheVariants.{Rows, Columns}
use Rattle.grid_core.specs.declared.cells.Cell.{Cell}
use Rattle.grid_core.specs.declared.cells.Cell.TheVariants.{Unknown}
use Rattle.grid_core.specs.steps.Axes.{cell_index_on, line_count}
use Rattle.line_core.proofs.DeductionLaws.{length-deduced}
use Rattle.diagnosis.specs.Contradictions.{deduced_on}

-- cell `k` of line `i`
pub cell_read : (axis : Axis) (w h i k : ℕ) (cells : List Cell) → k < line_count (crossing axis) w h →
    get_or (cells_at Unknown cells (line_indices axis w h i)) k Unknown ≡ get_or cells (cell_index_on axis w i k) Unknown
cell_read axis w h i k cells l =
    get_or-cells_at Unknown cells (line_indices axis w h i) k (rw (length-line_indices axis w h i) l)
    ∙ ap (λ (n : ℕ). get_or cells n Unknown) (get_or-line_indices axis w h i k l)

-- how many cells line `i` has
pub line_long : (axis : Axis) (w h i : ℕ) (cells : List Cell) →
    length (cells_at Unknown cells (line_indices axis w h i)) ≡ line_count (crossing axis) w h
line_long axis w h i cells = length-cells_at Unknown cells (line_indices axis w h i) ∙ length-line_indices axis w h i

-- a list of the cells of line `i` is the line
pub line_read : (axis : Axis) (w h i : ℕ) (cells line : List Cell) → length line ≡ line_count (crossing axis) w h →
    ((k : ℕ) → k < line_count (crossing axis) w h → get_or line k Unknown ≡ get_or cells (cell_index_on axis w i k) Unknown) →
    line ≡ cells_at Unknown cells (line_indices axis w h i)
line_read axis w h i cells line long each =
    ext_get_or Unknown line (cells_at Unknown cells (line_indices axis w h i)) (long ∙ sym (line_long axis w h i cells)) (λ k l.
    let inside : k < line_count (crossing axis) w h = rw long at l in
    each k inside ∙ sym (cell_read axis w h i k cells inside))

-- a line has at most as many cells as the longer side of the grid
pub line_fits : (axis : Axis) (w h most : ℕ) → w ≤ most → h ≤ most → line_count (crossing axis) w h ≤ most
line_fits Rows w h most l m = l
line_fits Columns w h most l m = m

-- a deduced line has as many cells as the line
pub deduced_long : (axis : Axis) (p : Nonogram) (g : List Cell) (i : ℕ) (d : List Cell) → deduced_on axis p g i ≡ Some d →
    length d ≡ line_count (crossing axis) p.width p.height
deduced_long axis p g i d e =
    length-deduced (cells_at Unknown g (line_on axis p i).indices) d (line_on axis p i).clue (sym e) ∙ line_long axis p.width p.height i g
