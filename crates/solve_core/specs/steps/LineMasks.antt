-- Line masks: sets of a grid's lines.
use Rattle.std.specs.Prelude.{◌<◌, ℕ}
use Rattle.grid_core.specs.declared.axes.Axis.{Axis}
use Rattle.grid_core.specs.declared.axes.Axis.TheVariants.{Rows, Columns}
use Rattle.grid_core.specs.steps.Axes.{line_count}
use Rattle.bit_sets.specs.Masks.{Has}

-- a set of lines: the rows and the columns in it, each as a mask
pub record LineMasks : Type 0 where
  pub rows : ℕ
  pub columns : ℕ

-- the lines of an axis that are in the set
abbrev pub mask_on : Axis → LineMasks → ℕ
mask_on Rows mask = mask.rows
mask_on Columns mask = mask.columns

-- line `i` of an axis is in the set
abbrev pub IsInMask : LineMasks → Axis → ℕ → Type 0
IsInMask mask axis i = Has (mask_on axis mask) i

-- the set has no line of this axis
abbrev pub IsEmptyOn : LineMasks → Axis → Type 0
IsEmptyOn mask axis = (i : ℕ) → IsInMask mask axis i → ⊥

-- the set is empty
abbrev pub IsEmptyMask : LineMasks → Type 0
IsEmptyMask mask = (axis : Axis) → IsEmptyOn mask axis

-- the set has only lines of a grid of this size
abbrev pub IsMaskWithin : ℕ → ℕ → LineMasks → Type 0
IsMaskWithin width height mask =
    (axis : Axis) (i : ℕ) → IsInMask mask axis i → i < line_count axis width height
