-- A set of indices for each colour.
use Rattle.std.specs.Prelude.{ℕ}
use Rattle.grid_core.specs.declared.cells.Cell.{Cell}
use Rattle.grid_core.specs.declared.cells.Cell.TheVariants.{Unknown, Filled, Blank}

-- the indices for filled and those for blank, each set as a mask
pub record ColourMasks : Type 0 where
  pub filled : ℕ
  pub blank : ℕ

-- no index for either colour
abbrev pub no_colours : ColourMasks
no_colours = record { filled = 0; blank = 0 }

-- the indices for a colour; none for unknown
abbrev pub mask_of : Cell → ColourMasks → ℕ
mask_of Unknown masks = 0
mask_of Filled masks = masks.filled
mask_of Blank masks = masks.blank
