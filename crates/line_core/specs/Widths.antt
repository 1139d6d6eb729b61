-- The number of indices of each set width.
use Rattle.std.specs.Prelude.{ℕ}
use Rattle.line_core.specs.declared.widths.SetWidth.{SetWidth}
use Rattle.line_core.specs.declared.widths.SetWidth.TheVariants.{Narrow, Middle, Wide}

-- the number of indices of the sets of a width
abbrev pub bits_of_width : SetWidth → ℕ
bits_of_width Narrow = 64
bits_of_width Middle = 128
bits_of_width Wide = 256
