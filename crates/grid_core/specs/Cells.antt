-- Cells, and when a line or a grid knows more than another.
use Rattle.std.specs.Prelude.{Bool, true, false, not, List, ⊤}
use Rattle.std.specs.List.{AllZip}
use lib.Pointwise.{pointwise}
use Rattle.grid_core.specs.declared.cells.Cell.{Cell}
use Rattle.grid_core.specs.declared.cells.Cell.TheVariants.{Unknown, Filled, Blank}

-- whether a cell is filled or blank
abbrev pub is_known : Cell → Bool
is_known Unknown = false
is_known Filled = true
is_known Blank = true

-- whether a cell is unknown
abbrev pub is_unknown : Cell → Bool
is_unknown Unknown = true
is_unknown Filled = false
is_unknown Blank = false

-- whether a cell is known to be filled
abbrev pub is_filled : Cell → Bool
is_filled Unknown = false
is_filled Filled = true
is_filled Blank = false

-- the known cell of a colour: filled for true, blank for false
abbrev pub colour : Bool → Cell
colour true = Filled
colour false = Blank

-- whether a cell is unknown or has the colour `filled`
abbrev pub allows : Cell → Bool → Bool
allows Unknown filled = true
allows Filled filled = filled
allows Blank filled = not filled

-- whether a full line, or a full grid, is as long as a partly known one and has the colour of each
-- cell that is known there
abbrev pub agrees : List Cell → List Bool → Bool
agrees = pointwise allows

-- the old cell is unknown, or the new one is equal to it
abbrev pub CellExtends : Cell → Cell → Type 0
CellExtends Unknown new = ⊤
CellExtends Filled Unknown = ⊥
CellExtends Filled Filled = ⊤
CellExtends Filled Blank = ⊥
CellExtends Blank Unknown = ⊥
CellExtends Blank Filled = ⊥
CellExtends Blank Blank = ⊤

-- the line or grid `new` is as long as `old`, and has each known cell of `old` in the same colour
abbrev pub Extends : List Cell → List Cell → Type 0
Extends old new = AllZip CellExtends old new
