-- The colours of a picture's cells.
use Rattle.std.specs.Prelude.{Bool, List, map}
use Rattle.grid_core.specs.Cells.{is_filled}
use Rattle.grid_core.specs.declared.pictures.Picture.{Picture}
use Rattle.grid_core.specs.declared.pictures.Picture.TheVariants.{Cells, Values}

-- whether each cell of a picture is filled, in row order
abbrev pub values_of : Picture → List Bool
values_of (Cells grid) = map is_filled grid.now.cells
values_of (Values values) = values.now
