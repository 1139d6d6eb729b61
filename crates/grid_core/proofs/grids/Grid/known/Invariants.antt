-- The loop invariant of `Grid::known`: the known cells before index `place` are counted.
use Rattle.grid_core.proofs.Names.{◌≡◌, take, count_by, is_known}
use Rattle.grid_core.proofs.grids.Grid.known.Given as goal

abbrev pub invariant-loop-index : goal.invariant-loop-index
invariant-loop-index l = l.known ≡ count_by is_known (take l.index l.self.cells)
