-- How long the answers of calls can be.
use Rattle.std.specs.Prelude.{ℕ, ◌+◌, ◌*◌, ◌≤◌, Result, Ok, Err, min}
use Rattle.grid_core.specs.Nonogram.{Nonogram}
use Rattle.grid_core.specs.declared.limits.TheConstants.{MAX_SIDE}
use Rattle.nonograde_c.specs.declared.faults.Fault.{Fault}

-- the length of the text of two grids of this size, each followed by an empty line
abbrev pub two_grids_length : ℕ → ℕ → ℕ
two_grids_length width height = 2 * (height * (width + 1) + 1)

-- The length of a buffer that holds each answer with grids, without the name, on a puzzle of at
-- most this width and height: that of line logic, to closing or extending a grid, and to grading. A
-- side greater than any puzzle's counts as the greatest.
abbrev pub buffer_size : ℕ → ℕ → ℕ
buffer_size width height = 55 + two_grids_length (min width MAX_SIDE) (min height MAX_SIDE)

-- the puzzle that was read, if any, has at most this width and height
abbrev pub FitsIn : ℕ → ℕ → Result Nonogram Fault → Type 0
FitsIn width height (Ok p) = (p.width ≤ width) × (p.height ≤ height)
FitsIn width height (Err fault) = Unit {0}
