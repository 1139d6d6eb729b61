-- The finding on a puzzle with at least two solutions.
use Rattle.std.specs.Prelude.{ℕ, ◌*◌, List, ◌++◌, length, codes}
use Rattle.grid_core.specs.PartialGrid.{PartialGrid}
use Rattle.diagnosis.specs.Differences.{differing_cells}
use Rattle.check_text.specs.Findings.{finding}
use Rattle.check_text.specs.Numbers.{cell_count, grouped}
use Rattle.check_text.specs.Pictures.{pictures}
use Rattle.check_text.specs.Windows.{first_position, window_around, window_heading}
use Rattle.check_text.specs.declared.heads.Level.TheVariants.{Error}
use Rattle.check_text.specs.declared.windows.Window.{Window}

-- that there are two solutions, which differ in some of the cells
abbrev pub ambiguity_text : ℕ → ℕ → List ℕ
ambiguity_text differing cells =
    codes "at least two solutions, which differ in " ++ grouped differing
    ++ codes " of " ++ cell_count cells

-- the pictures of a window of two grids, with a line above if they don't show all cells
abbrev pub shown_window : PartialGrid → PartialGrid → Window → List ℕ
shown_window first second w = window_heading first w ++ pictures first second w

-- pictures of two solutions and of the cells in which they differ
abbrev pub shown_solutions : PartialGrid → PartialGrid → List ℕ
shown_solutions first second =
    shown_window first second
    (window_around first (first_position (differing_cells first second)))

-- the finding on a puzzle with these two solutions, and pictures of them
abbrev pub ambiguity : List ℕ → PartialGrid → PartialGrid → List ℕ
ambiguity name first second =
    finding name Error
    (ambiguity_text (length (differing_cells first second)) (first.width * first.height))
    ++ shown_solutions first second
