-- The width of the sets that a puzzle is solved with.
use Rattle.std.specs.Prelude.{ℕ, ◌≤◌, List, All, length}

-- the lines of the puzzle with the clues `rows` and `columns` are at most `width` long, and so are
-- the clues' runs, so that sets of that many indices suffice
pub record FitsIn (width : ℕ) (rows columns : List (List ℕ)) : Type 0 where
  pub width_fits : length columns ≤ width
  pub height_fits : length rows ≤ width
  pub rows_fit : All (All (λ number. number ≤ width)) rows
  pub columns_fit : All (All (λ number. number ≤ width)) columns
