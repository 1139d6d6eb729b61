-- A list of clues as a puzzle of given sizes, and which of two sizes is the width.
use Rattle.std.specs.Prelude.{ℕ, ◌+◌, ◌-◌, Bool, not, ◌&&◌, List, length, take, drop, map, sum, nat_le, ◌==◌, if◌then◌else◌}
use Rattle.std.specs.List.{list_all}
use Rattle.grid_core.specs.Nonogram.{Nonogram, plain}

-- the puzzle of these sizes whose row clues are the first `height` clues, and whose column clues
-- are the others
abbrev pub oriented_puzzle : ℕ → ℕ → List (List ℕ) → Nonogram
oriented_puzzle width height clues = plain width height (take height clues) (drop height clues)

-- `clue` fits a line of `len` cells: its runs, with a blank cell between each two of them
abbrev pub fits : ℕ → List ℕ → Bool
fits len clue = nat_le (sum clue + length clue - 1) len

-- the sum of all numbers of `clues`
abbrev pub sum_all : List (List ℕ) → ℕ
sum_all clues = sum (map sum clues)

-- the puzzle `p` is admissible: each clue fits its line, and the row clues add up to as many filled
-- cells as the column clues
abbrev pub is_admissible : Nonogram → Bool
is_admissible p =
    list_all (fits p.width) p.rows && list_all (fits p.height) p.columns
    && sum_all p.rows == sum_all p.columns

-- the puzzle of width `a` and height `b`, unless only that of width `b` and height `a` is
-- admissible
abbrev pub orient : ℕ → ℕ → List (List ℕ) → Nonogram
orient a b clues =
    if not (is_admissible (oriented_puzzle a b clues)) && is_admissible (oriented_puzzle b a clues)
    then oriented_puzzle b a clues else oriented_puzzle a b clues
