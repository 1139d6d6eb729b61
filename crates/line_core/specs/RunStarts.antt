-- Where the runs of placings start, and the leftmost and rightmost placings.
use Rattle.std.specs.Prelude.{◌≡◌, ℕ, zero, suc, Bool, true, false, not, ◌&&◌, List, length, map, filter, find, Option, slice_index_or, nat_le}
use Rattle.std.specs.List.{list_all, range_with_len}
use lib.Pointwise.{pointwise}
use Rattle.grid_core.specs.declared.cells.Cell.{Cell}
use Rattle.line_core.specs.Placings.{placings, is_placing}

-- whether a run of filled cells starts at an index
abbrev pub starts_run : List Bool → ℕ → Bool
starts_run cells zero = slice_index_or cells 0 false
starts_run cells (suc k) = slice_index_or cells (suc k) false && not (slice_index_or cells k false)

-- the indices at which the runs of `cells` start, in order
abbrev pub run_starts : List Bool → List ℕ
run_starts cells = filter (starts_run cells) (range_with_len 0 (length cells))

-- the starts of the runs of each placing
abbrev pub all_starts : List Cell → List ℕ → List (List ℕ)
all_starts line clue = map run_starts (placings line clue)

-- the starts of the leftmost placing, in which no run starts further right than in any other
abbrev pub leftmost : List Cell → List ℕ → Option (List ℕ)
leftmost line clue =
    let all = all_starts line clue in
    find (λ starts. list_all (pointwise nat_le starts) all) all

-- the starts of the rightmost placing, in which no run starts further left than in any other
abbrev pub rightmost : List Cell → List ℕ → Option (List ℕ)
rightmost line clue =
    let all = all_starts line clue in
    find (λ starts. list_all (λ other. pointwise nat_le other starts) all) all

-- `starts` are the starts of the runs of some placing
abbrev pub AreStarts : List Cell → List ℕ → List ℕ → Type 0
AreStarts line clue starts =
    (full : List Bool) × (is_placing line clue full ≡ true) × (run_starts full ≡ starts)
