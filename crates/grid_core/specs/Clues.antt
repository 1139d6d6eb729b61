-- Which lists of numbers are clues.
use Rattle.std.specs.Prelude.{ℕ, Bool, ◌&&◌, nat_le, List, length}
use Rattle.std.specs.List.{list_all}
use Rattle.grid_core.specs.declared.limits.TheConstants.{MAX_RUNS}

-- whether `number` can be the length of a run: from 1 to `limit`
abbrev pub is_run : ℕ → ℕ → Bool
is_run limit number = nat_le 1 number && nat_le number limit

-- whether `numbers` are a clue: at most `MAX_RUNS` lengths of runs, each from 1 to `limit`
abbrev pub is_clue : ℕ → List ℕ → Bool
is_clue limit numbers = nat_le (length numbers) MAX_RUNS && list_all (is_run limit) numbers
