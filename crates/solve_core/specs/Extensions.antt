-- The solutions of a puzzle that extend a given grid: the search for them, and what its verdict
-- states.
use Rattle.std.specs.Prelude.{ℕ, List, length, map, nat_lt, Option}
use Rattle.grid_core.specs.declared.cells.Cell.{Cell}
use Rattle.grid_core.specs.Cells.{Extends}
use Rattle.grid_core.specs.PartialGrid.{PartialGrid}
use Rattle.grid_core.specs.Nonogram.{Nonogram, Solves, lines_of}
use Rattle.solve_core.specs.declared.extensions.Extensions.{Extensions}
use Rattle.solve_core.specs.declared.findings.Verdict.{Verdict}
use Rattle.solve_core.specs.declared.picks.Pick.{Pick}
use Rattle.solve_core.specs.Picks.{picked}
use Rattle.solve_core.specs.Report.{events_from, grid_of, guesses_in, solutions_in, through_solution, verdict_by, within_guesses}
use Rattle.solve_core.specs.Search.{Event}
use Rattle.solve_core.specs.Trials.{trials}
use Rattle.solve_core.specs.Verdicts.{HoldsOf}

-- the grid solves the puzzle, and knows what the cells `given` know
pub record SolvesFrom (p : Nonogram) (given : List Cell) (grid : PartialGrid) : Type 0 where
  pub solves : Solves p grid
  pub extends : Extends given grid.cells

-- the events of the search from the cells `given`, which starts after trials and guesses the cells
-- that `pick` chooses, up to its second solution
abbrev pub extending_search : (List Cell → Option ℕ) → Nonogram → List Cell → List Event
extending_search pick p given =
    through_solution 2 (events_from pick (lines_of p) (trials (lines_of p) given))

-- the events of that search, with at most `limit` guesses
abbrev pub limited_extending : (List Cell → Option ℕ) → Nonogram → List Cell → ℕ → List Event
limited_extending pick p given limit = within_guesses limit (extending_search pick p given)

-- the solutions of a puzzle that extend the cells `given`, with at most `limit` guesses of the
-- cells that `pick` chooses
abbrev pub extensions_by : (List Cell → Option ℕ) → Nonogram → List Cell → ℕ → Extensions
extensions_by pick p given limit =
    record {
      verdict = verdict_by (map (grid_of p) (solutions_in (limited_extending pick p given limit)))
          (nat_lt (length (limited_extending pick p given limit))
          (length (extending_search pick p given)));
      spent = guesses_in (limited_extending pick p given limit);
    }

-- the solutions that extend the cells `given`, with at most `limit` guesses by the guess rule
-- `pick`
abbrev pub extensions_of : Pick → Nonogram → List Cell → ℕ → Extensions
extensions_of pick p given limit = extensions_by (picked pick p.width) p given limit

-- the verdict is true of all full grids that extend the cells `given`
abbrev pub HoldsFrom :
    (List Cell → Option ℕ) → Nonogram → List Cell → ℕ → Verdict → Type 0
HoldsFrom pick p given limit = HoldsOf (SolvesFrom p given) (extending_search pick p given) limit
