-- Closing a puzzle's grid whose cells are given, by line deduction or by trials.
use Rattle.std.specs.Prelude.{ℕ, zero, suc, List, Option, Some, None, option_map, Result, Ok, Err}
use Rattle.grid_core.specs.Nonogram.{GridLine, Nonogram, lines_of}
use Rattle.grid_core.specs.declared.cells.Cell.{Cell}
use Rattle.solve_core.specs.Closure.{closure}
use Rattle.solve_core.specs.Report.{grid_of}
use Rattle.solve_core.specs.Trials.{trials}
use Rattle.reports.specs.Reports.{closed_text}
use Rattle.nonograde_c.specs.Calls.{answer_on, puzzle_of}
use Rattle.nonograde_c.specs.GivenCells.{grid_answer}
use Rattle.nonograde_c.specs.declared.faults.Fault.{Fault}
use Rattle.nonograde_c.specs.declared.faults.Fault.TheVariants.{Setting}
use Rattle.nonograde_c.specs.declared.settings.Closing.{Closing}
use Rattle.nonograde_c.specs.declared.settings.Closing.TheVariants.{ByLines, ByTrials}

-- the way of closing with this number, if there is one
abbrev pub closing_from_number : ℕ → Option Closing
closing_from_number zero = Some ByLines
closing_from_number (suc zero) = Some ByTrials
closing_from_number (suc (suc _)) = None

-- a grid closed under line deduction or under trials; `None` if it is dead
abbrev pub closed_by : Closing → List GridLine → List Cell → Option (List Cell)
closed_by ByLines = closure
closed_by ByTrials = trials

-- the report on the grid of the puzzle `p` that has these cells once it is closed
abbrev pub close_text : Closing → Nonogram → List Cell → List ℕ
close_text by p cells = closed_text (option_map (grid_of p) (closed_by by (lines_of p) cells))

-- the answer to closing the grid of the puzzle in `body`; without a way of closing, the fault of a
-- bad setting
abbrev pub close_by : Option Closing → ℕ → List ℕ → List ℕ → Result (List ℕ) Fault
close_by None format body cells = Err Setting
close_by (Some by) format body cells =
    answer_on (λ p. answer_on (λ grid. Ok (close_text by p grid.cells)) (grid_answer p cells))
    (puzzle_of format body)

-- the answer to closing the grid of the puzzle in `body` whose cells the bytes `cells` give; `by`
-- is the number of the way of closing
abbrev pub close_answer : ℕ → ℕ → List ℕ → List ℕ → Result (List ℕ) Fault
close_answer by format body cells = close_by (closing_from_number by) format body cells
