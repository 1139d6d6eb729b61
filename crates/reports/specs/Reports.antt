-- The texts of the reports on one puzzle.
use Rattle.std.specs.Prelude.{ℕ, true, List, ◌++◌, codes, decimal, count_by, if◌then◌else◌, Option, Some, None, Result, Ok, Err}
use Rattle.std.specs.List.{list_all}
use Rattle.grid_core.specs.declared.limits.TheConstants.{MAX_SIDE}
use Rattle.grid_core.specs.Cells.{is_known}
use Rattle.grid_core.specs.Nonogram.{Nonogram}
use Rattle.grid_core.specs.PartialGrid.{PartialGrid}
use Rattle.solve_core.specs.Report.{line_grid}
use Rattle.solve_core.specs.declared.picks.Pick.{Pick}
use Rattle.puzzle_text.specs.Formats.{read_entry}
use Rattle.puzzle_text.specs.declared.faults.EntryFault.{EntryFault}
use Rattle.survey_text.specs.Entries.{entry_text}
use Rattle.survey_text.specs.Grids.{grid_text}
use Rattle.survey_text.specs.Survey.{reported}

-- the word for a closed grid that is alive: `one` if it is full, and `open` if not
abbrev pub closed_word : PartialGrid → List ℕ
closed_word grid = if list_all is_known grid.cells then codes "one" else codes "open"

-- the report on a closed grid that is alive: its word, how many cells are known, and its rows
abbrev pub grid_report : PartialGrid → List ℕ
grid_report grid =
    closed_word grid ++ codes " " ++ decimal (count_by is_known grid.cells) ++ codes "\n"
    ++ grid_text grid

-- the report on a closed grid, which is `None`, and has no rows, if it is dead
abbrev pub closed_text : Option PartialGrid → List ℕ
closed_text None = codes "none 0\n"
closed_text (Some grid) = grid_report grid

-- the report on the closure of `p` under line deduction
abbrev pub lines_text : Nonogram → List ℕ
lines_text p = closed_text (line_grid p)

-- the line of `p`, named `name`, in a survey with this limit on guesses and this pick, numbered 1,
-- and its solutions
abbrev pub solve_text : List ℕ → ℕ → Pick → Nonogram → List ℕ
solve_text name limit pick p =
    entry_text true 1
    (record { name = name; result = reported (record { limit = limit; pick = pick }) (Ok p) })

-- the puzzle in the text of this name and body, or the fault of the text
abbrev pub parsed : List ℕ → List ℕ → Result Nonogram EntryFault
parsed name body = read_entry MAX_SIDE (record { name = name; body = body })

-- the text that is made of the puzzle, or the fault
abbrev pub text_or_fault :
    (Nonogram → List ℕ) → Result Nonogram EntryFault → Result (List ℕ) EntryFault
text_or_fault text (Ok p) = Ok (text p)
text_or_fault text (Err fault) = Err fault
