-- The solutions of a puzzle that extend a grid whose cells are given.
use Rattle.std.specs.Prelude.{ℕ, List, ◌++◌, codes, decimal, Option, Some, None, Result, Ok, Err}
use Rattle.std.specs.List.{flat_map}
use Rattle.grid_core.specs.Nonogram.{Nonogram}
use Rattle.grid_core.specs.declared.cells.Cell.{Cell}
use Rattle.solve_core.specs.Extensions.{extensions_of}
use Rattle.solve_core.specs.declared.extensions.Extensions.{Extensions}
use Rattle.solve_core.specs.declared.picks.Pick.{Pick}
use Rattle.survey_text.specs.Entries.{solution_text, solutions_of, verdict_word}
use Rattle.nonograde_c.specs.Calls.{answer_on, pick_within, puzzle_of}
use Rattle.nonograde_c.specs.GivenCells.{grid_answer}
use Rattle.nonograde_c.specs.declared.faults.Fault.{Fault}
use Rattle.nonograde_c.specs.declared.faults.Fault.TheVariants.{Setting}

-- the line on the solutions that extend a grid: the word of the verdict, and how many guesses were
-- spent
abbrev pub extensions_line : Extensions → List ℕ
extensions_line extensions =
    verdict_word extensions.verdict ++ codes " " ++ decimal extensions.spent ++ codes "\n"

-- the report on the solutions that extend a grid: the line on them, and each of them
abbrev pub extensions_text : Extensions → List ℕ
extensions_text extensions =
    extensions_line extensions ++ flat_map solution_text (solutions_of extensions.verdict)

-- the report on the solutions of the puzzle `p` that extend these cells
abbrev pub extend_text : Pick → ℕ → Nonogram → List Cell → List ℕ
extend_text pick guesses p cells = extensions_text (extensions_of pick p cells guesses)

-- the answer on the solutions of the puzzle in `body` by a guess rule; without a rule, the fault of
-- a bad setting
abbrev pub extend_by : Option Pick → ℕ → ℕ → List ℕ → List ℕ → Result (List ℕ) Fault
extend_by None guesses format body cells = Err Setting
extend_by (Some pick) guesses format body cells =
    answer_on
    (λ p. answer_on (λ grid. Ok (extend_text pick guesses p grid.cells)) (grid_answer p cells))
    (puzzle_of format body)

-- the answer on the solutions of the puzzle in `body` that extend the cells that the bytes `cells`
-- give; `pick` is the number of the guess rule
abbrev pub extend_answer : ℕ → ℕ → ℕ → List ℕ → List ℕ → Result (List ℕ) Fault
extend_answer guesses pick format body cells =
    extend_by (pick_within guesses pick) guesses format body cells
