-- `read_grid`: the grid has the cells that were given; it has at most 65,536.
use Rattle.std.proofs.Common.{◌∙◌, sym}
use Rattle.nonograde_c.proofs.GivenLemmas.{fits, fits-none}
use Rattle.nonograde_c.proofs.LengthLemmas.{grid_cells-le}
use Rattle.nonograde_c.proofs.answers.read_grid.Goals as goal

pub returns-in-Some-clause-answer : goal.returns-in-Some-clause-answer
returns-in-Some-clause-answer c = fits c.args.puzzle.now _ c.in-Some.grid (sym c.in-Some.is ∙ c.in_ok-grid.ensures)

pub returns-in-Some-clause-few : goal.returns-in-Some-clause-few
returns-in-Some-clause-few c = grid_cells-le c.in-Some.grid c.width.ensures.size c.width.ensures.cells

pub returns-in-None-clause-answer : goal.returns-in-None-clause-answer
returns-in-None-clause-answer c = λ _. fits-none c.args.puzzle.now _ (sym c.in-None.is ∙ c.in_ok-grid.ensures)
