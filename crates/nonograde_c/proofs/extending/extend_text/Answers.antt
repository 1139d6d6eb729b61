-- `extend_text`: the report is that on the solutions that the solver of the puzzle finds.
use Rattle.std.proofs.Common.{◌∙◌, ◌++◌, ℕ, List, ap}
use Rattle.grid_core.specs.Nonogram.{Nonogram}
use Rattle.solve_core.specs.Extensions.{extensions_of}
use Rattle.nonograde_c.specs.Extending.{extensions_text}
use Rattle.nonograde_c.proofs.extending.extend_text.Goals as goal

pub returns : goal.returns
returns c =
    let found = c.in_ok-extensions in
    c.in_ok-push_extensions.ensures
    ∙ ap (λ (text : List ℕ). text ++ extensions_text found.extensions) c.new-text.ensures.items
    ∙ ap extensions_text found.ensures.extensions
    ∙ ap (λ (p : Nonogram). extensions_text (extensions_of c.args.pick p c.args.grid.now.cells c.args.guesses)) c.in_ok-solver.ensures
