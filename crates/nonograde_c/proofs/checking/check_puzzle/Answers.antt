-- `check_puzzle`: the answer to the job has the puzzle and the settings, and its findings are those of the report on these.
use Rattle.std.proofs.Common.{◌∙◌, ◌++◌, ℕ, List, ap}
use Rattle.grid_core.specs.Nonogram.{Nonogram}
use Rattle.solve_core.specs.Report.{findings_of}
use Rattle.solve_core.specs.declared.picks.Pick.{Pick}
use Rattle.nonograde_c.specs.Checking.{checked}
use Rattle.nonograde_c.proofs.FactLemmas.{same_job}
use Rattle.nonograde_c.proofs.checking.check_puzzle.Goals as goal

pub returns : goal.returns
returns c =
    let answer = c.grade-answer.result in
    let printed : Pick → Nonogram → ℕ → List ℕ = λ pick p limit. checked c.args.name.now limit p (findings_of pick p limit) in
    c.in_ok-push_graded.ensures.text
    ∙ ap (λ (text : List ℕ). text ++ printed answer.pick answer.puzzle answer.guesses) c.new-text.ensures.items
    ∙ same_job printed c.args.pick c.args.puzzle c.args.guesses answer.pick answer.puzzle answer.guesses
    (c.grade-answer.ensures.pick ∙ c.new.ensures.pick) (c.grade-answer.ensures.puzzle ∙ c.new.ensures.puzzle)
    (c.grade-answer.ensures.guesses ∙ c.new.ensures.guesses)
