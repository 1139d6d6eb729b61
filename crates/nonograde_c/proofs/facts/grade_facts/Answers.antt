-- `grade_facts`: the answer to the job has the puzzle and the findings of the report on it.
use Rattle.std.proofs.Common.{◌∙◌}
use Rattle.solve_core.specs.Report.{findings_of}
use Rattle.nonograde_c.specs.Facts.{facts_of}
use Rattle.nonograde_c.proofs.FactLemmas.{of_job}
use Rattle.nonograde_c.proofs.facts.grade_facts.Goals as goal

pub returns : goal.returns
returns c =
    c.facts_of.ensures
    ∙ of_job facts_of findings_of c.args.pick c.args.puzzle c.args.guesses c.grade-answer.result.pick c.grade-answer.result.puzzle
    c.grade-answer.result.guesses c.puzzle.result.now c.in_ok-findings.findings.now (c.grade-answer.ensures.pick ∙ c.new.ensures.pick)
    (c.grade-answer.ensures.puzzle ∙ c.new.ensures.puzzle) (c.grade-answer.ensures.guesses ∙ c.new.ensures.guesses) c.puzzle.ensures
    c.in_ok-findings.ensures.report
