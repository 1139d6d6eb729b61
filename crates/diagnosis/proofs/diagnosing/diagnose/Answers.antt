-- `diagnose`: what the findings of a report say.
use Rattle.diagnosis.proofs.Reports.{report-dead, report-sizes}
use Rattle.diagnosis.proofs.diagnosing.diagnose.Goals as goal

pub outcome_of-requires-clause-sizes : goal.outcome_of-requires-clause-sizes
outcome_of-requires-clause-sizes c = report-sizes c.args.puzzle.now c.recall_invariant.ensures c.args.findings.now c.requires

pub outcome_of-requires-clause-dead : goal.outcome_of-requires-clause-dead
outcome_of-requires-clause-dead c = report-dead c.args.puzzle.now c.recall_invariant.ensures c.args.findings.now c.requires
