-- `single_run_support`: a cell is fillable if the run covers it from some start, and blankable if some start leaves it blank.
use Rattle.line_core.proofs.Names.{true, false, rules, arith, eqb-true, recursion_from_All, ArePositive}
use Rattle.line_core.proofs.Joining.{positive_at}
use Rattle.line_core.proofs.SingleRuns.{single_run_none, single_run_fillable, single_run_blankable}
use Rattle.line_core.proofs.single_run.single_run_support.Goals as goal

pub returns-then-is_empty-clause-filled : goal.returns-then-is_empty-clause-filled
returns-then-is_empty-clause-filled g c =
    search (rules, eqb-true, recursion_from_All, single_run_none g.line _ c.requires.1.1.1.1 _ c.single_run_starts-starts.ensures true)

pub returns-then-is_empty-clause-blank : goal.returns-then-is_empty-clause-blank
returns-then-is_empty-clause-blank g c =
    search (rules, eqb-true, recursion_from_All, single_run_none g.line _ c.requires.1.1.1.1 _ c.single_run_starts-starts.ensures false)

pub returns-clause-filled : goal.returns-clause-filled
returns-clause-filled g c =
    let pos : ArePositive c.args.clue.now = recursion_from_All _ _ c.requires.1.1.1.0.positive in
    single_run_fillable g.line _ c.requires.1.1.1.1 _ c.single_run_starts-starts.ensures _ _ _ pos (positive_at _ pos 0 (omega arith))
    c.requires.1.1.0.short c.shifted_up.ensures c.spread-fillable.ensures

pub returns-clause-blank : goal.returns-clause-blank
returns-clause-blank g c =
    let domain = c.requires.1.1.0 in
    let first = c.first_index.ensures in
    let last = c.last_index.ensures in
    single_run_blankable g.line _ c.requires.1.1.1.1 _ c.single_run_starts-starts.ensures _ _ _ _ _ _ _
    (recursion_from_All _ _ c.requires.1.1.1.0.positive) domain.len_is domain.short
    first.in_mask first.least last.in_mask last.greatest c.single_run_overlap-overlap.ensures c.prefix.ensures c.difference.ensures
