-- `match_clue_prefix`: each turn removes one more run, until a number has no run or a run has another length.
use Rattle.line_core.proofs.Names.{◌∙◌, ◌≡◌, length, sym, eqb-true, eqb-false, arith, not, nat_eq, width_most}
use Rattle.line_core.proofs.CluePrefixes.{walk_more, walk_near, walk_none, walk_last, length-mirrored_if, mirrored_number}
use Rattle.line_core.proofs.clue_prefix.match_clue_prefix.Goals as goal

pub returns-then-is_empty : goal.returns-then-is_empty
returns-then-is_empty g c = λ cells mask.
    let none = eqb-true _ 0 (sym c.is_empty.ensures ∙ c.if-is_empty.true) in (
      omega (arith, length-mirrored_if (not (nat_eq g.row.MIRRORED 0)) c.args.clue.now),
      walk_none cells _ _ _ _ (c.loop-j.invariant cells mask) none,
    )

pub returns-then-start-least : goal.returns-then-start-least
returns-then-start-least g c = λ cells mask.
    walk_near cells _ _ _ _ (c.loop-j.invariant cells mask) _ c.if-start-least.true c.first_index-start.ensures.in_mask

pub prefix-requires : goal.prefix-requires
prefix-requires g c =
    mirrored_number (not (nat_eq g.row.MIRRORED 0)) _ c.args.clue.now _ _ c.requires c.loop-j-test.true c.mirrored_number-number.ensures

pub overflow_add-least : goal.overflow_add-least
overflow_add-least g c =
    let n = mirrored_number (not (nat_eq g.row.MIRRORED 0)) _ c.args.clue.now _ _ c.requires c.loop-j-test.true
    c.mirrored_number-number.ensures in
    omega (arith, n, width_most _ _ g.met.W.BitSet.top_is.1 g.met.W.BitSet.width_is)

pub loop-j-preserved : goal.loop-j-preserved
loop-j-preserved g c = λ cells mask.
    let t = not (nat_eq g.row.MIRRORED 0) in
    let first = c.first_index-start.ensures in
    let number = c.mirrored_number-number.ensures in
    let some = mirrored_number t _ c.args.clue.now _ _ c.requires c.loop-j-test.true number in
    rw number (walk_more cells _ _ _ _ (c.loop-j.invariant cells mask) _ _ _ _ (omega (arith, length-mirrored_if t c.args.clue.now))
    (rw number at some.0) first.in_mask first.least c.if-start-least.false c.shifted_down.ensures (rw number at c.prefix.ensures)
    c.symmetric_difference-left.ensures)

pub returns-then-not-is_empty : goal.returns-then-not-is_empty
returns-then-not-is_empty g c = λ cells mask.
    let some = eqb-false _ 0 (sym c.is_empty-2.ensures ∙ c.if-not-is_empty.true) in
    walk_last cells _ _ _ _ (c.loop-j.invariant cells mask)
    (omega (arith, length-mirrored_if (not (nat_eq g.row.MIRRORED 0)) c.args.clue.now))
    (omega arith)

pub returns : goal.returns
returns g c = λ cells mask.
    let all = length-mirrored_if (not (nat_eq g.row.MIRRORED 0)) c.args.clue.now in
    let e : c.loop-j.j ≡ length c.args.clue.now = omega arith in
    let none = eqb-true _ 0 (sym c.is_empty-2.ensures ∙ c.if-not-is_empty.false) in
    (omega arith, rw e at (walk_none cells _ _ _ _ (c.loop-j.invariant cells mask) none))
