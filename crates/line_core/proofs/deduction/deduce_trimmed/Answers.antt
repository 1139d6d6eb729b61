-- `deduce_trimmed`: what is deduced of the cells between the known ends is deduced of the line.
use Rattle.line_core.proofs.Names.{rules, ◌-◌}
use Rattle.line_core.proofs.KnownEnds.{clue_part, inner_dead, inner_more, inner_none, inner_some, inner_within}
use Rattle.line_core.proofs.deduction.deduce_trimmed.Goals as goal

pub returns-in_err-from : goal.returns-in_err-from
returns-in_err-from g c =
    let ends = c.known_ends-front.ensures in
    rw c.from_residual.ensures (inner_dead c.args.line.now _ _ ends.front ends.back ends.inner c.args.clue.now c.in_err-from.ensures)

pub deduce_narrowed-requires-2 : goal.deduce_narrowed-requires-2
deduce_narrowed-requires-2 g c =
    let part = clue_part _ (c.in_ok-from.to - c.in_ok-from.from) c.in_ok-from.from c.args.clue.now c.requires in search rules

pub with_slice-requires-clause-within : goal.with_slice-requires-clause-within
with_slice-requires-clause-within g c =
    let ends = c.known_ends-front.ensures in
    inner_within c.args.line.now _ _ ends.front ends.back ends.inner c.args.clue.now _ c.in_ok-from.ensures.2 c.in-Some.deduced
    (rw (c.slice-inner.ensures, c.len.ensures.len) at c.in-Some.ensures)

pub with_slice-requires-clause-more : goal.with_slice-requires-clause-more
with_slice-requires-clause-more g c =
    let ends = c.known_ends-front.ensures in
    inner_more c.args.line.now _ _ ends.front ends.back ends.inner c.args.clue.now _ c.in_ok-from.ensures.2 c.in-Some.deduced
    (rw (c.slice-inner.ensures, c.len.ensures.len) at c.in-Some.ensures)

pub returns-in-None : goal.returns-in-None
returns-in-None g c =
    let ends = c.known_ends-front.ensures in
    inner_none c.args.line.now _ _ ends.front ends.back ends.inner c.args.clue.now _ c.in_ok-from.ensures.2
    (rw (c.slice-inner.ensures, c.len.ensures.len) at c.in-None.ensures)

pub returns-in-Some : goal.returns-in-Some
returns-in-Some g c =
    let ends = c.known_ends-front.ensures in
    let answer = rw (c.slice-inner.ensures, c.len.ensures.len) at c.in-Some.ensures in
    rw c.with_slice.ensures
    (inner_some c.args.line.now _ _ ends.front ends.back ends.inner c.args.clue.now _ c.in_ok-from.ensures.2 c.in-Some.deduced answer)
