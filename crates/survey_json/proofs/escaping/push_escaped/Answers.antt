-- `push_escaped`: the bytes before the next `<`, and the escape; at the end all that is left.
use Rattle.std.proofs.Common.{rules, ◌+◌, ◌-◌, length, drop, append_assoc, arith}
use Rattle.std.proofs.lemmas.List.{length-drop, take_all}
use Rattle.survey_json.proofs.EscapingLemmas.{escaped-first, escaped-none}
use Rattle.survey_json.proofs.escaping.push_escaped.Goals as goal

pub loop-at-preserved : goal.loop-at-preserved
loop-at-preserved c =
    let rest = c.loop-at.rest.now in
    let at = c.in-Some.at in
    let first = escaped-first rest at c.in-Some.ensures in
    let behind = take_all (length rest - (at + 1)) (drop (at + 1) rest) (search (rules, length-drop)) in
    rw (behind, c.in_ok-push_bytes-2.ensures, c.in_ok-push_bytes.ensures) (grind (arith, append_assoc, first, c.loop-at.invariant))

pub returns : goal.returns
returns c =
    let none = escaped-none c.loop-at.rest.now c.in_default.ensures in
    search (rules, none, c.loop-at.invariant)
