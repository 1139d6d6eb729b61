-- `write_texts`: what was sent of a text follows the texts before it.
use Rattle.std.proofs.Common.{rules, arith}
use Rattle.streams.proofs.Prefix.{among_within, sent_among, sent_last}
use Rattle.streams.proofs.writing.write_texts.Goals as goal

pub write_from-requires-clause-counted : goal.write_from-requires-clause-counted
write_from-requires-clause-counted g c =
    let most = among_within c.args.front.now c.args.last.now c.loop-text.text-index c.text-item.result c.deref.result.now
    c.loop-text-test.true c.text-item.is c.deref.ensures.value in
    omega (arith, most, c.loop-text.invariant.sent, c.requires.counted)

pub returns-in_err-sent-clause-sent : goal.returns-in_err-sent-clause-sent
returns-in_err-sent-clause-sent g c =
    let left = c.in_err-sent.ensures.sent in
    let all = sent_among _ _ _ c.args.front.now c.args.last.now c.loop-text.text-index c.text-item.result c.deref.result.now
    c.loop-text.sent left.0 _ c.loop-text-test.true c.text-item.is c.deref.ensures.value c.loop-text.invariant.sent
    c.loop-text.invariant.wrote left.1 left.2 in
    search rules

pub returns-in_err-sent-2-clause-sent : goal.returns-in_err-sent-2-clause-sent
returns-in_err-sent-2-clause-sent g c =
    let left = c.in_err-sent-2.ensures.sent in
    let all = sent_last _ _ _ c.args.front.now c.args.last.now c.loop-text.text-index c.loop-text.sent left.0 _ (omega arith)
    c.loop-text.invariant.sent c.loop-text.invariant.wrote left.1 left.2 in
    search rules
