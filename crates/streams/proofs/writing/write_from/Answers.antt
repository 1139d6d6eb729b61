-- `write_from`: what a write takes of the rest is appended to what was sent before.
use Rattle.std.proofs.Common.{append-nil, refl, rules}
use Rattle.std.proofs.KnownBytes.{Appends-kept}
use Rattle.streams.proofs.Prefix.{appends_prefix}
use Rattle.streams.proofs.writing.write_from.Goals as goal

pub loop-sent-preserved : goal.loop-sent-preserved
loop-sent-preserved g c = record {
  wrote = appends_prefix _ _ _ _ _ _ c.loop-sent.invariant.wrote c.in-Ok.ensures.bytes;
  within = search rules;
  same = search rules;
}

pub returns-in-Err-clause-sent : goal.returns-in-Err-clause-sent
returns-in-Err-clause-sent g c = (c.loop-sent.sent, refl, (search rules, search (rules, Appends-kept, append-nil)))
