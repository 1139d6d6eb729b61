-- `read_within`: if an allocation fails, no more was read than the limit.
use Rattle.std.proofs.Common.{◌++◌, take, refl, arith}
use Rattle.std.proofs.lemmas.List.{length-append, length-take}
use Rattle.std.proofs.KnownBytes.{Consumes-trans}
use Rattle.streams.proofs.reading.read_within.Goals as goal

pub returns-then-is_err-clause-refused : goal.returns-then-is_err-clause-refused
returns-then-is_err-clause-refused g c =
    let chunk = take c.in-Ok.count c.read.new.buffer in
    record {
      bytes = c.loop-buffer.text.items ++ chunk;
      few = omega (
        arith,
        length-append c.loop-buffer.text.items chunk,
        length-take c.min-allowed.result c.loop-buffer.buffer,
        c.in-Ok.ensures.bound.0,
        c.in-Ok.ensures.bound.1,
        c.read.auto.buffer,
        c.min-allowed.ensures,
        c.len.ensures,
        c.loop-buffer.invariant.short,
      );
      read = Consumes-trans _ _ _ _ _ c.loop-buffer.invariant.taken c.in-Ok.ensures.bytes.0;
    }

pub returns-in_default-clause-whole : goal.returns-in_default-clause-whole
returns-in_default-clause-whole g c = tt

pub returns-in_default-clause-failed : goal.returns-in_default-clause-failed
returns-in_default-clause-failed g c = (λ _. omega (arith, c.in_default.ensures.counts, c.loop-buffer.invariant.same), λ _. refl)
