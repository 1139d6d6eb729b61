-- The invariant of the loop of `write_texts`: the texts passed were sent, and `sent` is their length.
use Rattle.std.proofs.Common.{◌≡◌, length, take}
use Rattle.std.specs.Io.KnownBytes.{Appends}
use Rattle.streams.specs.Counted.{fault_count}
use Rattle.streams.specs.Writing.{joined}
use Rattle.streams.proofs.writing.write_texts.Given as goal

abbrev pub invariant-loop-text : goal.invariant-loop-text
invariant-loop-text g l = record {
  sent : l.sent ≡ length (joined (take l.text-index l.front));
  wrote : Appends (g.W.Write.contents l.initial.writer.inner) (g.W.Write.contents l.writer.inner)
      (joined (take l.text-index l.front));
  same : fault_count l.writer ≡ fault_count l.initial.writer;
}
