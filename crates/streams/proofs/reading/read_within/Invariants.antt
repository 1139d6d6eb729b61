-- The invariant of the loop of `read_within`: the text is what was read, and no call failed.
use Rattle.std.proofs.Common.{◌≡◌, ◌≤◌, ◌-◌, vec_len}
use Rattle.std.specs.Io.KnownBytes.{Consumes}
use Rattle.streams.specs.Counted.{fault_count}
use Rattle.streams.proofs.reading.read_within.Given as goal

abbrev pub invariant-loop-buffer : goal.invariant-loop-buffer
invariant-loop-buffer g l = record {
  taken : Consumes (g.R.Read.remaining l.initial.reader.inner) (g.R.Read.remaining l.reader.inner) l.text.items;
  short : vec_len l.text ≤ l.limit;
  same : fault_count l.reader ≡ fault_count l.initial.reader;
}

abbrev pub decreases-loop-buffer : goal.decreases-loop-buffer
decreases-loop-buffer g l = l.limit - vec_len l.text
