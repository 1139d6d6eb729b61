-- `entries_of`: the next entry has the name and the bytes of the next file.
use Rattle.std.proofs.Common.{arith}
use Rattle.program.proofs.FilesLemmas.{more_entries}
use Rattle.program.proofs.files.entries_of.Goals as goal

pub loop-place-preserved : goal.loop-place-preserved
loop-place-preserved c =
    more_entries _ _ _ c.args.paths.now c.args.bodies.now c.loop-place.place c.index-paths-place.result c.index-bodies-place.result
    (omega arith) (omega arith)
    c.index-paths-place.is c.index-bodies-place.is c.as_bytes.ensures.value c.as_slice.ensures.value c.in_ok-push.ensures.items
    c.loop-place.invariant
