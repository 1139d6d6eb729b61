-- What a buffer holds after pieces were copied into it, one after another.
use Rattle.std.proofs.Common.{◌≡◌, ℕ, ◌+◌, List, ◌++◌, length, take, drop}
use Rattle.std.proofs.Math.Seq.{take-append_seam, drop-append-add}
use Rattle.std.proofs.lemmas.List.{drop-drop, length-append}

-- copying a piece after the bytes that stand at the start
pub put_behind : (front piece old buffer : List ℕ) → buffer ≡ front ++ drop (length front) old
    → take (length front) buffer ++ piece ++ drop (length front + length piece) buffer
    ≡ (front ++ piece) ++ drop (length (front ++ piece)) old
put_behind front piece old buffer is =
    rw (
      is,
      take-append_seam front (drop (length front) old),
      drop-append-add front (drop (length front) old) (length piece),
      drop-drop (length piece) (length front) old,
      length-append front piece,
    )
