-- The invariant of the loop of `push_shown`: the shown forms of the first `byte-index` bytes are appended.
use Rattle.std.proofs.Common.{◌≡◌, ◌++◌, map, take}
use Rattle.check_text.specs.Quoting.{shown_byte}
use Rattle.check_text.proofs.quoting.push_shown.Given as goal

abbrev pub invariant-loop-byte : goal.invariant-loop-byte
invariant-loop-byte l = l.text.items ≡ l.initial.text.items ++ map shown_byte (take l.byte-index l.bytes)
