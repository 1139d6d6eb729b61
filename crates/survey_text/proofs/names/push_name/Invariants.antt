-- The invariant of the loop of `push_name`: the printed forms of the first `byte-index` bytes are appended.
use Rattle.std.proofs.Common.{◌≡◌, ◌++◌, map, take}
use Rattle.survey_text.specs.Entries.{printed_byte}
use Rattle.survey_text.proofs.names.push_name.Given as goal

abbrev pub invariant-loop-byte : goal.invariant-loop-byte
invariant-loop-byte l = l.text.items ≡ l.initial.text.items ++ map printed_byte (take l.byte-index l.name)
