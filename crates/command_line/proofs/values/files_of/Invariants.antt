-- The invariant of the loop of `files_of`: the words passed are copied.
use Rattle.std.proofs.Common.{◌≡◌, map, take, string_bytes}
use Rattle.command_line.proofs.values.files_of.Given as goal

abbrev pub invariant-loop-word : goal.invariant-loop-word
invariant-loop-word l = map string_bytes l.files.items ≡ map (λ s. s.now) (take l.word-index l.word-items)
