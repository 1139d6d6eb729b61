-- The loop of `letters`: the letters so far, and those at the start of the remaining text, are those at the start of all.
use Rattle.puzzle_text.proofs.Names.{◌≡◌, ◌+◌, drop, prefix_len, is_ascii_alphabetic}
use Rattle.puzzle_text.proofs.keywords.letters.Given as goal

abbrev pub invariant-loop-place : goal.invariant-loop-place
invariant-loop-place l = l.place + prefix_len is_ascii_alphabetic (drop l.place l.text) ≡ prefix_len is_ascii_alphabetic l.text
