-- The loop of `nth_with_keyword`: the line is among those to come, at the index `left`.
use Rattle.puzzle_text.proofs.Names.{◌≡◌, length, map, slice_get, str_to_ascii_lowercase, with_keyword, shown_keyword}
use Rattle.puzzle_text.proofs.keywords.nth_with_keyword.Given as goal

abbrev pub invariant-loop-rest : goal.invariant-loop-rest
invariant-loop-rest l =
    slice_get (with_keyword (str_to_ascii_lowercase l.word) (map shown_keyword l.rest)) l.left
    ≡ slice_get (with_keyword (str_to_ascii_lowercase l.word) (map shown_keyword l.lines)) l.place

abbrev pub decreases-loop-rest : goal.decreases-loop-rest
decreases-loop-rest l = length l.rest
