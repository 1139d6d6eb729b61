-- The loop of `nth_non_blank`: in the lines that are left, the line is still `before` non-blank lines below the first.
use Rattle.puzzle_text.proofs.Names.{◌≡◌, filter, length, map, slice_get, is_non_blank, shown_line}
use Rattle.puzzle_text.proofs.second_puzzles.nth_non_blank.Given as goal

abbrev pub invariant-loop-rest : goal.invariant-loop-rest
invariant-loop-rest l =
    slice_get (filter is_non_blank (map shown_line l.rest)) l.before
    ≡ slice_get (filter is_non_blank (map shown_line l.lines)) l.index

abbrev pub decreases-loop-rest : goal.decreases-loop-rest
decreases-loop-rest l = length l.rest
