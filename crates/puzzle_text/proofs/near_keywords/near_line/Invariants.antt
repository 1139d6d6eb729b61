-- The loop of `near_line`: no keyword so far is near the word.
use Rattle.puzzle_text.proofs.Names.{◌≡◌, length, map, str_to_ascii_lowercase, shown_keyword}
use Rattle.puzzle_text.specs.NearKeywords.{near_line}
use Rattle.puzzle_text.proofs.near_keywords.near_line.Given as goal

abbrev pub invariant-loop-rest : goal.invariant-loop-rest
invariant-loop-rest l =
    near_line (str_to_ascii_lowercase l.word) (map shown_keyword l.rest)
    ≡ near_line (str_to_ascii_lowercase l.word) (map shown_keyword l.lines)

abbrev pub decreases-loop-rest : goal.decreases-loop-rest
decreases-loop-rest l = length l.rest
