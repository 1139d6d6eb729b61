-- Lines without a line feed in them.
use Rattle.std.specs.Prelude.{◌≡◌, ℕ, Bool, true, not, List, ◌==◌}
use Rattle.std.specs.List.{list_all, AllByRecursion}
use Rattle.puzzle_text.specs.Lines.{TextLine, lines}

-- no byte is a line feed
abbrev pub has_no_feed : List ℕ → Bool
has_no_feed bytes = list_all (λ byte. not (byte == 10)) bytes

-- no line has a line feed in its text
abbrev pub HaveNoFeed : List TextLine → Type 0
HaveNoFeed lines = AllByRecursion (λ line. has_no_feed line.text ≡ true) lines
