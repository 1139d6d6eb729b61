-- The clue that a text line stands for.
use Rattle.std.specs.Prelude.{ℕ, zero, List, [], ◌∷◌, Option, Some, None, Result, option_and_then, if◌then◌else◌}
use Rattle.grid_core.specs.Clues.{is_clue}
use Rattle.puzzle_text.specs.declared.faults.TextFault.{TextFault}
use Rattle.puzzle_text.specs.declared.faults.TextFault.TheVariants.{BadNumber}
use Rattle.puzzle_text.specs.Lines.{TextLine}
use Rattle.puzzle_text.specs.Numbers.{pieces, number_within}
use Rattle.puzzle_text.specs.Answers.{or_fault, each, each_some}

-- the numbers of all `pieces`, if each of them is a number of at most `limit`
abbrev pub numbers_within : ℕ → List (List ℕ) → Option (List ℕ)
numbers_within limit pieces = each_some (number_within limit) pieces

-- the clue that consists of `numbers`, if they are a clue; a single 0 stands for the empty clue
abbrev pub clue_of_numbers : ℕ → List ℕ → Option (List ℕ)
clue_of_numbers limit (zero ∷ []) = Some []
clue_of_numbers limit numbers = if is_clue limit numbers then Some numbers else None

-- the clue that the text of a line stands for, if it is a clue
abbrev pub clue_of : ℕ → List ℕ → Option (List ℕ)
clue_of limit text = option_and_then (clue_of_numbers limit) (numbers_within limit (pieces text))

-- the clues of `lines`, or `BadNumber` of the first line that is not a clue
abbrev pub clues_of : ℕ → List TextLine → Result (List (List ℕ)) TextFault
clues_of limit lines =
    each (λ line. or_fault (BadNumber line.number) (clue_of limit line.text)) lines
