-- A second puzzle below the first one in a refused `.mk` or `.nin` text.
use Rattle.std.specs.Prelude.{ℕ, ◌+◌, List, length, filter, slice_get, Option, Some, None, option_and_then, ◌==◌, if◌then◌else◌}
use Rattle.std.specs.Option.{option_map}
use Rattle.std.specs.Result.{result_ok}
use Rattle.puzzle_text.specs.declared.forms.TextForm.{TextForm}
use Rattle.puzzle_text.specs.declared.forms.TextForm.TheVariants.{SecondPuzzle}
use Rattle.puzzle_text.specs.Lines.{TextLine, is_non_blank}
use Rattle.puzzle_text.specs.Mk.{at_hash}
use Rattle.puzzle_text.specs.Numbers.{pieces}
use Rattle.puzzle_text.specs.Sizes.{size_line, two_sizes}

-- the two sizes in a line, if it has two and nothing else
abbrev pub sizes_in : ℕ → TextLine → Option (ℕ × ℕ)
sizes_in limit line = result_ok (two_sizes limit (pieces line.text))

-- the line of index `count` among the lines of a section that are not blank, with its two sizes, if
-- it has two and nothing else
abbrev pub sizes_below : ℕ → ℕ → List TextLine → Option (TextLine × (ℕ × ℕ))
sizes_below limit count section =
    option_and_then (λ line. option_map (λ sizes. (line, sizes)) (sizes_in limit line))
    (slice_get (filter is_non_blank section) count)

-- The form of an `.mk` text that has a second puzzle below the first one: the next line after the
-- clue lines of the first puzzle's columns has two sizes, and a line below it begins with `#`.
-- Blank lines are not counted, and the first size of the text is taken as the height.
abbrev pub second_mk : ℕ → List TextLine → Option TextForm
second_mk limit lines =
    option_and_then
    (λ size.
    option_and_then
    (λ rows.
    option_and_then
    (λ columns.
    option_map (λ found. SecondPuzzle found.0.number) (sizes_below limit size.0.1 columns.0))
    (at_hash rows.1))
    (at_hash size.1))
    (result_ok (size_line limit lines))

-- the form of a text of which the line `found` begins a second puzzle, if below that line, which
-- has the index `count`, there are just as many lines that are not blank as its sizes require
abbrev pub if_whole : ℕ → List TextLine → TextLine × (ℕ × ℕ) → Option TextForm
if_whole count section found =
    if count + found.1.0 + found.1.1 + 1 == length (filter is_non_blank section)
    then Some (SecondPuzzle found.0.number) else None

-- The form of a `.nin` text that has a second puzzle below the first one: the next line after the
-- clue lines of the first puzzle has two sizes, and just as many lines as these require come below
-- it: a wrong height is no second puzzle. Blank lines are not counted.
abbrev pub second_nin : ℕ → List TextLine → Option TextForm
second_nin limit lines =
    option_and_then
    (λ size.
    option_and_then (if_whole (size.0.0 + size.0.1) size.1)
    (sizes_below limit (size.0.0 + size.0.1) size.1))
    (result_ok (size_line limit lines))
