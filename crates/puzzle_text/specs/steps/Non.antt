-- The texts of a puzzle, set field by field.
use Rattle.std.specs.Prelude.{ℕ, List, [], ◌∷◌, Option, Some, None}
use Rattle.grid_core.specs.Description.{Description, with_text}
use Rattle.grid_core.specs.declared.fields.Field.{Field}
use Rattle.puzzle_text.specs.Lines.{TextLine}
use Rattle.puzzle_text.specs.Keywords.{field_word}
use Rattle.puzzle_text.specs.Non.{field_text}

-- `d` with this text of `field`, or unchanged if there is no text
abbrev pub with_found : Description → Field → Option (List ℕ) → Description
with_found d field None = d
with_found d field (Some text) = with_text d field text

-- `d` with the texts of these fields set one after the other, each to that of the field's first
-- line
abbrev pub with_all_found : List TextLine → Description → List Field → Description
with_all_found lines d [] = d
with_all_found lines d (field ∷ fields) =
    with_all_found lines (with_found d field (field_text (field_word field) lines)) fields
