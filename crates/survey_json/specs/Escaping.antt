-- Lines for the data of a page, which must not end the element that they stand in.
use Rattle.std.specs.Prelude.{ℕ, List, [], ◌∷◌, codes, ◌==◌, if◌then◌else◌}
use Rattle.std.specs.List.{flat_map}

-- a byte of a line: the escape of JSON for `<`, and any other byte as it is
abbrev pub escaped_byte : ℕ → List ℕ
escaped_byte byte = if byte == 60 then codes "\\u003c" else byte ∷ []

-- a line with each `<` as `\u003c`
abbrev pub escaped : List ℕ → List ℕ
escaped line = flat_map escaped_byte line
