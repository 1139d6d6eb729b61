-- Several texts written one after another, in whole or in part.
use Rattle.std.specs.Prelude.{ℕ, ◌≤◌, List, length, take, Option, Vec}
use Rattle.std.specs.List.{flat_map}
use Rattle.std.specs.Io.KnownBytes.{Appends}
use Rattle.std.specs.declared.alloc.Global.{Global}

-- the bytes of all texts, one text after another
abbrev pub joined : List (Vec ℕ Global) → List ℕ
joined texts = flat_map (λ text. text.items) texts

-- the first `sent` bytes of `text` were appended to what a writer held, and nothing else
abbrev pub WritesPrefix : List ℕ → ℕ → Option (List ℕ) → Option (List ℕ) → Type 0
WritesPrefix text sent old new = (sent ≤ length text) × Appends old new (take sent text)
