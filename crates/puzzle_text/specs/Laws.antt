-- Laws of the formats: what is written is read again, and greater limits keep what is read.
use Rattle.std.specs.Prelude.{◌≡◌, ℕ, ◌≤◌, true, false, List, ◌++◌, length, Result, Ok, Err}
use Rattle.grid_core.specs.Nonogram.{Nonogram, IsNonogramWithin, plain}
use Rattle.puzzle_text.specs.declared.faults.TextFault.{TextFault}
use Rattle.puzzle_text.specs.declared.faults.TextFault.TheVariants.{BadSize, BadNumber}
use Rattle.puzzle_text.specs.declared.limits.TheConstants.{MAX_PUZZLE_LEN}
use Rattle.puzzle_text.specs.Mk.{read_mk}
use Rattle.puzzle_text.specs.Nin.{read_nin}
use Rattle.puzzle_text.specs.Non.{read_non}
use Rattle.puzzle_text.specs.Orientation.{oriented_puzzle}
use Rattle.puzzle_text.specs.Written.{text_mk, text_nin, text_non, is_ambiguous}

-- the text of each puzzle in `.mk` is read again as the same puzzle without texts and goal
abbrev pub MkIsReadBack : ℕ → Type 0
MkIsReadBack limit =
    (p : Nonogram) → IsNonogramWithin limit p
    → read_mk limit (text_mk p) ≡ Ok (plain p.width p.height p.rows p.columns)

-- the text in `.nin` of each puzzle that isn't ambiguous is read again as the same puzzle without
-- texts and goal
abbrev pub NinIsReadBack : ℕ → Type 0
NinIsReadBack limit = (p : Nonogram) → IsNonogramWithin limit p → is_ambiguous p ≡ false
    → read_nin limit (text_nin p) ≡ Ok (plain p.width p.height p.rows p.columns)

-- The text in `.nin` of an ambiguous puzzle is read with other sizes: its width and height are
-- exchanged, and its clues are the same in the same order. So the rows are the first `p.width` of
-- its row clues and column clues.
abbrev pub AmbiguousIsReadOtherwise : ℕ → Type 0
AmbiguousIsReadOtherwise limit = (p : Nonogram) → IsNonogramWithin limit p → is_ambiguous p ≡ true
    → read_nin limit (text_nin p) ≡ Ok (oriented_puzzle p.height p.width (p.rows ++ p.columns))

-- the text of each puzzle in `.non` is read again as the same puzzle, including its texts and its
-- goal
abbrev pub NonIsReadBack : ℕ → Type 0
NonIsReadBack limit = (p : Nonogram) → IsNonogramWithin limit p → read_non limit (text_non p) ≡ Ok p

-- the text of each puzzle is short enough to be read, in each format
abbrev pub WrittenIsShort : ℕ → Type 0
WrittenIsShort limit = (p : Nonogram) → IsNonogramWithin limit p
    → (length (text_non p) ≤ MAX_PUZZLE_LEN)
    × (length (text_mk p) ≤ MAX_PUZZLE_LEN)
    × (length (text_nin p) ≤ MAX_PUZZLE_LEN)

-- `new` is `old`, unless `old` is `BadSize` or `BadNumber`
abbrev pub KeepsAnswer : {A : Type 0} → Result A TextFault → Result A TextFault → Type 0
KeepsAnswer old new =
    (old ≡ Err BadSize → ⊥) → ((number : ℕ) → old ≡ Err (BadNumber number) → ⊥) → new ≡ old

-- with `greater` in place of `limit`, each text in each format has the same puzzle or the same
-- fault, unless a size or a number was out of range
abbrev pub GreaterLimitKeeps : ℕ → ℕ → Type 0
GreaterLimitKeeps limit greater = (bytes : List ℕ)
    → KeepsAnswer (read_non limit bytes) (read_non greater bytes)
    × KeepsAnswer (read_mk limit bytes) (read_mk greater bytes)
    × KeepsAnswer (read_nin limit bytes) (read_nin greater bytes)
