-- Escaped lines: what a search for `<` shows, and that they have no `<`.
use Rattle.std.proofs.Common.{◌≡◌, ◌==◌, ℕ, zero, suc, ◌+◌, ◌<◌, Bool, true, false, List, [], ◌∷◌, ◌++◌, length, take, drop, Some, None, refl, ◌∙◌, if◌then◌else◌, codes, arith}
use Rattle.std.specs.List.{list_any}
use Rattle.std.proofs.lemmas.List.Folds.{list_any-append}
use Rattle.memchr.specs.Find.{IsFirstByte, Passes, is_byte}
use Rattle.survey_json.specs.Escaping.{escaped, escaped_byte}

-- a test that doesn't pass fails
fails : (test : Bool) → ¬ (test ≡ true) → test ≡ false
fails true h = absurd (h refl)
fails false h = refl

-- a byte that isn't `<` is escaped as itself
plain_byte : (byte : ℕ) → ¬ ((byte == 60) ≡ true) → escaped_byte byte ≡ byte ∷ []
plain_byte byte h = rw (fails (byte == 60) h) refl

-- a line in which a search finds no `<` is escaped as itself
pub escaped-none : (line : List ℕ) → IsFirstByte (is_byte 60) line None → escaped line ≡ line
escaped-none [] none = refl
escaped-none (byte ∷ line) none =
    rw (plain_byte byte (none 0 (omega arith) (omega arith)), escaped-none line (λ k low high. none (suc k) (omega arith) (omega arith))) refl

until : (line : List ℕ) (at : ℕ) → at < length line → ((k : ℕ) → k < at → ¬ (Passes (is_byte 60) line k)) → Passes (is_byte 60) line at
    → escaped line ≡ take at line ++ (codes "\\u003c" ++ escaped (drop (suc at) line))
until [] at within before here = absurd (omega (arith, within))
until (byte ∷ line) zero within before here = rw here refl
until (byte ∷ line) (suc at) within before here =
    rw (plain_byte byte (before 0 (omega arith)), until line at (omega (arith, within)) (λ k low. before (suc k) (omega (arith, low))) here) refl

-- a line is escaped as what is before the first `<`, the escape, and what is escaped behind it
pub escaped-first : (line : List ℕ) (at : ℕ) → IsFirstByte (is_byte 60) line (Some at)
    → escaped line ≡ take at line ++ (codes "\\u003c" ++ escaped (drop (at + 1) line))
escaped-first line at found =
    let next : at + 1 ≡ suc at = omega arith in
    rw next (until line at found.0.high (λ k low. found.0.before k (omega arith) low) found.1)

-- the first byte isn't `<`, by the test
by_test : (test : Bool) (byte : ℕ) → (byte == 60) ≡ test
    → list_any (λ b. b == 60) (if test then codes "\\u003c" else byte ∷ []) ≡ false
by_test true byte e = refl
by_test false byte e = rw e

-- a byte that is escaped isn't `<`
byte_lacks : (byte : ℕ) → list_any (λ b. b == 60) (escaped_byte byte) ≡ false
byte_lacks byte = by_test (byte == 60) byte refl

-- an escaped line has no `<`
pub escaped_lacks : (line : List ℕ) → list_any (λ byte. byte == 60) (escaped line) ≡ false
escaped_lacks [] = refl
escaped_lacks (byte ∷ line) =
    list_any-append (λ b. b == 60) (escaped_byte byte) (escaped line) ∙ rw (byte_lacks byte, escaped_lacks line)
