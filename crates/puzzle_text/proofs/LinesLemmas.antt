-- Lemmas on lines: a text's first line ends at its first line feed.
use Rattle.puzzle_text.proofs.Names.{rules, ◌≡◌, ℕ, ◌+◌, ◌<◌, true, eqb, List, [], ◌∷◌, length, take, drop, get_or, refl, arith, Option, Some, None, position_or_len, position, cases_Bool, false_from_ne_true, le-ltb, lt-ltb, ltb-true, ltb-false, take_all, drop_all, get_or-take, length-take-le, take-take, fails_before_first, position_or_len_is, cond_some, numbered_from, raw_lines, strip_last, trim, position-Some}
use Rattle.memchr.specs.Find.{IsFirstByte, is_byte}

-- The first line is the bytes up to the first line feed, and that line feed.
cut_at : (bytes : List ℕ) → 0 < length bytes → raw_lines bytes ≡ take (position_or_len (λ byte. eqb byte 10) bytes + 1) bytes
    ∷ raw_lines (drop (position_or_len (λ byte. eqb byte 10) bytes + 1) bytes)
cut_at [] h = absurd (omega arith)
cut_at (byte ∷ []) h = search (rules, cases_Bool)
cut_at (byte ∷ next ∷ bytes) h = search (rules, cut_at (next ∷ bytes) (omega arith), cases_Bool)

-- If there is a line feed, the first line ends with the first one.
pub cut_at_feed : (bytes : List ℕ) (i : ℕ) → position (λ byte. eqb byte 10) bytes ≡ Some i
    → raw_lines bytes ≡ take (i + 1) bytes ∷ raw_lines (drop (i + 1) bytes)
cut_at_feed bytes i e = search (rules, cond_some, ltb-true, cut_at)

-- If there is no line feed, the text is one line.
pub cut_at_end : (bytes : List ℕ) → 0 < length bytes → position (λ byte. eqb byte 10) bytes ≡ None → raw_lines bytes ≡ bytes ∷ []
cut_at_end bytes h e = search (rules, ltb-false, cut_at, take_all, drop_all)

-- A search for the first line feed returns its index.
pub feed_found : (bytes : List ℕ) (found : Option ℕ) → IsFirstByte (is_byte 10) bytes found → found ≡ position (λ byte. eqb byte 10) bytes
feed_found bytes found none =
    search (rules, position_or_len_is (λ byte. eqb byte 10) bytes (length bytes) 0, le-ltb, false_from_ne_true, position_or_len_is, lt-ltb)

-- ---- the first line without its ending

strip_feed : (bytes : List ℕ) (end : ℕ) → end < length bytes → eqb (get_or bytes end 0) 10 ≡ true
    → strip_last 10 (take (end + 1) bytes) ≡ take end bytes
strip_feed bytes end h at = search (rules, length-take-le, get_or-take, take-take)

-- The lines of a text are the first one, up to the first line feed, and the lines of the bytes after it.
pub line_at_feed : (number : ℕ) (bytes : List ℕ) (end : ℕ) → position (λ byte. eqb byte 10) bytes ≡ Some end
    → numbered_from number (raw_lines bytes) ≡ record { number = number; text = trim (strip_last 13 (take end bytes)) }
    ∷ numbered_from (number + 1) (raw_lines (drop (end + 1) bytes))
line_at_feed number bytes end e =
    let found = position-Some (λ byte. eqb byte 10) bytes end 0 e in
    rw (cut_at_feed bytes end e, strip_feed bytes end found.0 found.1) refl

-- A text without a line feed is one line.
pub line_at_end : (number : ℕ) (bytes : List ℕ) → 0 < length bytes → position (λ byte. eqb byte 10) bytes ≡ None
    → numbered_from number (raw_lines bytes) ≡ record { number = number; text = trim (strip_last 13 bytes) } ∷ []
line_at_end number bytes some e = search (rules, cut_at_end, ltb-false, fails_before_first)
