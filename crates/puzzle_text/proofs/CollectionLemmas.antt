-- Lemmas on collections: text that is skipped since no entry begins in it, and the first stray line, found in one pass.
use Rattle.puzzle_text.proofs.Names.{rules, ◌≡◌, ℕ, ◌<◌, ◌≤◌, Bool, true, false, not, eqb, List, [], ◌∷◌, ◌++◌, length, take, get_or, refl, append_assoc, arith, list_all, cond_both, not-true, and_parts, ne_eqb, get_or-take, get_or_default, length-take-le, list_all-from_AllPass, raw_lines, Entry, body_of, entries_of, is_marker, FollowsPlain, ends_line, nil_from_length, nat_tests, ◌+◌, cond, ◌&&◌, ◌||◌, sym, ◌∙◌, Option, Some, None, enumerate_from, find, list_any, option_map, or-false, take-append_seam, length-append, list_any-append, unwrap_or, is_empty, trim, without_ending, first_stray, is_stray, name_of, are_named, begins_with_marker}
use Rattle.memchr.specs.Find.{IsFirstByte, is_byte}

-- there is no `@` among `bytes`
abbrev pub HasNoAt : List ℕ → Type 0
HasNoAt bytes = list_all (λ byte. not (eqb byte 64)) bytes ≡ true

no_at_below : (bytes : List ℕ) (i : ℕ) → i ≤ length bytes → ((k : ℕ) → 0 ≤ k → k < i → eqb (get_or bytes k 0) 64 ≡ true → ⊥)
    → HasNoAt (take i bytes)
no_at_below bytes i within none =
    list_all-from_AllPass _ (take i bytes) (λ k d lt.
    let same = get_or_default (take i bytes) k d 0 lt in
    grind (arith, nat_tests, none k, length-take-le i bytes, same, get_or-take i bytes k 0))

-- The bytes before the first `@` have no `@`; without one, no byte is one.
pub no_at_before : (bytes : List ℕ) (found : Option ℕ) → IsFirstByte (is_byte 64) bytes found
    → HasNoAt (take (unwrap_or found (length bytes)) bytes)
no_at_before bytes None none = no_at_below bytes (length bytes) (omega arith) none
no_at_before bytes (Some i) first = no_at_below bytes i (omega (arith, first.0.high)) first.0.before

-- what of the lines `raws` goes into the body: from the start of a line, or from within one that begins no entry
abbrev body_in : Bool → List (List ℕ) → List ℕ
body_in true raws = body_of raws
body_in false [] = []
body_in false (raw ∷ raws) = raw ++ body_of raws

abbrev entries_in : Bool → List (List ℕ) → List Entry
entries_in true raws = entries_of raws
entries_in false [] = []
entries_in false (raw ∷ raws) = entries_of raws

-- After `front`, which has no `@`, the lines `raws` go on as `others`. `start` and `later` are whether a line starts
-- before `front` and after it.
abbrev GoesOn : Bool → Bool → List ℕ → List (List ℕ) → List (List ℕ) → Type 0
GoesOn start later front raws others =
    (body_in start raws ≡ front ++ body_in later others) × (entries_in start raws ≡ entries_in later others)

one_byte : (start : Bool) (byte : ℕ) (bytes : List ℕ) → eqb byte 64 ≡ false
    → GoesOn start (eqb byte 10) (byte ∷ []) (raw_lines (byte ∷ bytes)) (raw_lines bytes)
one_byte start byte bytes other = search (rules, cond_both)

-- whether a line starts after these bytes, if `start` is whether one starts before them
abbrev starts_after : Bool → List ℕ → Bool
starts_after start [] = start
starts_after start (byte ∷ bytes) = starts_after (eqb byte 10) bytes

over_front : (start : Bool) (front tail : List ℕ) → HasNoAt front
    → GoesOn start (starts_after start front) front (raw_lines (front ++ tail)) (raw_lines tail)
over_front start [] tail h = (refl, refl)
over_front start (byte ∷ front) tail h = search (rules, over_front (eqb byte 10) front tail, one_byte, and_parts, not-true)

last_feed : (start : Bool) (byte : ℕ) (bytes : List ℕ) → starts_after start (byte ∷ bytes) ≡ eqb (get_or (byte ∷ bytes) (length bytes) 0) 10
last_feed start byte [] = refl
last_feed start byte (next ∷ bytes) = last_feed (eqb byte 10) next bytes

starts_where : (front : List ℕ) → starts_after true front ≡ ends_line front
starts_where [] = refl
starts_where (byte ∷ bytes) = search (rules, ne_eqb, last_feed true byte bytes)

-- If no text follows `front`, all of it is skipped.
pub follows_none : (bytes front tail : List ℕ) → bytes ≡ front ++ tail → HasNoAt front → length tail ≡ 0 → FollowsPlain bytes tail
follows_none bytes front tail whole h none =
    let over = over_front true front tail h in
    let later = starts_after true front in
    (front, whole, search (later, rules, over.0, nil_from_length), search (later, rules, over.1, nil_from_length))

-- If a line starts after `front`, `front` is skipped.
pub follows_line : (bytes front tail : List ℕ) → bytes ≡ front ++ tail → HasNoAt front → ends_line front ≡ true → FollowsPlain bytes tail
follows_line bytes front tail whole h ends =
    let over = over_front true front tail h in (front, whole, search (rules, over.0, starts_where), search (rules, over.1, starts_where))

-- If `front` ends within a line, the end of that line is skipped too.
pub follows_amid : (bytes front tail raw after : List ℕ) → bytes ≡ front ++ tail → HasNoAt front → ends_line front ≡ false
    → tail ≡ raw ++ after → raw_lines tail ≡ raw ∷ raw_lines after → FollowsPlain bytes after
follows_amid bytes front tail raw after whole h ends parts first =
    let over = over_front true front tail h in
    (front ++ raw, search (rules, append_assoc), search (rules, over.0, starts_where, append_assoc), search (rules, over.1, starts_where))

-- A line that begins no entry may be skipped.
pub past_line : (rest raw after : List ℕ) → rest ≡ raw ++ after → raw_lines rest ≡ raw ∷ raw_lines after → is_marker raw ≡ false
    → FollowsPlain rest after
past_line rest raw after parts first other = (raw, parts, rw (first, other) refl, rw (first, other) refl)

-- Text that may be skipped, and more such text after it, may be skipped together.
pub follow_on : (bytes rest next : List ℕ) → FollowsPlain bytes rest → FollowsPlain rest next → FollowsPlain bytes next
follow_on bytes rest next one other = (one.0 ++ other.0, search (rules, append_assoc), search (rules, append_assoc), search rules)

-- the number of the first stray line: `raws` are the lines from `number` on, and `inside` is whether a marker line is
-- above them
abbrev pub stray_from : ℕ → Bool → List (List ℕ) → Option ℕ
stray_from number inside [] = None
stray_from number inside (raw ∷ raws) =
    let later = stray_from (number + 1) (inside || is_marker raw) raws in
    cond (is_marker raw) (cond (is_empty (name_of raw)) (Some number) later)
    (cond (inside || is_empty (trim (without_ending raw))) later (Some number))

-- the number of the first stray line among `numbered`, which are lines of `whole`
abbrev stray_number : List (List ℕ) → List (ℕ × List ℕ) → Option ℕ
stray_number whole numbered = option_map (λ one. one.0 + 1) (find (λ one. is_stray (take one.0 whole) one.1) numbered)

-- At one line, the pass and the definition agree, whatever kind of line it is.
at_line : (marker nameless blank inside : Bool) (place : ℕ) (raw : List ℕ) (found : Option (ℕ × List ℕ)) (later : Option ℕ)
    → later ≡ option_map (λ one. one.0 + 1) found
    → cond marker (cond nameless (Some (place + 1)) later) (cond (inside || blank) later (Some (place + 1)))
    ≡ option_map (λ one. one.0 + 1) (cond (cond marker nameless (not inside && not blank)) (Some (place, raw)) found)
at_line marker nameless blank inside place raw found later e = search rules

-- Below the lines `front`, one pass finds the same first stray line as the definition.
stray_below : (front raws : List (List ℕ))
    → stray_from (length front + 1) (list_any is_marker front) raws ≡ stray_number (front ++ raws) (enumerate_from (length front) raws)
stray_below front [] = refl
stray_below front (raw ∷ raws) =
    search (rules, stray_below (front ++ raw ∷ []) raws, append_assoc, length-append, list_any-append, or-false, take-append_seam, at_line)

-- One pass from the top finds the first stray line.
pub first_stray_found : (raws : List (List ℕ)) → stray_from 1 false raws ≡ first_stray raws
first_stray_found raws = stray_below [] raws

-- If all entries have names, no line below a marker line is stray.
none_below : (number : ℕ) (raws : List (List ℕ)) → are_named (entries_of raws) ≡ true → stray_from number true raws ≡ None
none_below number [] named = refl
none_below number (raw ∷ raws) named = search (rules, none_below (number + 1) raws)

-- If all entries have names and the first line is a marker line, no line is stray.
pub none_stray : (raws : List (List ℕ)) → begins_with_marker raws ≡ true → are_named (entries_of raws) ≡ true → first_stray raws ≡ None
none_stray raws marker named = sym (first_stray_found raws) ∙ search (raws, rules, none_below)
