-- What holds of a line's text holds of the text of its field: it has no line feed if the line has none, and is short if the line is.
use Rattle.puzzle_text.proofs.Names.{All-cons, All-nil, rules, ◌≡◌, ℕ, ◌+◌, ◌-◌, ◌≤◌, Bool, true, false, cond, not, eqb, leb, ltb, List, [], ◌∷◌, length, drop, reverse, All, refl, arith, Option, Some, None, IfSome, map, option_and_then, slice_get, unwrap_or, filter, list_all, onto_first, AllByRecursion, option_map, cond_both, and_from, and_parts, le-leb, leb-true, ltb-false, get_or-reverse, length-drop, length-reverse, All-take, All-drop, All-filter, All-from_recursion, recursion_from_All, AllPass-from_list_all, list_all-from_AllPass, IsDescription, MAX_TEXT_LEN, TextLine, lines, numbered_from, raw_lines, strip_last, trim, trim_start, after_quote, first_with, quoted_text, shown_keyword, bad_line, least, least_of, number_of_line, texts_of, KeywordLine, HaveNoFeed, has_no_feed}

abbrev IsOther : ℕ → Type 0
IsOther byte = not (eqb byte 10) ≡ true

-- no byte is a line feed
abbrev IsClean : List ℕ → Type 0
IsClean bytes = All IsOther bytes

module _ (P : List ℕ → Type 0) (cut : (n : ℕ) (bytes : List ℕ) → P bytes → P (drop n bytes))
    (turn : (bytes : List ℕ) → P bytes → P (reverse bytes)) where
  of_start : (bytes : List ℕ) → P bytes → P (trim_start bytes)
  of_start [] h = h
  of_start (byte ∷ bytes) h = search (rules, of_start bytes (cut 1 (byte ∷ bytes) h), cond_both, cut)

  of_trim : (bytes : List ℕ) → P bytes → P (trim bytes)
  of_trim bytes h = search of_start

  of_after : (bytes : List ℕ) → P bytes → IfSome (after_quote bytes) P
  of_after [] h = tt
  of_after (byte ∷ bytes) h = let others = cut 1 (byte ∷ bytes) h in search (rules, of_after bytes others, others)

  turned : (o : Option (List ℕ)) → IfSome o P → IfSome (option_map reverse o) P
  turned o h = search rules

  of_or : (o : Option (List ℕ)) (bytes : List ℕ) → IfSome o P → P bytes → P (unwrap_or o bytes)
  of_or o bytes h other = search rules

  of_text : (line : TextLine) → P line.text → P (quoted_text line)
  of_text line h = search (rules, of_trim, of_or, of_after, turned)

-- ---- parts of texts without a line feed

clean_reverse : (bytes : List ℕ) → IsClean bytes → IsClean (reverse bytes)
clean_reverse bytes h k d lt = search (rules, length-reverse, get_or-reverse)

clean_strip : (byte : ℕ) (bytes : List ℕ) → IsClean bytes → IsClean (strip_last byte bytes)
clean_strip byte bytes h = cond_both _ _ _ IsClean (λ _. All-take IsOther (length bytes - 1) bytes h) (λ _. h)

clean_text : (line : TextLine) → has_no_feed line.text ≡ true → has_no_feed (quoted_text line) ≡ true
clean_text line h = search (rules, list_all-from_AllPass, of_text IsClean (All-drop IsOther) clean_reverse, AllPass-from_list_all)

-- a line without the line feed at its end has no line feed
abbrev IsRaw : List ℕ → Type 0
IsRaw raw = IsClean (strip_last 10 raw)

raw_onto : (byte : ℕ) (parts : List (List ℕ)) → eqb byte 10 ≡ false → AllByRecursion IsRaw parts
    → AllByRecursion IsRaw (onto_first byte parts)
raw_onto byte parts other h = search (rules, All-cons, All-nil)

all_raw : (bytes : List ℕ) → AllByRecursion IsRaw (raw_lines bytes)
all_raw [] = tt
all_raw (byte ∷ bytes) = search (rules, all_raw bytes, all_raw bytes, cond_both, All-nil, raw_onto)

clean_lines : (number : ℕ) (raws : List (List ℕ)) → AllByRecursion IsRaw raws → HaveNoFeed (numbered_from number raws)
clean_lines number [] h = tt
clean_lines number (raw ∷ raws) h =
    search (rules, list_all-from_AllPass, of_trim IsClean (All-drop IsOther) clean_reverse, clean_strip, clean_lines (number + 1) raws)

-- No line of a text has a line feed in it.
pub lines_have_no_feed : (bytes : List ℕ) → HaveNoFeed (lines bytes)
lines_have_no_feed bytes = clean_lines 1 (raw_lines bytes) (all_raw bytes)

-- The lines that a filter keeps have no line feed in them either.
pub clean_filter : (p : TextLine → Bool) (text : List TextLine) → HaveNoFeed text → HaveNoFeed (filter p text)
clean_filter p text h = search (recursion_from_All, All-filter, All-from_recursion)

-- the number of the line, if its text is too long
abbrev long_of : Option TextLine → Option ℕ
long_of o = number_of_line (option_and_then (λ line. cond (ltb MAX_TEXT_LEN (length (quoted_text line))) (Some line) None) o)

pub first_clean : (text : List TextLine) → HaveNoFeed text → (line : TextLine) → slice_get text 0 ≡ Some line → has_no_feed line.text ≡ true
first_clean [] h line e = absurd cc
first_clean (found ∷ text) h line e = search rules

least_none : (m n : Option ℕ) → least m n ≡ None → (m ≡ None) × (n ≡ None)
least_none m n e = search rules

each_none : (numbers : List (Option ℕ)) → least_of numbers ≡ None → AllByRecursion (λ number. number ≡ None) numbers
each_none [] e = tt
each_none (number ∷ numbers) e = search (rules, each_none numbers, least_none)

-- If no line is bad, the texts of all fields are allowed there.
pub lawful_texts : (stray : Option ℕ) (text : List TextLine) → HaveNoFeed text → bad_line stray text ≡ None → IsDescription (texts_of text)
lawful_texts stray text h none = search (rules, each_none, least_none, first_clean, clean_filter, ltb-false, and_from, le-leb, clean_text)

-- ---- short texts

abbrev are_short : List KeywordLine → Bool
are_short kept = list_all (λ found. leb (length found.line.text.now) MAX_TEXT_LEN) kept

abbrev IsShort : List ℕ → Type 0
IsShort bytes = length bytes ≤ MAX_TEXT_LEN

short_text : (line : TextLine) → IsShort line.text → IsShort (quoted_text line)
short_text = of_text IsShort (λ n bytes h. omega (arith, length-drop n bytes)) (λ bytes h. omega (arith, length-reverse bytes))

short_here : (b : Bool) (line : TextLine) (others : List TextLine) → IsShort line.text → long_of (slice_get others 0) ≡ None
    → long_of (slice_get (cond b (line ∷ others) others) 0) ≡ None
short_here b line others fits none = search (rules, short_text)

short_first : (word : List ℕ) (kept : List KeywordLine) → are_short kept ≡ true → long_of (first_with word (map shown_keyword kept)) ≡ None
short_first word [] h = refl
short_first word (found ∷ kept) h = search (rules, short_first word kept, and_parts, leb-true, short_here)

-- If no line is too long, no text is, so that the bad line is the stray one.
pub short_texts : (stray : Option ℕ) (kept : List KeywordLine) → are_short kept ≡ true → bad_line stray (map shown_keyword kept) ≡ stray
short_texts None kept h = search short_first
short_texts (Some number) kept h = search short_first
