-- Lines, numbers and clues that are written are read again as they were, and how long they are.
use Rattle.puzzle_text.proofs.Names.{rules, ◌≡◌, true, ℕ, ◌+◌, ◌-◌, ◌<◌, ◌≤◌, false, eqb, List, [], ◌∷◌, ◌++◌, length, get_or, refl, append_assoc, arith, list_all, flat_map, AllByRecursion, leb-true, cond-false, ne_eqb, eq-eqb, take_at, get_or_at, get_or-reverse, length-append, reverse-reverse, nat_tests, All-from_recursion, All-get_or, TextLine, raw_lines, numbered_from, trim, trim_start, strip_last, without_ending, is_space_or_tab, ◌^◌, not, map, All, ap, Some, decimal, slice_split, is_ascii_digit, AllDigits, and_parts, inr, IsCommaOrSpace, le-leb, append-nil, get_or_default, slice_split_none, slice_split_at, digit_at, digit_from_value, decimal_is_IsNumeral, decimal_nonempty, is_clue, is_empty, is_separator, pieces, numbers_within, clue_of, clue_text, ◌*◌, Ok, get_or_append_left, get_or-append_right, length-decimal-le, size_of, two_sizes, clue_line, clue_lines, two_numbers, all-weaker, all_pass, all-map, filter_all, all-append}
use Rattle.puzzle_text.proofs.ParsedLines.{ReadsAll}

-- the text of a written line: no byte is less than a space, and neither end is blank
pub record IsTidy (text : List ℕ) : Type 0 where
  pub inked : AllByRecursion (λ byte. 32 ≤ byte) text
  pub first : 33 ≤ get_or text 0 0
  pub last : 33 ≤ get_or text (length text - 1) 0

-- a line's text with a line feed at its end
abbrev pub with_feed : List ℕ → List ℕ
with_feed text = text ++ 10 ∷ []

-- `text` is that of a whole line: it has no line feed, no carriage return at its end, and no blank at either end
pub record IsKept (text : List ℕ) : Type 0 where
  pub no_feed : AllByRecursion (λ byte. eqb byte 10 ≡ false) text
  pub no_return : strip_last 13 text ≡ text
  pub trimmed : trim text ≡ text

pub raw_lines-feed : (text rest : List ℕ) → AllByRecursion (λ byte. eqb byte 10 ≡ false) text
    → raw_lines (text ++ 10 ∷ rest) ≡ with_feed text ∷ raw_lines rest
raw_lines-feed [] rest inked = refl
raw_lines-feed (byte ∷ bytes) rest inked = rw (inked.0, raw_lines-feed bytes rest inked.1) refl

pub strip_last_is : (byte : ℕ) (text : List ℕ) → strip_last byte (text ++ byte ∷ []) ≡ text
strip_last_is byte text = search (rules, length-append, get_or_at, eq-eqb, take_at)

trim_start_is : (text : List ℕ) → 33 ≤ get_or text 0 0 → trim_start text ≡ text
trim_start_is [] h = refl
trim_start_is (byte ∷ bytes) h = cond-false (is_space_or_tab byte) (trim_start bytes) (byte ∷ bytes) (grind (arith, nat_tests))

-- A text that begins with a byte over the space is not empty.
pub some_byte : (text : List ℕ) → 33 ≤ get_or text 0 0 → 0 < length text
some_byte [] h = absurd (omega arith)
some_byte (byte ∷ bytes) h = omega arith

-- A text without line feeds, and with no blank at either end, is that of a whole line.
pub kept_edged : (text : List ℕ) → AllByRecursion (λ byte. eqb byte 10 ≡ false) text → 33 ≤ get_or text 0 0
    → 33 ≤ get_or text (length text - 1) 0 → IsKept text
kept_edged text no_feed first last = search (rules, trim_start_is, some_byte, get_or-reverse, reverse-reverse, ne_eqb)

-- The text of a written line is that of a whole line.
pub kept_tidy : (text : List ℕ) → IsTidy text → IsKept text
kept_tidy text tidy = kept_edged text (all-weaker _ _ (λ byte h. ne_eqb byte 10 (λ e. omega arith)) text tidy.inked) tidy.first tidy.last

pub line_kept : (text : List ℕ) → IsKept text → trim (without_ending (with_feed text)) ≡ text
line_kept text kept = search (rules, strip_last_is)

-- A non-empty text of bytes over the space is the text of a written line.
pub tidy_solid : (text : List ℕ) → 0 < length text → AllByRecursion (λ byte. 33 ≤ byte) text → IsTidy text
tidy_solid text some high = search (rules, All-from_recursion, all-weaker, All-get_or)

-- these texts as lines, numbered from `number` on
abbrev pub numbered : ℕ → List (List ℕ) → List TextLine
numbered number [] = []
numbered number (text ∷ texts) = record { number = number; text = text } ∷ numbered (number + 1) texts

-- Texts that are written as lines are read as these lines.
pub lines_kept : (number : ℕ) (texts : List (List ℕ)) → AllByRecursion IsKept texts
    → numbered_from number (raw_lines (flat_map with_feed texts)) ≡ numbered number texts
lines_kept number [] kept = refl
lines_kept number (text ∷ texts) kept = search (rules, lines_kept (number + 1) texts kept.1, append_assoc, raw_lines-feed, line_kept)

-- `n` is less than 2^64, as all numbers that can be written
abbrev pub IsWord : ℕ → Type 0
IsWord n = n < 2 ^ 64

no_separator : (n : ℕ) → IsWord n → All (λ byte. is_separator byte ≡ false) (decimal n)
no_separator n h k d lt =
    grind (arith, nat_tests, digit_at (decimal n) k (decimal_is_IsNumeral n h).0.1 lt, get_or_default (decimal n) k d 0 lt)

split_clue : (s n : ℕ) (ns : List ℕ) → IsCommaOrSpace s → AllByRecursion IsWord (n ∷ ns)
    → slice_split is_separator (clue_text s (n ∷ ns)) ≡ map decimal (n ∷ ns)
split_clue s n [] spacing h = rw append-nil (slice_split_none is_separator (decimal n) (no_separator n h.0))
split_clue s n (m ∷ ns) by h = search (rules, split_clue s m ns by h.1, append-nil, slice_split_none, no_separator, slice_split_at)

pub filled : (n : ℕ) → IsWord n → not (is_empty (decimal n)) ≡ true
filled n h = ap not (ne_eqb (length (decimal n)) 0 (λ e. omega (arith, decimal_nonempty n h)))

-- The pieces of a written clue are its numbers.
pub pieces_of_clue : (s n : ℕ) (ns : List ℕ) → IsCommaOrSpace s → AllByRecursion IsWord (n ∷ ns)
    → pieces (clue_text s (n ∷ ns)) ≡ map decimal (n ∷ ns)
pieces_of_clue s n ns spacing h =
    let non_empty = λ (piece : List ℕ). not (is_empty piece) in
    search (
      rules,
      split_clue s n ns spacing h,
      filter_all non_empty (map decimal (n ∷ ns)),
      all-map IsWord (λ piece. non_empty piece ≡ true),
      filled,
    )

pub all_digits : (ds : List ℕ) → AllDigits 10 ds → list_all is_ascii_digit ds ≡ true
all_digits [] h = refl
all_digits (c ∷ cs) h = search (rules, all_digits cs h.1, digit_from_value, nat_tests)

pub numbers_again : (limit : ℕ) (ns : List ℕ) → limit < 2 ^ 64 → AllByRecursion (λ n. n ≤ limit) ns
    → numbers_within limit (map decimal ns) ≡ Some ns
numbers_again limit [] wide h = refl
numbers_again limit (n ∷ ns) wide h = search (rules, numbers_again limit ns wide h.1, le-leb, decimal_is_IsNumeral, filled, all_digits)

-- The numbers of a clue are at most the limit.
pub runs : (limit : ℕ) (clue : List ℕ) → is_clue limit clue ≡ true → AllByRecursion (λ n. n ≤ limit) clue
runs limit clue h = search (rules, all_pass, leb-true, and_parts)

-- The numbers of a clue can be written.
pub word_clue : (limit : ℕ) (clue : List ℕ) → limit < 2 ^ 64 → is_clue limit clue ≡ true → AllByRecursion IsWord clue
word_clue limit clue wide h = all-weaker (λ n. n ≤ limit) IsWord (λ n low. omega arith) clue (runs limit clue h)

-- A written clue is read again as the same clue.
pub clue_again : (s limit : ℕ) (clue : List ℕ) → IsCommaOrSpace s → limit < 2 ^ 64 → is_clue limit clue ≡ true
    → clue_of limit (clue_text s clue) ≡ Some clue
clue_again s limit [] spacing wide h = rw (le-leb 0 limit (omega arith)) refl
clue_again s limit (n ∷ ns) by wide h =
    search (rules, pieces_of_clue s n ns by (word_clue limit (n ∷ ns) wide h), numbers_again limit (n ∷ ns) wide (runs limit (n ∷ ns) h))

-- Two texts of written lines with a separator between them are such a text.
pub tidy-join : (s : ℕ) (a b : List ℕ) → IsCommaOrSpace s → IsTidy a → IsTidy b → IsTidy (a ++ s ∷ b)
tidy-join s a b spacing p q = search (rules, some_byte, all-append, get_or_append_left, get_or-append_right, length-append)

-- Digits are the text of a written line.
pub tidy_digits : (ds : List ℕ) → 0 < length ds → list_all is_ascii_digit ds ≡ true → IsTidy ds
tidy_digits ds some h = tidy_solid ds some (all_pass is_ascii_digit _ (λ c digit. grind (arith, nat_tests)) ds h)

-- A number is the text of a written line.
pub tidy_decimal : (n : ℕ) → IsWord n → IsTidy (decimal n)
tidy_decimal n h = let numeral = (decimal_is_IsNumeral n h).0 in tidy_digits (decimal n) numeral.0 (all_digits (decimal n) numeral.1)

-- A clue is the text of a written line.
pub tidy_clue : (s : ℕ) (numbers : List ℕ) → IsCommaOrSpace s → AllByRecursion IsWord numbers → IsTidy (clue_text s numbers)
tidy_clue s [] spacing h = record { inked = (omega arith, tt); first = omega arith; last = omega arith }
tidy_clue s (n ∷ []) spacing h = rw append-nil (tidy_decimal n h.0)
tidy_clue s (n ∷ m ∷ ns) spacing h = search (rules, tidy_clue s (m ∷ ns) spacing h.1, append-nil, tidy_decimal, tidy-join)

-- The lines of two lists of texts together are those of the first, and then those of the second, with the numbers that
-- follow.
pub numbered-append : (k : ℕ) (xs ys : List (List ℕ)) → numbered k (xs ++ ys) ≡ numbered k xs ++ numbered (k + length xs) ys
numbered-append k [] ys = ap (λ (n : ℕ). numbered n ys) (omega arith)
numbered-append k (x ∷ xs) ys = search (rules, numbered-append (k + 1) xs ys)

-- The line of a clue begins with a digit.
pub first_digit : (s : ℕ) (clue : List ℕ) → AllByRecursion IsWord clue
    → (48 ≤ get_or (clue_text s clue) 0 0) × (get_or (clue_text s clue) 0 0 ≤ 57)
first_digit s clue h = search (rules, decimal_is_IsNumeral, digit_at, get_or_append_left)

pub some_text : (text : List ℕ) → 48 ≤ get_or text 0 0 → not (is_empty text) ≡ true
some_text text h = ap not (ne_eqb (length text) 0 (λ e. omega (arith, some_byte text)))

-- The lines of written clues are read as these clues.
pub reads_clues : (s limit k : ℕ) (clues : List (List ℕ)) → IsCommaOrSpace s → limit < 2 ^ 64
    → AllByRecursion (λ clue. is_clue limit clue ≡ true) clues → ReadsAll limit (numbered k (map (clue_text s) clues)) clues
reads_clues s limit k [] spacing wide h = record { non_blank = tt; hash = tt; count = refl; parsed = refl }
reads_clues s limit k (clue ∷ clues) spacing wide h =
    search (rules, reads_clues s limit (k + 1) clues spacing wide h.1, first_digit, word_clue, some_text, ne_eqb, clue_again)

-- The texts of written clues are those of whole lines.
pub kept_clues : (s limit : ℕ) (clues : List (List ℕ)) → IsCommaOrSpace s → limit < 2 ^ 64
    → AllByRecursion (λ clue. is_clue limit clue ≡ true) clues → AllByRecursion IsKept (map (clue_text s) clues)
kept_clues s limit clues spacing wide h = search (all-map, kept_tidy, tidy_clue, word_clue)

-- A written size is read again as the same size.
pub size_again : (limit n : ℕ) → limit < 2 ^ 64 → 1 ≤ n → n ≤ limit → size_of limit (decimal n) ≡ Ok n
size_again limit n wide low high = search (rules, le-leb, decimal_is_IsNumeral, filled, all_digits)

-- ---- how long the text is

length_numbers : (s : ℕ) (ns : List ℕ) → AllByRecursion (λ n. n < 1000) ns
    → length (flat_map (λ other. s ∷ decimal other) ns) ≤ 4 * length ns
length_numbers s [] h = omega arith
length_numbers s (n ∷ ns) h = search (rules, length_numbers s ns h.1, length-decimal-le 3 n, length-append)

length_clue : (s : ℕ) (clue : List ℕ) → AllByRecursion (λ n. n < 1000) clue → length clue ≤ 128 → length (clue_line s clue) ≤ 514
length_clue s clue h few = search (rules, length_numbers, length-decimal-le 3, length-append)

-- The line of a clue has at most 514 bytes.
pub length_lines : (s limit : ℕ) (clues : List (List ℕ)) → limit < 1000 → AllByRecursion (λ clue. is_clue limit clue ≡ true) clues
    → length (clue_lines s clues) ≤ 514 * length clues
length_lines s limit [] wide h = omega arith
length_lines s limit (clue ∷ clues) wide h =
    let small = all-weaker _ (λ n. n < 1000) (λ n low. omega arith) clue (runs limit clue h.0) in
    search (rules, length-append, length_lines s limit clues wide h.1, length_clue s clue small, leb-true, and_parts)

module _ (limit a b : ℕ) (wide : limit < 2 ^ 64) (first : (1 ≤ a) × (a ≤ limit)) (second : (1 ≤ b) × (b ≤ limit)) where
  size_words : AllByRecursion IsWord (a ∷ b ∷ [])
  size_words = (omega (arith, first.1), (omega (arith, second.1), tt))

  -- Written sizes are the text of a whole line, and not blank.
  pub kept_sizes : IsKept (clue_text 32 (a ∷ b ∷ []))
  kept_sizes = kept_tidy _ (tidy_clue 32 (a ∷ b ∷ []) (inr refl) size_words)

  pub some_sizes : not (is_empty (clue_text 32 (a ∷ b ∷ []))) ≡ true
  some_sizes = some_text (clue_text 32 (a ∷ b ∷ [])) (first_digit 32 (a ∷ b ∷ []) size_words).0

  -- Written sizes are read again as the same sizes.
  pub sizes_are : two_sizes limit (pieces (clue_text 32 (a ∷ b ∷ []))) ≡ Ok (a, b)
  sizes_are = search (pieces_of_clue 32 a (b ∷ []) (inr refl) size_words, size_again)

-- A text in `.mk` or `.nin` is short enough to be read.
pub length_within : (limit a b : ℕ) (rows columns : List (List ℕ)) → limit ≤ 256 → a ≤ limit → b ≤ limit
    → AllByRecursion (λ clue. is_clue limit clue ≡ true) rows → AllByRecursion (λ clue. is_clue limit clue ≡ true) columns
    → length rows + length columns ≤ 512 → length (two_numbers a b) + length (clue_lines 32 rows) + length (clue_lines 32 columns) ≤ 263176
length_within limit a b rows columns wide low high p q many = search (rules, length-append, length-decimal-le 3, length_lines)
