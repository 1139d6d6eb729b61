-- Lemmas on the numbers of a line, and on the sums of clues.
use Rattle.puzzle_text.proofs.Names.{cond_some, slice_split_first, rules, ◌≡◌, ℕ, zero, suc, ◌+◌, ◌-◌, ◌*◌, ◌<◌, ◌≤◌, true, false, not, List, [], ◌∷◌, length, take, drop, get_or, refl, arith, Option, Some, None, option_and_then, option_map, list_all, position, position_or_len, is_ascii_digit, digits_value, and-false, cases_Bool, le-leb, lt-leb, ltb-true, ltb-false, ne_eqb, nat_tests, get_or-take, get_or_default, length-take-le, take_all, drop_all, take-take, slice_split_none, AllPass-from_list_all, fails_before_first, position_or_len_is, prefix_len-le-length, list_all_at, list_all_more, digits_value-take-le, numbers_within, is_separator, number_within, pieces, position-Some, prefix_len_stops, sum, and_parts, leb-true, sum_by-cons, is_clue, is_run}
use borrow.Author.Count.{below_more}
use Rattle.std.proofs.lemmas.Int.Digits.{digits_value_more}

-- One more digit after digits: all are digits.
pub next_digits : (bytes : List ℕ) (i : ℕ) → i < length bytes → list_all is_ascii_digit (take i bytes) ≡ true
    → is_ascii_digit (get_or bytes i 0) ≡ true → list_all is_ascii_digit (take (i + 1) bytes) ≡ true
next_digits bytes i h digits digit = rw (list_all_more is_ascii_digit bytes i 0 h, digits, digit) refl

pub next_value : (bytes : List ℕ) (i : ℕ) → i < length bytes → is_ascii_digit (get_or bytes i 0) ≡ true
    → digits_value 10 (take (i + 1) bytes) ≡ digits_value 10 (take i bytes) * 10 + (get_or bytes i 0 - 48)
next_value bytes i h digit = search (rules, digits_value_more, nat_tests)

-- If the first `i` digits are over the limit already, the piece is no number within the limit.
pub past_limit : (limit : ℕ) (piece : List ℕ) (i : ℕ) → limit < digits_value 10 (take i piece) → number_within limit piece ≡ None
past_limit limit piece i h = search (rules, lt-leb, digits_value-take-le)

-- the index of the first separator, or the length if there is none
abbrev end_of : List ℕ → ℕ
end_of text = position_or_len is_separator text

-- If the text begins with a piece, that is the bytes up to the first separator.
pub first_piece : (text : List ℕ) (end : ℕ) → position is_separator text ≡ Some end → is_separator (get_or text 0 0) ≡ false
    → pieces text ≡ take end text ∷ pieces (drop (end + 1) text)
first_piece text end found first = search (rules, position-Some, cond_some, ltb-true, slice_split_first, length-take-le, ne_eqb)

-- A text without a separator is one piece.
pub only_piece : (text : List ℕ) → 0 < length text → position is_separator text ≡ None → pieces text ≡ text ∷ []
only_piece text h none = search (rules, ltb-false, get_or_default, fails_before_first, slice_split_none, ne_eqb)

-- ---- the number of the first piece

pub cut : (text : List ℕ) → 0 < length text → is_separator (get_or text 0 0) ≡ false
    → pieces text ≡ take (end_of text) text ∷ pieces (drop (end_of text + 1) text)
cut text some first = search (rules, cases_Bool, first_piece, ltb-false, take_all, drop_all, only_piece)

clear_within : (text : List ℕ) (i : ℕ) → i ≤ length text → ((k : ℕ) → k < i → is_separator (get_or text k 0) ≡ false) → i ≤ end_of text
clear_within text i within clear = grind (arith, prefix_len_stops (λ byte. not (is_separator byte)) text 0, clear (end_of text))

digits_clear : (text : List ℕ) (i : ℕ) → i ≤ length text → list_all is_ascii_digit (take i text) ≡ true → (k : ℕ) → k < i
    → is_separator (get_or text k 0) ≡ false
digits_clear text i within digits k low = search (rules, length-take-le, get_or-take, AllPass-from_list_all, nat_tests)

pub number_is : (limit : ℕ) (piece : List ℕ) → 0 < length piece → list_all is_ascii_digit piece ≡ true → digits_value 10 piece ≤ limit
    → number_within limit piece ≡ Some (digits_value 10 piece)
number_is limit piece some digits low = search (rules, ne_eqb, le-leb)

module _ (limit : ℕ) (text : List ℕ) (some : 0 < length text) (first : is_separator (get_or text 0 0) ≡ false) where
  -- The numbers of all pieces are that of the first, and then those of the others.
  by_first : (number : Option ℕ) → number_within limit (take (end_of text) text) ≡ number → numbers_within limit (pieces text)
      ≡ option_and_then (λ n. option_map (λ others. n ∷ others) (numbers_within limit (pieces (drop (end_of text + 1) text)))) number
  by_first number e = rw (cut text some first, e) refl

  -- Digits up to a separator or the end of the line are the first piece, and so the first number.
  pub number_ends : (i : ℕ) → i ≤ length text → list_all is_ascii_digit (take i text) ≡ true → digits_value 10 (take i text) ≤ limit
      → (i < length text → is_separator (get_or text i 0) ≡ true) → numbers_within limit (pieces text)
      ≡ option_map (λ others. digits_value 10 (take i text) ∷ others) (numbers_within limit (pieces (drop (i + 1) text)))
  number_ends zero within digits low stop = search (rules, stop)
  number_ends (suc k) within digits low stop =
      let end : end_of text ≡ suc k = position_or_len_is is_separator text _ 0 within (digits_clear text _ within digits) stop in
      rw end at (by_first (Some (digits_value 10 (take (suc k) text))) (search (rules, number_is, length-take-le)))

  -- A byte that is neither a digit nor a separator makes the first piece no number.
  pub number_refused : (i : ℕ) → i < length text → list_all is_ascii_digit (take i text) ≡ true → is_separator (get_or text i 0) ≡ false
      → is_ascii_digit (get_or text i 0) ≡ false → numbers_within limit (pieces text) ≡ None
  number_refused i h digits inside other =
      let within = clear_within text (i + 1) (omega arith) (below_more _ i (digits_clear text i (omega arith) digits) inside) in
      by_first None (search (rules, list_all_at, and-false, length-take-le, prefix_len-le-length, get_or-take))

  -- Digits that are over the limit already make the first piece no number within the limit.
  pub number_past : (i : ℕ) → i ≤ length text → list_all is_ascii_digit (take i text) ≡ true → limit < digits_value 10 (take i text)
      → numbers_within limit (pieces text) ≡ None
  number_past i h digits past =
      let within = clear_within text i h (digits_clear text i h digits) in
      by_first None (past_limit limit (take (end_of text) text) i (rw (take-take i (end_of text) text within) past))

runs_sum : (numbers : List ℕ) → list_all (is_run 256) numbers ≡ true → sum numbers ≤ 256 * length numbers
runs_sum [] runs = omega arith
runs_sum (number ∷ numbers) runs = grind (arith, nat_tests, sum_by-cons (λ (x : ℕ). x) number numbers, runs_sum numbers)

-- A clue has at most 128 numbers and fills at most 32,768 cells.
pub clue_bounds : (numbers : List ℕ) → is_clue 256 numbers ≡ true → (length numbers ≤ 128) × (sum numbers ≤ 32768)
clue_bounds numbers clue = search (rules, and_parts, leb-true, runs_sum)
