-- Lines in their usual form, and that the general reader returns the puzzle that the fast path builds.
use Rattle.puzzle_text.proofs.Names.{rules, ◌≡◌, ℕ, ◌-◌, ◌<◌, ◌≤◌, true, false, drop, eqb, List, [], ◌∷◌, ◌++◌, length, take, get_or, refl, append_assoc, arith, Some, Ok, AllByRecursion, is_ascii_digit, le-leb, nat_tests, get_or_append_left, take_all, slice_split_at, slice_split_none, AllPass-from_list_all, MAX_SIDE, is_clue, numbers_within, pieces, BeginsWith, BeginsWithNumber, EndsLine, IsNumeral, IsCommaOrSpace, ReadsClue, ReadsSizes, ne_eqb, all-append, two_sizes, ◌+◌, filter, sym, ap, ◌∙◌, eqb-true, nil_from_length, append-nil, length-append, filter-append, SectionKind, Other, TextLine, is_empty, numbered_from, raw_lines, is_keyword_line, keyword, Sections, placed, sections_of, IsSectionOfKeyword, with_line, AreClueLines, HaveClues, KeepsOthers, ReadsClues, clues_of_kind, Result, IfOk, IfSome, Nonogram, plain, Gives, lines, read_mk, read_nin, build_puzzle, read_non, orient, all-weaker, filter_all, filter_none, HaveNoFeed}
use Rattle.puzzle_text.proofs.NumbersLemmas.{number_is}
use Rattle.puzzle_text.proofs.ReadBack.{IsKept, IsTidy, kept_tidy, line_kept, tidy_digits, raw_lines-feed, strip_last_is, tidy-join, some_text}
use Rattle.puzzle_text.proofs.ParsedLines.{ReadsAll, parsed_of_kept, mk_lines, nin_lines, short_lines}
use Rattle.puzzle_text.proofs.SectionsLemmas.{no_lines, IsContent, below, below_content, below_keyword, content_digit, join, join_content, nothing_above, with_lines}
use Rattle.std.specs.Result.{result_ok}
use Rattle.puzzle_text.proofs.FeedsLemmas.{clean_filter, lines_have_no_feed}

pub digit_range : (c : ℕ) → is_ascii_digit c ≡ true → (48 ≤ c) × (c ≤ 57)
digit_range c h = grind (arith, nat_tests)

-- `text` is that of a written line that begins with a digit and is read as these numbers
pub record ReadsNumbers (text : List ℕ) (numbers : List ℕ) : Type 0 where
  pub tidy : IsTidy text
  pub digit : is_ascii_digit (get_or text 0 0) ≡ true
  pub parsed : numbers_within MAX_SIDE (pieces text) ≡ Some numbers

some_piece : (piece : List ℕ) (n : ℕ) → IsNumeral piece n → 0 < length piece
some_piece [] n numeral = absurd (omega (arith, numeral.value))
some_piece (d ∷ ds) n numeral = omega arith

module _ (piece : List ℕ) (n : ℕ) (numeral : IsNumeral piece n) where
  pieces_alone : pieces piece ≡ piece ∷ []
  pieces_alone = search (rules, slice_split_none, some_piece, AllPass-from_list_all, nat_tests, ne_eqb)

  pieces_more : (s : ℕ) (more : List ℕ) → IsCommaOrSpace s → pieces (piece ++ s ∷ more) ≡ piece ∷ pieces more
  pieces_more s more spacing = search (rules, slice_split_at, some_piece, AllPass-from_list_all, nat_tests, ne_eqb)

  -- The digits of a number are read as that number.
  pub number_alone : ReadsNumbers piece (n ∷ [])
  number_alone = search (rules, pieces_alone, tidy_digits, some_piece, AllPass-from_list_all, number_is)

  -- A number before other numbers: all of them are read.
  pub number_before : (s : ℕ) (more ns : List ℕ) → IsCommaOrSpace s → ReadsNumbers more ns → ReadsNumbers (piece ++ s ∷ more) (n ∷ ns)
  number_before s more ns spacing parsed =
      search (rules, tidy-join, get_or_append_left, some_piece, pieces_more, tidy_digits, AllPass-from_list_all, number_is)

-- `text` is a prefix and `rest`; before any text that is read as other numbers, the prefix is read as `numbers`
abbrev pub PassesNumbers : List ℕ → List ℕ → List ℕ → Type 0
PassesNumbers text rest numbers = (front : List ℕ) × (text ≡ front ++ rest)
    × ((more others : List ℕ) → ReadsNumbers more others → ReadsNumbers (front ++ more) (numbers ++ others))

-- A number and a separator at the start of `rest` extend the prefix by that number.
pub number_and_more : (text rest others numbers more : List ℕ) (n s : ℕ) → PassesNumbers text rest numbers
    → BeginsWithNumber rest n (s ∷ others) → IsCommaOrSpace s → more ≡ numbers ++ n ∷ [] → PassesNumbers text others more
number_and_more text rest others numbers more n s passed begins separated is =
    let joined = λ (line ns : List ℕ) (parsed : ReadsNumbers line ns).
    passed.2 _ (n ∷ ns) (number_before _ n begins.2 s line ns separated parsed) in
    (passed.0 ++ (begins.0 ++ s ∷ []), search (rules, append_assoc), λ line ns parsed. rw is (simp append_assoc (joined line ns parsed)))

-- ---- the end of a line

at_return : (front rest : List ℕ) → IsKept front → BeginsWith (front ++ 13 ∷ 10 ∷ rest) front rest
at_return front rest kept number =
    let none = all-append (λ byte. eqb byte 10 ≡ false) front (13 ∷ []) kept.no_feed (refl, tt) in
    rw (← append_assoc front (13 ∷ []) (10 ∷ rest), raw_lines-feed (front ++ 13 ∷ []) rest none, strip_last_is 10 (front ++ 13 ∷ []))
    (rw (strip_last_is 13 front, kept.trimmed) refl)

-- The text of a written line, before a line ending, is a line with that text.
pub line_ends : (front bytes rest : List ℕ) → IsTidy front → EndsLine bytes rest → BeginsWith (front ++ bytes) front rest
line_ends front bytes rest tidy e = search (rules, kept_tidy, raw_lines-feed, line_kept, at_return)

-- A slice of at least two bytes whose first is `byte` consists of it, one more byte, and the others.
pub headed : (text : List ℕ) (byte : ℕ) → 2 ≤ length text → get_or text 0 0 ≡ byte
    → text ≡ byte ∷ get_or text 1 0 ∷ take (length text - 2) (drop 2 text)
headed text byte some is = search (rules, take_all)

-- The last number of a line completes its clue.
pub clue_ends : (text rest after next numbers clue : List ℕ) (n : ℕ) → PassesNumbers text rest numbers → BeginsWithNumber rest n after
    → EndsLine after next → clue ≡ numbers ++ n ∷ [] → is_clue MAX_SIDE clue ≡ true → ReadsClue text clue next
clue_ends text rest after next numbers clue n passed begins ends is lawful =
    let line = passed.0 ++ begins.0 in
    let parsed : ReadsNumbers line clue = rw is (passed.2 begins.0 (n ∷ []) (number_alone begins.0 n begins.2)) in
    let whole : text ≡ line ++ after = search (rules, append_assoc) in
    (line, rw whole (line_ends line after next parsed.tidy ends), (rw parsed.parsed (search rules), parsed.digit))

-- A single 0 is read as the empty clue.
pub zero_ends : (text after next clue : List ℕ) → text ≡ 48 ∷ after → EndsLine after next → clue ≡ [] → ReadsClue text clue next
zero_ends text after next clue whole ends none =
    (48 ∷ [], rw whole (line_ends (48 ∷ []) after next (search rules) ends), (rw none refl, refl))

-- Two numbers with a separator between them are read as the sizes.
pub sizes_end : (text second next rest : List ℕ) (a s b : ℕ) → BeginsWithNumber text a (s ∷ second) → IsCommaOrSpace s
    → BeginsWithNumber second b next → EndsLine next rest → ReadsSizes text (a, b) rest
sizes_end text second next rest a s b one separated two ends =
    let line = one.0 ++ s ∷ two.0 in
    let parsed = number_before one.0 a one.2 s two.0 (b ∷ []) separated (number_alone two.0 b two.2) in
    let sizes : two_sizes MAX_SIDE (pieces line) ≡ Ok (a, b) =
    search (rules, pieces_more, pieces_alone, le-leb, number_is, some_piece) in
    (line, search (rules, append_assoc, line_ends line next rest parsed.tidy ends), sizes, parsed.digit)

-- Clue lines in their usual form are clue lines for the general reader.
pub reads_all : (found : List TextLine) (clues : List (List ℕ)) → AreClueLines found clues → ReadsAll MAX_SIDE found clues
reads_all [] [] parsed = record { non_blank = tt; hash = tt; count = refl; parsed = refl }
reads_all (line ∷ found) (clue ∷ clues) parsed = search (rules, reads_all found clues parsed.1, some_text, digit_range, content_digit)
reads_all found clues parsed = absurd parsed

-- No clue line in its usual form is a keyword line or a comment.
all_content : (found : List TextLine) (clues : List (List ℕ)) → AreClueLines found clues
    → AllByRecursion (λ line. IsContent line.text) found
all_content [] clues parsed = tt
all_content (line ∷ found) (clue ∷ clues) parsed = search (rules, all_content found clues parsed.1, digit_range, content_digit)
all_content found clues parsed = absurd parsed

-- Clue lines of some clues, and after them clue lines of others, are clue lines of all these clues.
pub parsed_after : (found more : List TextLine) (clues others : List (List ℕ)) → AreClueLines found clues → AreClueLines more others
    → AreClueLines (found ++ more) (clues ++ others)
parsed_after [] more [] others parsed next = next
parsed_after (line ∷ found) more (clue ∷ clues) others parsed next = (parsed.0, parsed_after found more clues others parsed.1 next)
parsed_after found more clues others parsed next = absurd parsed

-- One more line is read as one more clue.
pub one_parsed : (bytes rest next clue : List ℕ) (clues more : List (List ℕ)) → ReadsClues bytes clues rest → ReadsClue rest clue next
    → more ≡ clues ++ clue ∷ [] → ReadsClues bytes more next
one_parsed bytes rest next clue clues more parsed one is = λ number.
    let line : TextLine = record { number = number + length clues; text = one.0 } in (
      (parsed number).0 ++ line ∷ [],
      search (rules, append_assoc, one.1 (number + length clues), length-append),
      search (rules, parsed_after),
    )

-- The sections `above`, and those of the lines `todo` below the keyword of `kind`, are the sections of all lines; and
-- `rows` and `columns` are the clues of the sections above.
pub record IsAbove (kind : SectionKind) (whole todo : List TextLine) (rows columns : List (List ℕ)) : Type 0 where
  pub above : Sections
  pub joined : join above (below kind todo) ≡ sections_of (placed whole)
  pub clues : HaveClues above rows columns

-- At the top of a text, `IsAbove` holds without clues.
pub above_all : (whole : List TextLine) (rows columns : List (List ℕ)) → rows ≡ [] → columns ≡ [] → IsAbove Other whole whole rows columns
above_all whole rows columns p q =
    record { above = no_lines; joined = nothing_above [] [] whole refl refl; clues = search rules }

-- After a blank line, `IsAbove` still holds.
pub past_blank : (kind : SectionKind) (whole todo : List TextLine) (line : TextLine) (rows columns : List (List ℕ))
    → IsAbove kind whole (line ∷ todo) rows columns → is_empty (keyword line) ≡ true → is_empty line.text ≡ true
    → IsAbove kind whole todo rows columns
past_blank kind whole todo line rows columns is none blank = record {
  above = with_line is.above kind line;
  joined = search (rules, below_content, eqb-true, nil_from_length);
  clues = search (rules, filter-append, append-nil);
}

module _ (next : SectionKind) (line : TextLine) (number place : ℕ) (after rest : List ℕ) (rows columns : List (List ℕ))
    (reads : ReadsClues after (clues_of_kind next rows columns) rest)
    (counted : place ≡ number + length (clues_of_kind next rows columns)) where
  abbrev found : List TextLine
  found = (reads number).0

  abbrev later : List TextLine
  later = numbered_from place (raw_lines rest)

  parts : numbered_from number (raw_lines after) ≡ found ++ later
  parts = (reads number).1 ∙ ap (λ (n : ℕ). found ++ numbered_from n (raw_lines rest)) (sym counted)

  -- After a keyword line and the clue lines below it, `IsAbove` holds with their clues.
  pub past_section : (kind : SectionKind) (whole : List TextLine) (old_rows old_columns : List (List ℕ))
      → KeepsOthers next old_rows old_columns rows columns
      → IsAbove kind whole (line ∷ numbered_from number (raw_lines after)) old_rows old_columns → is_empty (keyword line) ≡ false
      → IsSectionOfKeyword (keyword line) next → IsAbove next whole later rows columns
  past_section kind whole old_rows old_columns kept is some opens = record {
    above = with_lines next is.above found;
    joined =
        let first = below_keyword kind next line (numbered_from number (raw_lines after)) some opens in
        search (rules, first, parts, join_content, all_content, is.joined);
    clues = search (rules, nil_from_length, filter-append, append-nil, filter_all, reads_all, parsed_after, is.clues);
  }

  -- Of a keyword line and the clue lines below it, only the first is a keyword line.
  pub only_keyword_line : (kept all : List TextLine) → kept ++ filter is_keyword_line (line ∷ numbered_from number (raw_lines after)) ≡ all
      → is_empty (keyword line) ≡ false → (kept ++ line ∷ []) ++ filter is_keyword_line later ≡ all
  only_keyword_line kept all e some = search (rules, parts, append_assoc, all-weaker, all_content, filter-append, filter_none)

-- If `P` holds of the value of a result, and implies `Q`, then `Q` holds of the value of the result as an option.
pub some_of_ok : {X E : Type 0} (P Q : X → Type 0) (r : Result X E) → IfOk r P → ((x : X) → P x → Q x) → IfSome (result_ok r) Q
some_of_ok P Q r h f = search rules

-- If `P` holds of a value whenever that is the answer, it holds of the value that the call returns.
pub ok_of_gives : {F X : Type 0} (P : X → Type 0) (no_memory : F) (r answer : Result X F) → Gives no_memory (λ x. x) r answer
    → ((x : X) → answer ≡ Ok x → P x) → IfOk r P
ok_of_gives P no_memory r answer gives f = search rules

-- ---- `.non`

-- No keyword line of a text has a line feed in it.
pub kept_clean : (bytes : List ℕ) (kept : List TextLine) → kept ≡ filter is_keyword_line (lines bytes) → HaveNoFeed kept
kept_clean bytes kept e = rw e (clean_filter is_keyword_line (lines bytes) (lines_have_no_feed bytes))

-- The puzzle of the keyword lines and the sections is that of a `.non` text.
pub non_parsed : (bytes : List ℕ) (kept : List TextLine) (p : Nonogram) → length bytes ≤ 1048576
    → kept ≡ filter is_keyword_line (lines bytes)
    → build_puzzle MAX_SIDE (sections_of (placed (lines bytes))) kept ≡ Ok p → read_non MAX_SIDE bytes ≡ Ok p
non_parsed bytes kept p short e parsed = search (rules, short, short_lines, parsed_of_kept)

-- ---- `.mk` and `.nin`

-- If no text follows, the lines found are all lines.
lines_to_end : (bytes rest : List ℕ) (number count : ℕ) (found : List TextLine) → length rest ≡ 0
    → numbered_from number (raw_lines bytes) ≡ found ++ numbered_from (number + count) (raw_lines rest)
    → numbered_from number (raw_lines bytes) ≡ found
lines_to_end bytes rest number count found none parts = search (rules, append-nil, nil_from_length)

-- A text with a size line, row clues, a line `#` and column clues is read as that puzzle in `.mk`.
pub mk_parsed : (bytes after middle below_it rest : List ℕ) (width height : ℕ) (rows columns : List (List ℕ)) → length bytes ≤ 1048576
    → ReadsSizes bytes (height, width) after → ReadsClues after rows middle → BeginsWith middle (35 ∷ []) below_it
    → ReadsClues below_it columns rest → length rest ≡ 0 → length rows ≡ height → length columns ≡ width
    → read_mk MAX_SIDE bytes ≡ Ok (plain width height rows columns)
mk_parsed bytes after middle below_it rest width height rows columns short sizes row_part hash column_part none high wide =
    let place = 2 + length rows in
    let column_found = column_part (place + 1) in
    rw (short_lines bytes short, sizes.1 1, (row_part 2).1, hash place)
    (rw (lines_to_end below_it rest (place + 1) (length columns) column_found.0 none column_found.1)
    (mk_lines MAX_SIDE width height _ _ _ _ rows columns sizes.2 (some_text sizes.0 (digit_range _ sizes.3).0) refl
    (reads_all _ rows (row_part 2).2) (reads_all _ columns column_found.2) high wide))

-- A text with a size line and clues is read as their puzzle in `.nin`.
pub nin_parsed : (bytes after rest : List ℕ) (a b : ℕ) (clues : List (List ℕ)) → length bytes ≤ 1048576 → ReadsSizes bytes (a, b) after
    → ReadsClues after clues rest → length rest ≡ 0 → length clues ≡ a + b → read_nin MAX_SIDE bytes ≡ Ok (orient a b clues)
nin_parsed bytes after rest a b clues short sizes part none count =
    rw (short_lines bytes short, sizes.1 1, lines_to_end after rest 2 (length clues) (part 2).0 none (part 2).1)
    (nin_lines MAX_SIDE a b _ _ clues sizes.2 (some_text sizes.0 (digit_range _ sizes.3).0) (reads_all _ clues (part 2).2) count)
