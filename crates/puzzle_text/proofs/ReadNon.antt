-- Puzzles that are written in `.non` are read again.
use Rattle.puzzle_text.proofs.Names.{rules, ◌≡◌, drop, reverse, ℕ, ◌*◌, ◌<◌, ◌≤◌, ◌^◌, Bool, true, false, not, eqb, List, [], ◌∷◌, ◌++◌, length, get_or, map, codes, refl, sym, ap, ◌∙◌, append_assoc, arith, Option, Some, inr, None, decimal, flat_map, list_all, AllByRecursion, not-true, and_parts, leb-true, eqb-true, reverse-append, reverse-reverse, append-nil, get_or_at, length-append, length-map, flat_map-append, length-decimal-le, flat_map-map, prefix_len, is_ascii_alphabetic, is_empty, trim, trim_end, trim_start, Nonogram, IsNonogramWithin, is_goal, Description, IsDescription, is_field, text_of, all_fields, field_word, clue_text, quoted_line, goal_byte, goal_lines, text_non, Field, Catalogue, all-append, all-flat_map, all-weaker, all_pass, ◌+◌, cond, ltb, Ok, filter, bytes_eq, eq-eqb, filter-append, is_clue, inl, TextLine, lines, is_non_blank, each_some, with_keyword, first_with, quoted_text, placed, sections_of, number_of_line, long_text, cell_of, goal_of, texts_of, sizes_of, check_lines, outline_of, non_of, read_non, Sections, build_puzzle, Rows, Columns, Other, Title, By, Copyright, License, all-map, filter_all, filter_none, nil_from_length}
use Rattle.std.proofs.lemmas.Nat.{mul-le}
use Rattle.puzzle_text.proofs.SectionsLemmas.{OpensNone, word_at, no_lines, IsContent, below, below_keyword, content_digit, join_content, nothing_above, with_lines}
use Rattle.puzzle_text.proofs.ReadBack.{IsKept, kept_tidy, tidy_solid, kept_edged, with_feed, tidy-join, tidy_decimal, kept_clues, length_lines, lines_kept, numbered, numbered-append, reads_clues, word_clue, size_again, first_digit}
use Rattle.puzzle_text.proofs.ParsedLines.{ReadsAll, non_lines, short_lines}

-- the text of a line with a keyword and a text in double quotes
abbrev pub field_line : List ℕ → List ℕ → List ℕ
field_line word text = word ++ 32 ∷ 34 ∷ (text ++ 34 ∷ [])

-- that line, if there is a text
abbrev pub one : List ℕ → Option (List ℕ) → List (List ℕ)
one word None = []
one word (Some text) = field_line word text ∷ []

-- the text of a line with a keyword and a number
abbrev pub size_text : List ℕ → ℕ → List ℕ
size_text word n = word ++ 32 ∷ decimal n

-- the text of a goal, if there is one
abbrev pub goal_text : Option (List Bool) → Option (List ℕ)
goal_text None = None
goal_text (Some cells) = Some (map goal_byte cells)

-- the empty line before a goal, if there is one
abbrev pub goal_gap : Option (List Bool) → List (List ℕ)
goal_gap None = []
goal_gap (Some cells) = [] ∷ []

-- the line of a field, if it has a text
abbrev pub part : Description → Field → List (List ℕ)
part ts f = one (field_word f) (text_of ts f)

-- the lines of all fields that have a text
abbrev pub fields : Description → List (List ℕ)
fields ts = flat_map (part ts) all_fields

-- the clue lines of the rows, and the empty line after them
abbrev pub row_part : Nonogram → List (List ℕ)
row_part p = map (clue_text 44) p.rows ++ [] ∷ []

-- the clue lines of the columns, and the empty line before a goal
abbrev pub column_part : Nonogram → List (List ℕ)
column_part p = map (clue_text 44) p.columns ++ goal_gap p.goal

-- the line of the goal, if there is one
abbrev pub goal_part : Nonogram → List (List ℕ)
goal_part p = one (codes "goal") (goal_text p.goal)

-- the lines from the keyword `columns` on
abbrev pub after_rows : Nonogram → List (List ℕ)
after_rows p = codes "columns" ∷ (column_part p ++ goal_part p)

-- the lines from the width on
abbrev pub after_fields : Nonogram → List (List ℕ)
after_fields p = size_text (codes "width") p.width ∷ size_text (codes "height") p.height ∷ [] ∷ codes "rows" ∷ (row_part p ++ after_rows p)

-- all lines of the text
abbrev pub texts_non : Nonogram → List (List ℕ)
texts_non p = fields p.texts ++ after_fields p

-- ---- the text is these lines

fed_one : (word : List ℕ) (o : Option (List ℕ)) → flat_map with_feed (one word o) ≡ quoted_line word o
fed_one word o = search (rules, append_assoc, append-nil)

fed_goal : (o : Option (List Bool)) → flat_map with_feed (goal_gap o) ++ quoted_line (codes "goal") (goal_text o) ≡ goal_lines o
fed_goal o = search (rules, append_assoc, append-nil)

pub non_is : (p : Nonogram) → flat_map with_feed (texts_non p) ≡ text_non p
non_is p =
    simp (flat_map-append, fed_one, flat_map-map with_feed (clue_text 44), fed_goal, append_assoc)
    (rw (append_assoc (decimal p.width) (10 ∷ []), append_assoc (decimal p.height) (10 ∷ [])) refl)

-- ---- no line is cut or trimmed

kept_field : (word text : List ℕ) → list_all (λ byte. not (eqb byte 10)) word ≡ true → list_all (λ byte. not (eqb byte 10)) text ≡ true
    → 33 ≤ get_or (field_line word text) 0 0 → IsKept (field_line word text)
kept_field word text name clean first =
    let whole = append_assoc word (32 ∷ 34 ∷ text) (34 ∷ []) in
    rw whole at (kept_edged ((word ++ 32 ∷ 34 ∷ text) ++ 34 ∷ []) (rw whole (search (rules, all-append, all_pass, not-true)))
    (rw whole first) (search (rules, get_or_at, length-append)))

kept_one : (word : List ℕ) (o : Option (List ℕ)) → list_all (λ byte. not (eqb byte 10)) word ≡ true → is_field o ≡ true
    → ((text : List ℕ) → 33 ≤ get_or (field_line word text) 0 0) → AllByRecursion IsKept (one word o)
kept_one word o name lawful first = search (rules, kept_field, and_parts)

pub all_gap : (P : List ℕ → Type 0) → P [] → (o : Option (List Bool)) → AllByRecursion P (goal_gap o)
all_gap P blank o = search rules

clean_goal : (cells : List Bool) → list_all (λ byte. not (eqb byte 10)) (map goal_byte cells) ≡ true
clean_goal [] = refl
clean_goal (cell ∷ cells) = search (rules, clean_goal cells)

kept_goal : (o : Option (List Bool)) → AllByRecursion IsKept (one (codes "goal") (goal_text o))
kept_goal None = tt
kept_goal (Some cells) = (kept_field (codes "goal") (map goal_byte cells) refl (clean_goal cells) (omega arith), tt)

pub lawful_field : (ts : Description) → IsDescription ts → (f : Field) → is_field (text_of ts f) ≡ true
lawful_field ts lawful f = search rules

-- the argument of a keyword line with this text
abbrev pub argument_of : List ℕ → List ℕ
argument_of text = trim (drop (prefix_len is_ascii_alphabetic text) text)

-- A text in double quotes has no blanks that could be trimmed.
pub quote_kept : (text : List ℕ) → trim_end (34 ∷ (text ++ 34 ∷ [])) ≡ 34 ∷ (text ++ 34 ∷ [])
quote_kept text =
    let e = reverse-append (34 ∷ text) (34 ∷ []) in
    ap (λ (x : List ℕ). reverse (trim_start x)) e ∙ ap reverse (sym e) ∙ reverse-reverse (34 ∷ (text ++ 34 ∷ []))

-- what holds of a field's keyword and of its line
pub record IsFieldWord (f : Field) : Type 0 where
  pub clean : list_all (λ byte. not (eqb byte 10)) (field_word f) ≡ true
  pub short : length (field_word f) ≤ 9
  pub inked : (text : List ℕ) → 33 ≤ get_or (field_line (field_word f) text) 0 0
  pub word : (text : List ℕ) → word_at (field_line (field_word f) text) ≡ field_word f
  pub argument : (text : List ℕ) → argument_of (field_line (field_word f) text) ≡ 34 ∷ (text ++ 34 ∷ [])
  pub none : OpensNone (field_word f)

pub facts : (f : Field) → IsFieldWord f
facts f = search (f, rules, quote_kept)

kept_size : (word : List ℕ) (n : ℕ) → AllByRecursion (λ byte. 33 ≤ byte) word → 0 < length word → n < 2 ^ 64 → IsKept (size_text word n)
kept_size word n high some wide = kept_tidy _ (tidy-join 32 word _ (inr refl) (tidy_solid word some high) (tidy_decimal n wide))

pub kept_non : (limit : ℕ) (p : Nonogram) → limit < 2 ^ 64 → IsNonogramWithin limit p → AllByRecursion IsKept (texts_non p)
kept_non limit p wide lawful =
    let width = kept_size (codes "width") p.width (search rules) (omega arith) (omega (arith, lawful.size.width_to)) in
    let height = kept_size (codes "height") p.height (search rules) (omega arith) (omega (arith, lawful.size.height_to)) in
    let rows : AllByRecursion IsKept (row_part p) = search (rules, all-append, kept_clues 44 limit) in
    let columns : AllByRecursion IsKept (column_part p) = search (rules, all-append, all_gap, kept_clues 44 limit) in
    let after = all-append IsKept (column_part p) (goal_part p) columns (kept_goal p.goal) in
    let behind = all-append IsKept (row_part p) (after_rows p) rows (search rules, after) in
    let texts = all-flat_map IsKept (part p.texts) (λ f. search (kept_one, facts f, lawful_field p.texts lawful.texts f)) all_fields in
    all-append IsKept (fields p.texts) (after_fields p) texts (width, (height, (search rules, (search rules, behind))))

-- ---- how long the text is

length_fields : (ts : Description) → IsDescription ts → (fs : List Field)
    → length (flat_map (λ f. quoted_line (field_word f) (text_of ts f)) fs) ≤ 65549 * length fs
length_fields ts lawful [] = omega arith
length_fields ts lawful (f ∷ fs) = search (rules, length_fields ts lawful fs, facts, lawful_field, length-append, leb-true, and_parts)

length_goal : (w h : ℕ) (o : Option (List Bool)) → w ≤ 256 → h ≤ 256 → is_goal (w * h) o ≡ true → length (goal_lines o) ≤ 65550
length_goal w h o wide high lawful = search (rules, eqb-true, mul-le, length-map, length-append)

-- The text in `.non` is short enough to be read.
pub length_non : (limit : ℕ) (p : Nonogram) → limit ≤ 256 → IsNonogramWithin limit p → length (text_non p) ≤ 1048576
length_non limit p wide lawful =
    let fields = length_fields p.texts lawful.texts all_fields in
    search (rules, length-append, length-decimal-le 3, length_lines 44 limit, length_goal p.width p.height, fields)

abbrev texts_with : List ℕ → List (List ℕ) → List (List ℕ)
texts_with word texts = filter (λ text. bytes_eq (word_at text) word) texts

-- ---- lines that are neither keyword lines nor comments

content_clues : (limit : ℕ) (clues : List (List ℕ)) → limit < 2 ^ 64 → AllByRecursion (λ clue. is_clue limit clue ≡ true) clues
    → AllByRecursion IsContent (map (clue_text 44) clues)
content_clues limit clues wide h =
    all-map _ IsContent (clue_text 44) (λ clue is. search (first_digit 44 clue (word_clue limit clue wide is), content_digit)) clues h

-- ---- the lines with a keyword

with-content : (word : List ℕ) (texts : List (List ℕ)) → bytes_eq [] word ≡ false → AllByRecursion IsContent texts
    → texts_with word texts ≡ []
with-content word texts other h = search (rules, filter_none, all-weaker)

with-one : (word name : List ℕ) (o : Option (List ℕ)) (same : Bool)
    → ((text : List ℕ) → bytes_eq (word_at (field_line name text)) word ≡ same) → texts_with word (one name o) ≡ cond same (one name o) []
with-one word name o same h = search (rules, same)

-- the fields with this keyword
abbrev fields_with : List ℕ → List Field → List Field
fields_with word fs = filter (λ f. bytes_eq (field_word f) word) fs

with-parts : (word : List ℕ) (ts : Description) (fs : List Field)
    → texts_with word (flat_map (part ts) fs) ≡ flat_map (part ts) (fields_with word fs)
with-parts word ts [] = refl
with-parts word ts (f ∷ fs) =
    let here = with-one word (field_word f) (text_of ts f) (bytes_eq (field_word f) word) (λ text. rw ((facts f).word text) refl) in
    rw (filter-append (λ text. bytes_eq (word_at text) word) (part ts f) (flat_map (part ts) fs), here, with-parts word ts fs)
    (search rules)

-- ---- from texts to lines

lines_with : (word : List ℕ) (k : ℕ) (texts : List (List ℕ))
    → map (λ (line : TextLine). line.text) (with_keyword word (numbered k texts)) ≡ texts_with word texts
lines_with word k [] = refl
lines_with word k (text ∷ texts) = let others = lines_with word (k + 1) texts in search rules

-- `xs` are one line, with this `text`
abbrev IsOne : List TextLine → List ℕ → Type 0
IsOne xs text = (line : TextLine) × (xs ≡ line ∷ []) × (line.text ≡ text)

one_seen : (xs : List TextLine) (text : List ℕ) → map (λ (line : TextLine). line.text) xs ≡ text ∷ [] → IsOne xs text
one_seen (x ∷ []) text e = (x, refl, cc)
one_seen xs text e = absurd cc

-- the lines whose keyword is `word` are one, with this text in quotes, or none if there is no text
abbrev FieldIs : List ℕ → List TextLine → Option (List ℕ) → Type 0
FieldIs word lines None = with_keyword word lines ≡ []
FieldIs word lines (Some text) = (line : TextLine) × (with_keyword word lines ≡ line ∷ []) × (quoted_text line ≡ text)

field_is : (word : List ℕ) (o : Option (List ℕ)) (k : ℕ) (texts : List (List ℕ))
    → ((text : List ℕ) → argument_of (field_line word text) ≡ 34 ∷ (text ++ 34 ∷ [])) → texts_with word texts ≡ one word o
    → FieldIs word (numbered k texts) o
field_is word None k texts after e = nil_from_length _ (sym (length-map _ _) ∙ ap length (lines_with word k texts ∙ e))
field_is word (Some text) k texts after e =
    let found = one_seen (with_keyword word (numbered k texts)) (field_line word text) (lines_with word k texts ∙ e) in
    (found.0, found.1, search (rules, after, reverse-append, reverse-reverse))

long_none : (word : List ℕ) (lines : List TextLine) (o : Option (List ℕ)) → FieldIs word lines o → is_field o ≡ true
    → number_of_line (long_text lines word) ≡ None
long_none word lines o is lawful = search rules

-- Below keyword lines that begin no section, lines still belong to neither section.
below_keywords : (k : ℕ) (xs ys : List (List ℕ)) → AllByRecursion (λ text. OpensNone (word_at text)) xs
    → (m : ℕ) × (below Other (numbered k (xs ++ ys)) ≡ below Other (numbered m ys))
below_keywords k [] ys h = (k, refl)
below_keywords k (x ∷ xs) ys h = search (rules, below_keywords (k + 1) xs ys h.1, below_keyword Other Other, h.0)

-- What holds of texts holds of the texts of their lines.
numbered_all : (P : List ℕ → Type 0) (k : ℕ) (texts : List (List ℕ)) → AllByRecursion P texts
    → AllByRecursion (λ (line : TextLine). P line.text) (numbered k texts)
numbered_all P k [] h = tt
numbered_all P k (text ∷ texts) h = (h.0, numbered_all P (k + 1) texts h.1)

-- the sections of a written puzzle, with the blank lines at their ends: their lines, numbered from `k` and from `m` on,
-- and no stray line
abbrev these : Nonogram → ℕ → ℕ → Sections
these p k m = record { rows = numbered k (row_part p); columns = numbered m (column_part p); stray = None }

-- The non-blank lines of a section are read as its clues.
part_again : (limit k : ℕ) (clues gap : List (List ℕ)) → limit < 2 ^ 64 → AllByRecursion (λ clue. is_clue limit clue ≡ true) clues
    → AllByRecursion (λ text. not (is_empty text) ≡ false) gap
    → ReadsAll limit (filter is_non_blank (numbered k (map (clue_text 44) clues ++ gap))) clues
part_again limit k clues gap wide lawful blank =
    let parsed = reads_clues 44 limit k clues (inl refl) wide lawful in
    let none = numbered_all (λ text. not (is_empty text) ≡ false) (k + length (map (clue_text 44) clues)) gap blank in
    rw (numbered-append k (map (clue_text 44) clues) gap)
    (search (rules, filter-append, filter_all is_non_blank _ parsed.non_blank, filter_none is_non_blank _ none, append-nil, parsed))

-- ---- the goal

each_cells : (cells : List Bool) → each_some cell_of (map goal_byte cells) ≡ Some cells
each_cells [] = refl
each_cells (cell ∷ cells) = search (rules, each_cells cells)

goal_again : (count : ℕ) (o : Option (List Bool)) (lines : List TextLine) → FieldIs (codes "goal") lines (goal_text o)
    → is_goal count o ≡ true
    → goal_of count (first_with (codes "goal") lines) ≡ Ok o
goal_again count None lines is lawful = search rules
goal_again count (Some cells) lines is lawful = search (rules, eq-eqb, length-map, eqb-true, each_cells)

-- ---- the whole text

module _ (limit : ℕ) (p : Nonogram) (wide : limit < 2 ^ 64) (lawful : IsNonogramWithin limit p) where
  content_rows : AllByRecursion IsContent (row_part p)
  content_rows = search (all-append, content_clues)

  content_columns : AllByRecursion IsContent (column_part p)
  content_columns = search (all-append, content_clues, all_gap)

  -- The lines with the keyword `word` are those among the fields, the sizes and the section keywords, and the goal's if
  -- `goal`.
  whole : (word : List ℕ) (goal : Bool) → bytes_eq [] word ≡ false
      → ((text : List ℕ) → bytes_eq (word_at (field_line (codes "goal") text)) word ≡ goal) → texts_with word (texts_non p)
      ≡ flat_map (part p.texts) (fields_with word all_fields)
      ++ (texts_with word (size_text (codes "width") p.width ∷ size_text (codes "height") p.height ∷ [] ∷ codes "rows" ∷ [])
      ++ (texts_with word (codes "columns" ∷ []) ++ cond goal (goal_part p) []))
  whole word goal some in_goal =
      let has = λ (text : List ℕ). bytes_eq (word_at text) word in
      let head = size_text (codes "width") p.width ∷ size_text (codes "height") p.height ∷ [] ∷ codes "rows" ∷ [] in
      rw (filter-append has (fields p.texts), with-parts word p.texts all_fields, filter-append has head, filter-append has (row_part p))
      (rw (with-content word (row_part p) some content_rows, filter-append has (codes "columns" ∷ []), filter-append has (column_part p))
      (rw (with-content word (column_part p) some content_columns, with-one word (codes "goal") (goal_text p.goal) goal in_goal) refl))

  field_only : (f : Field) → texts_with (field_word f) (texts_non p) ≡ part p.texts f
  field_only Catalogue = whole (codes "catalogue") false refl (λ text. refl) ∙ search append-nil
  field_only f = whole (field_word f) false refl (λ text. refl) ∙ search append-nil

  -- ---- its lines

  abbrev all_lines : List TextLine
  all_lines = numbered 1 (texts_non p)

  width_line : IsOne (with_keyword (codes "width") all_lines) (size_text (codes "width") p.width)
  width_line = one_seen _ _ (lines_with (codes "width") 1 (texts_non p) ∙ whole (codes "width") false refl (λ _. refl))

  height_line : IsOne (with_keyword (codes "height") all_lines) (size_text (codes "height") p.height)
  height_line = one_seen _ _ (lines_with _ 1 (texts_non p) ∙ whole (codes "height") false refl (λ _. refl))

  rows_line : IsOne (with_keyword (codes "rows") all_lines) (codes "rows")
  rows_line = one_seen _ _ (lines_with (codes "rows") 1 (texts_non p) ∙ whole (codes "rows") false refl (λ _. refl))

  columns_line : IsOne (with_keyword (codes "columns") all_lines) (codes "columns")
  columns_line = one_seen _ _ (lines_with _ 1 (texts_non p) ∙ whole (codes "columns") false refl (λ _. refl))

  goal_field : FieldIs (codes "goal") all_lines (goal_text p.goal)
  goal_field = field_is _ _ 1 (texts_non p) quote_kept (whole (codes "goal") true refl (λ text. refl))

  field_at : (f : Field) → FieldIs (field_word f) all_lines (text_of p.texts f)
  field_at f = field_is (field_word f) (text_of p.texts f) 1 (texts_non p) (facts f).argument (field_only f)

  long_at : (f : Field) → number_of_line (long_text all_lines (field_word f)) ≡ None
  long_at f = long_none (field_word f) all_lines (text_of p.texts f) (field_at f) (lawful_field p.texts lawful.texts f)

  trimmed : (n : ℕ) → n ≤ limit → trim (decimal n) ≡ decimal n
  trimmed n h = (kept_tidy (decimal n) (tidy_decimal n (omega arith))).trimmed

  sizes_read : sizes_of limit all_lines ≡ Ok (p.width, p.height)
  sizes_read = search (rules, trimmed, size_again)

  lines_checked : check_lines None all_lines ≡ Ok tt
  lines_checked =
      rw (long_at Catalogue, long_at Title, long_at By, long_at Copyright, long_at License)
      (rw (width_line.1, height_line.1, rows_line.1, columns_line.1) refl)

  texts_read : texts_of all_lines ≡ p.texts
  texts_read = search (rules, field_at Catalogue, field_at Title, field_at By, field_at Copyright, field_at License)

  -- The sections of the text are the written ones, and no line is stray.
  laid_out : (k : ℕ) × (m : ℕ) × (sections_of (placed all_lines) ≡ these p k m)
  laid_out =
      let words = all-flat_map (λ text. OpensNone (word_at text)) (part p.texts) (λ f. search (rules, facts)) all_fields in
      let start = below_keywords 1 (fields p.texts) (after_fields p) words in
      let m = start.0 + 1 + 1 + 1 + 1 in
      let rows = numbered m (row_part p) in
      let content = numbered_all IsContent m (row_part p) content_rows in
      let n = m + length (row_part p) in
      let columns = numbered (n + 1) (column_part p) in
      let all : sections_of (placed all_lines) ≡ these p m (n + 1) =
      rw (← nothing_above [] [] all_lines refl refl, start.1, numbered-append m (row_part p) (after_rows p))
      (rw (join_content Rows no_lines rows (numbered n (after_rows p)) content)
      (rw (numbered-append (n + 1) (column_part p) (goal_part p))
      (rw (join_content Columns (with_lines Rows no_lines rows) columns (numbered (n + 1 + length (column_part p)) (goal_part p))
      (numbered_all IsContent (n + 1) (column_part p) content_columns))
      (search (p.goal, rules, append-nil))))) in
      (m, n + 1, all)

  -- The lines of a written puzzle are read as that puzzle.
  non_again : non_of limit all_lines ≡ Ok p
  non_again =
      let outline : outline_of limit None all_lines ≡ Ok ((p.width, p.height), ltb rows_line.0.number columns_line.0.number) =
      rw (sizes_read, lines_checked, rows_line.1, columns_line.1) refl in
      ap (λ (sections : Sections). build_puzzle limit sections all_lines) laid_out.2
      ∙ non_lines limit (these p laid_out.0 laid_out.1) all_lines p.width p.height _ p.rows p.columns p refl
      (part_again limit laid_out.0 p.rows ([] ∷ []) wide lawful.rows (refl, tt))
      (part_again limit laid_out.1 p.columns (goal_gap p.goal) wide lawful.columns (all_gap _ refl p.goal)) outline
      lawful.clues.0 lawful.clues.1 (rw (goal_again (p.width * p.height) p.goal all_lines goal_field lawful.goal, texts_read) refl)

-- A puzzle written in `.non` is read again, including its texts and its goal.
pub non_read_again : (limit : ℕ) (p : Nonogram) → limit ≤ 256 → IsNonogramWithin limit p → read_non limit (text_non p) ≡ Ok p
non_read_again limit p wide lawful =
    rw (short_lines (text_non p) (length_non limit p wide lawful), ← non_is p)
    (rw (lines_kept 1 (texts_non p) (kept_non limit p (omega arith) lawful)) (non_again limit p (omega arith) lawful))
