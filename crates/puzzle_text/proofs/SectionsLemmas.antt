-- Lemmas on sections: their clue lines, and which lines belong to them, found in one pass from the top.
use Rattle.puzzle_text.proofs.Names.{arith, zero, suc, ◌-◌, slice_get, rules, ◌≡◌, ℕ, append-nil, ◌≤◌, Bool, true, cond, List, [], ◌∷◌, length, take, drop, map, refl, Some, None, count_by, filter, list_all, ne_eqb, eq-eqb, le-leb, take-map, drop-map, length-map, length-take-le, take-append-drop, filter-append, list_all-map, count_by-le-length, length-filter, TextLine, is_non_blank, is_blank_line, lines, section, all_pass, filter_none, section_lines, ◌+◌, ◌++◌, ap, append_assoc, Option, enumerate_from, last_or, take-append_seam, length-append, is_empty, keyword, is_content, last_keyword, placed, ◌<◌, get_or, false, eqb, sym, ◌∙◌, take_while, AllByRecursion, nat_tests, is_ascii_alphabetic, to_ascii_lowercase, str_to_ascii_lowercase, and-false, drop_more, SectionKind, Rows, Columns, Other, codes, find, number_of_line, is_hash, or_else, Sections, sections_of, IsSectionOfKeyword, with_line, shown_line}
use Rattle.puzzle_text.specs.steps.Sections.{leading_lines}
use Rattle.puzzle_text.specs.declared.lines.TextLine.{TextLine as KeptLine}

-- A filter of a mapped list is the mapped list of what the filter keeps.
pub filter-map : {X Y : Type 0} (p : Y → Bool) (view : X → Y) (xs : List X)
    → filter p (map view xs) ≡ map view (filter (λ x. p (view x)) xs)
filter-map p view [] = refl
filter-map p view (x ∷ xs) = rw (filter-map p view xs) (search rules)

module _ {X : Type 0} (view : X → TextLine) where
  -- The non-blank lines are the clue lines if there are `count` of them.
  pub section_lines_non_blank : (count : ℕ) (section non_blank : List X) → non_blank ≡ filter (λ x. is_non_blank (view x)) section
      → count_by (λ x. is_non_blank (view x)) section ≡ count → section_lines count (map view section) ≡ Some (map view non_blank)
  section_lines_non_blank count section non_blank e n = search (rules, eq-eqb, filter-map, length-map, length-filter)

  -- The first lines are the clue lines if all lines after them are blank.
  pub leading_lines_are : (count : ℕ) (section : List X) → count ≤ length section → leading_lines count (map view section)
      ≡ cond (list_all (λ x. is_blank_line (view x)) (drop count section)) (Some (map view (take count section))) None
  leading_lines_are count section long = search (rules, le-leb, length-map, drop-map, list_all-map, take-map)

  -- There are no clue lines if neither the first lines nor the non-blank lines can be.
  pub no_section_lines : (count : ℕ) (section : List X) → leading_lines count (map view section) ≡ None
      → (count_by (λ x. is_non_blank (view x)) section ≡ count → ⊥) → section_lines count (map view section) ≡ None
  no_section_lines count section none n = search (rules, ne_eqb, filter-map, length-map, length-filter)

-- If a filter keeps as many lines as there are, it keeps all.
all_kept : (lines : List TextLine) → length (filter is_non_blank lines) ≡ length lines → filter is_non_blank lines ≡ lines
all_kept [] e = refl
all_kept (line ∷ lines) e = search (rules, all_kept lines, length-filter, count_by-le-length)

leading_lines_kept : (count : ℕ) (lines : List TextLine) → count ≤ length lines → list_all is_blank_line (drop count lines) ≡ true
    → length (filter is_non_blank lines) ≡ count → filter is_non_blank lines ≡ take count lines
leading_lines_kept count lines within blank enough =
    search (rules, take-append-drop count lines, filter-append, filter_none, all_pass, append-nil, all_kept, length-take-le)

-- The first lines are the clue lines, if all lines after them are blank.
pub leading_lines_suffice : (count : ℕ) (lines found : List TextLine) → leading_lines count lines ≡ Some found
    → section_lines count lines ≡ Some found
leading_lines_suffice count lines found e = search (rules, leading_lines_kept)

pub ruleset lengths = (length-map, length-filter, filter-map)

-- Below the first element, an element's index is greater by one than in the rest of the list.
pub slice_get_below : {X : Type 0} (x : X) (xs : List X) (i : ℕ) → 0 < i → slice_get (x ∷ xs) i ≡ slice_get xs (i - 1)
slice_get_below x xs zero h = absurd (omega arith)
slice_get_below x xs (suc i) h = ap (slice_get xs) (omega arith)

-- the content lines, each beside the nearest keyword above it; under is the keyword before all
abbrev pub walked : List ℕ → List TextLine → List (List ℕ × TextLine)
walked word [] = []
walked word (line ∷ lines) =
    let others = walked (cond (is_empty (keyword line)) word (keyword line)) lines in
    cond (is_content line) ((word, line) ∷ others) others

last_more : {X : Type 0} (start : Option X) (xs : List X) (x : X) → last_or start (xs ++ x ∷ []) ≡ Some x
last_more start [] x = refl
last_more start (y ∷ xs) x = last_more (Some y) xs x

-- From below the lines `top` on, with their last keyword, one pass finds the same lines and keywords.
walked_below : (top lines : List TextLine)
    → walked (last_keyword top) lines ≡ map (λ one. (last_keyword (take one.0 (top ++ lines)), one.1))
    (filter (λ one. is_content one.1) (enumerate_from (length top) lines))
walked_below top [] = refl
walked_below top (line ∷ lines) =
    search (rules, walked_below (top ++ line ∷ []) lines, filter-append, append-nil, last_more, append_assoc, length-append, take-append_seam)

-- ---- the sections

abbrev pub no_lines : Sections
no_lines = record { rows = []; columns = []; stray = None }

-- the sections above, with those of the lines below them appended
abbrev pub join : Sections → Sections → Sections
join above below =
    record { rows = above.rows ++ below.rows; columns = above.columns ++ below.columns; stray = or_else above.stray below.stray }

-- the keyword of a section
abbrev word_of : SectionKind → List ℕ
word_of Rows = codes "rows"
word_of Columns = codes "columns"
word_of Other = []

-- the sections of `lines` below the keyword of a section
abbrev pub below : SectionKind → List TextLine → Sections
below kind lines = sections_of (walked (word_of kind) lines)

-- ---- the three kinds of lines

below_other : (word : List ℕ) (lines : List TextLine) → IsSectionOfKeyword word Other → sections_of (walked word lines) ≡ below Other lines
below_other word [] other = refl
below_other word (line ∷ lines) other = search (rules, below_other word lines other)

-- Below a keyword line, the lines belong to the section that it begins.
pub below_keyword : (kind next : SectionKind) (line : TextLine) (lines : List TextLine) → is_empty (keyword line) ≡ false
    → IsSectionOfKeyword (keyword line) next → below kind (line ∷ lines) ≡ below next lines
below_keyword kind Other line lines some is = rw some (below_other (keyword line) lines is)
below_keyword kind next line lines some is = rw (some, is) refl

pub below_content : (kind : SectionKind) (above : Sections) (line : TextLine) (lines : List TextLine) → is_empty (keyword line) ≡ true
    → is_hash line ≡ false → join above (below kind (line ∷ lines)) ≡ join (with_line above kind line) (below kind lines)
below_content kind above line lines e h = search (kind, rules, append_assoc, and-false)

-- `word` is a keyword that begins no section
pub record OpensNone (word : List ℕ) : Type 0 where
  pub some : is_empty word ≡ false
  pub other : IsSectionOfKeyword word Other

-- the keyword that the text of a line begins with
abbrev pub word_at : List ℕ → List ℕ
word_at text = str_to_ascii_lowercase (take_while is_ascii_alphabetic text)

-- `text` is that of a line that is neither a keyword line nor a comment
pub record IsContent (text : List ℕ) : Type 0 where
  pub word : word_at text ≡ []
  pub hash : eqb (get_or text 0 0) 35 ≡ false

-- A text that begins with a digit is that of a content line.
pub content_digit : (text : List ℕ) → 48 ≤ get_or text 0 0 → get_or text 0 0 ≤ 57 → IsContent text
content_digit text low high = search (rules, ne_eqb, nat_tests)

-- the sections with `found` appended to one of them
abbrev pub with_lines : SectionKind → Sections → List TextLine → Sections
with_lines Rows above found = record above { rows = above.rows ++ found }
with_lines Columns above found = record above { columns = above.columns ++ found }
with_lines Other above found = record above { stray = or_else above.stray (number_of_line (find is_non_blank found)) }

with_more : (kind : SectionKind) (above : Sections) (line : TextLine) (found : List TextLine)
    → with_lines kind above (line ∷ found) ≡ with_lines kind (with_line above kind line) found
with_more kind above line found = search (kind, above.stray, is_non_blank line, rules, append_assoc)

pub join_content : (kind : SectionKind) (above : Sections) (found todo : List TextLine) → AllByRecursion (λ line. IsContent line.text) found
    → join above (below kind (found ++ todo)) ≡ join (with_lines kind above found) (below kind todo)
join_content kind above [] todo content = search (kind, above.stray, rules, append-nil)
join_content kind above (line ∷ found) todo content =
    search (rules, with_more, join_content kind (with_line above kind line) found todo content.1, below_content)

-- At the top, the sections are empty, and those of all lines are still to come.
pub nothing_above : (rows columns lines : List TextLine) → rows ≡ [] → columns ≡ []
    → join (record { rows = rows; columns = columns; stray = None }) (below Other lines) ≡ sections_of (placed lines)
nothing_above rows columns lines p q = rw (p, q) (ap sections_of (walked_below [] lines))

-- Lower case doesn't change whether a keyword is empty.
pub none_is : (own word : List ℕ) (b : Bool) → str_to_ascii_lowercase own ≡ word → eqb (length own) 0 ≡ b → is_empty word ≡ b
none_is own word b e none = ap is_empty (sym e) ∙ ap (λ (n : ℕ). eqb n 0) (length-map own to_ascii_lowercase) ∙ none

module _ (lines : List KeptLine) (i : ℕ) (d : KeptLine) (kind : SectionKind) (own : List ℕ) (above whole : Sections) (h : i < length lines)
    (so_far : join above (below kind (map shown_line (drop i lines))) ≡ whole)
    (e : str_to_ascii_lowercase own ≡ keyword (shown_line (get_or lines i d))) where
  abbrev line : TextLine
  line = shown_line (get_or lines i d)

  abbrev others : List TextLine
  others = map shown_line (drop (i + 1) lines)

  -- After a keyword line: it is in no section, and the lines below it are in the one that it begins.
  pub next_keyword : (next : SectionKind) → IsSectionOfKeyword (str_to_ascii_lowercase own) next → eqb (length own) 0 ≡ false
      → join above (below next others) ≡ whole
  next_keyword next is some = search (rules, below_keyword, none_is, drop_more)

  -- After a comment, which is in no section.
  pub next_comment : eqb (length own) 0 ≡ true → is_hash line ≡ true → join above (below kind others) ≡ whole
  next_comment none hash = search (rules, none_is, drop_more)

  -- After a content line, which is appended to the section of the keyword above it.
  pub next_content : eqb (length own) 0 ≡ true → is_hash line ≡ false → join (with_line above kind line) (below kind others) ≡ whole
  next_content none other = search (rules, below_content, none_is, drop_more)
