-- The puzzle of a text's lines, if some of them are read as its sizes and others as its clues.
use Rattle.puzzle_text.proofs.Names.{append-nil, rules, ◌≡◌, ℕ, ◌+◌, ◌≤◌, Bool, true, false, ltb, List, [], ◌∷◌, ◌++◌, length, filter, refl, append_assoc, arith, Some, None, Ok, Err, position_or_len, AllByRecursion, cond-false, eq-eqb, le-ltb, lt-ltb, take_all, take_at, drop_at, length-append, Nonogram, plain, TooLong, TextLine, is_non_blank, is_hash, lines, pieces, clues_of, text_lines, two_sizes, at_hash, before_hash, mk_of, nin_of, orient, Sections, both_clues, outline_of, puzzle_of_clues, build_puzzle, section_lines, filter_all, with_front, ◌-◌, cond, take, drop, map, ap, Option, Result, position, prefix_len, ltb-false, cond_some, take-map, drop-map, length-map, take_rest, take-append_seam, drop-append_seam, TextFault, ◌>>=◌, each, puzzle_of, oriented_puzzle, not, bytes_eq, is_empty, is_keyword_line}
use Rattle.std.proofs.lemmas.Slice.Eq.{bytes_eq-Decides}

-- `text_lines` returns the lines of a text that isn't too long.
pub short_lines : (bytes : List ℕ) → length bytes ≤ 1048576 → text_lines bytes ≡ Ok (lines bytes)
short_lines bytes short = cond-false (ltb 1048576 (length bytes)) (Err TooLong) (Ok (lines bytes)) (le-ltb 1048576 (length bytes) short)

-- If `p` implies `q`, a filter by `q` and then by `p` keeps what a filter by `p` keeps.
filter_twice : {X : Type 0} (p q : X → Bool) → ((x : X) → p x ≡ true → q x ≡ true) → (xs : List X) → filter p (filter q xs) ≡ filter p xs
filter_twice p q le [] = refl
filter_twice p q le (x ∷ xs) = search (rules, filter_twice p q le xs)

some_word : (word own : List ℕ) → not (is_empty word) ≡ true → bytes_eq own word ≡ true → not (is_empty own) ≡ true
some_word word own some e = rw ((bytes_eq-Decides own word).0 e) some

-- With the sections given, the keyword lines alone have the same result as all lines.
pub parsed_of_kept : (limit : ℕ) (sections : Sections) (lines : List TextLine)
    → build_puzzle limit sections (filter is_keyword_line lines) ≡ build_puzzle limit sections lines
parsed_of_kept limit sections lines = search (filter_twice, some_word)

-- ---- lines around a line that begins with `#`

pub prefix_len-map : {X Y : Type 0} (p : Y → Bool) (view : X → Y) (xs : List X)
    → prefix_len p (map view xs) ≡ prefix_len (λ x. p (view x)) xs
prefix_len-map p view [] = refl
prefix_len-map p view (x ∷ xs) = ap (λ n. cond (p (view x)) (1 + n) 0) (prefix_len-map p view xs)

module _ {X : Type 0} (view : X → TextLine) where
  abbrev hash_at : List X → Option ℕ
  hash_at xs = position (λ x. is_hash (view x)) xs

  -- If the first line that begins with `#` has the index `i`, the lines are split there.
  pub at_hash_found : (xs : List X) (i : ℕ) → hash_at xs ≡ Some i
      → at_hash (map view xs) ≡ Some (map view (take i xs), map view (take (length xs - (i + 1)) (drop (i + 1) xs)))
  at_hash_found xs i e = search (rules, take-map, drop-map, take_rest, prefix_len-map, length-map)

  -- The lines are not split if none begins with `#`.
  pub at_hash_none : (xs : List X) → hash_at xs ≡ None → at_hash (map view xs) ≡ None
  at_hash_none xs e = search (rules, prefix_len-map, length-map)

  -- If the first line that begins with `#` has the index `i`, the lines before it are the first `i`.
  pub before_hash_found : (xs : List X) (i : ℕ) → hash_at xs ≡ Some i → before_hash (map view xs) ≡ map view (take i xs)
  before_hash_found xs i e = search (rules, cond_some, prefix_len-map, take-map)

  -- If no line begins with `#`, the lines before one are all lines.
  pub before_hash_none : (xs : List X) → hash_at xs ≡ None → before_hash (map view xs) ≡ map view xs
  before_hash_none xs e = search (rules, ltb-false, prefix_len-map, take-map, take_all)

-- If no element of `xs` passes, the first that passes in `xs ++ ys` is in `ys`.
place_after : {X : Type 0} (p : X → Bool) (xs ys : List X) → AllByRecursion (λ x. p x ≡ false) xs
    → position_or_len p (xs ++ ys) ≡ length xs + position_or_len p ys
place_after p [] ys none = omega arith
place_after p (x ∷ xs) ys none = rw none.0 (omega (arith, place_after p xs ys none.1))

-- The lines are split at the line `hash`, if no line before it begins with `#`.
at_hash_is : (rows : List TextLine) (hash : TextLine) (after : List TextLine) → AllByRecursion (λ line. is_hash line ≡ false) rows
    → is_hash hash ≡ true → at_hash (rows ++ hash ∷ after) ≡ Some (rows, after)
at_hash_is rows hash after none here =
    search (rules, place_after is_hash rows (hash ∷ after), drop_at (rows ++ hash ∷ []) after, lt-ltb, length-append, append_assoc, take_at)

-- If no line begins with `#`, the lines before one are all lines.
before_hash_is : (rows : List TextLine) → AllByRecursion (λ line. is_hash line ≡ false) rows → before_hash rows ≡ rows
before_hash_is rows none = rw (rw append-nil at (place_after is_hash rows [] none)) (take_all _ rows (omega arith))

-- ---- the clues of both sections

each-append : {X Y : Type 0} (step : X → Result Y TextFault) (xs ys : List X)
    → each step (xs ++ ys) ≡ (each step xs >>= λ found. with_front found (each step ys))
each-append step [] ys = search rules
each-append {X} {Y} step (x ∷ xs) ys = search (rules, each-append step xs ys)

-- The puzzle of the clue lines of both sections is that of the clues of each.
pub puzzle_of_parts : (limit width height : ℕ) (xs ys : List TextLine)
    → puzzle_of limit width height (xs ++ ys)
    ≡ (both_clues limit true xs ys >>= λ clues. Ok (oriented_puzzle width height (clues.0 ++ clues.1)))
puzzle_of_parts limit width height xs ys = search (rules, each-append)

pub puzzle_of_both : (limit width height : ℕ) (xs ys : List TextLine) (rows columns : List (List ℕ))
    → both_clues limit true xs ys ≡ Ok (rows, columns) → length rows ≡ height
    → puzzle_of limit width height (xs ++ ys) ≡ Ok (plain width height rows columns)
puzzle_of_both limit width height xs ys rows columns parsed high = search (rules, puzzle_of_parts, take-append_seam, drop-append_seam)

-- each line of `found` is read as the clue at its index; none is blank, and none begins with `#`
pub record ReadsAll (limit : ℕ) (found : List TextLine) (clues : List (List ℕ)) : Type 0 where
  pub non_blank : AllByRecursion (λ line. is_non_blank line ≡ true) found
  pub hash : AllByRecursion (λ line. is_hash line ≡ false) found
  pub count : length found ≡ length clues
  pub parsed : clues_of limit found ≡ Ok clues

-- If none of `count` lines is blank, all of them are the clue lines.
all_section_lines : (limit count : ℕ) (found : List TextLine) (clues : List (List ℕ)) → ReadsAll limit found clues → length clues ≡ count
    → section_lines count found ≡ Some found
all_section_lines limit count found clues all many = search (rules, filter_all, eq-eqb)

-- ---- the puzzle of all lines

-- In `.mk`: a size line, the rows, a line that begins with `#`, and the columns.
pub mk_lines : (limit width height : ℕ) (first cut : TextLine) (row_lines column_lines : List TextLine) (rows columns : List (List ℕ))
    → two_sizes limit (pieces first.text) ≡ Ok (height, width) → is_non_blank first ≡ true → is_hash cut ≡ true
    → ReadsAll limit row_lines rows → ReadsAll limit column_lines columns → length rows ≡ height → length columns ≡ width
    → mk_of limit (first ∷ (row_lines ++ cut ∷ column_lines)) ≡ Ok (plain width height rows columns)
mk_lines limit width height first cut row_lines column_lines rows columns sizes non_blank here p q high wide =
    rw (non_blank, sizes, at_hash_is row_lines cut column_lines p.hash here, before_hash_is column_lines q.hash)
    (search (rules, all_section_lines limit, puzzle_of_both))

-- In `.nin`: a size line and the clues.
pub nin_lines : (limit a b : ℕ) (first : TextLine) (found : List TextLine) (clues : List (List ℕ))
    → two_sizes limit (pieces first.text) ≡ Ok (a, b)
    → is_non_blank first ≡ true → ReadsAll limit found clues → length clues ≡ a + b → nin_of limit (first ∷ found) ≡ Ok (orient a b clues)
nin_lines limit a b first found clues sizes non_blank all many =
    rw (non_blank, sizes, all_section_lines limit (a + b) found clues all many, all.parsed) refl

-- In `.non`: the keyword lines, and the lines of both sections.
pub non_lines : (limit : ℕ) (sections : Sections) (kept : List TextLine) (width height : ℕ) (order : Bool) (rows columns : List (List ℕ))
    (p : Nonogram) → sections.stray ≡ None → ReadsAll limit (filter is_non_blank sections.rows) rows
    → ReadsAll limit (filter is_non_blank sections.columns) columns → outline_of limit None kept ≡ Ok ((width, height), order)
    → length rows ≡ height → length columns ≡ width → puzzle_of_clues (width, height) (rows, columns) kept ≡ Ok p
    → build_puzzle limit sections kept ≡ Ok p
non_lines limit sections kept width height order rows columns p stray one two outline high wide parsed = search (order, rules, eq-eqb)
