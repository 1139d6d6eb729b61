-- Puzzles that are written in `.mk` and in `.nin` are read again.
use Rattle.puzzle_text.proofs.Names.{flat_map-map, rules, ◌≡◌, ℕ, ◌≤◌, List, [], ◌∷◌, ◌++◌, length, map, refl, append_assoc, arith, Ok, flat_map, AllByRecursion, append-nil, length-append, flat_map-append, Nonogram, plain, IsNonogramWithin, mk_of, read_mk, clue_text, text_mk, all-append, inr, true, false, ◌∙◌, eqb-true, is_clue, oriented_puzzle, orient, nin_of, read_nin, text_nin, is_ambiguous, take-append_seam, drop-append_seam}
use Rattle.puzzle_text.proofs.ParsedLines.{mk_lines, short_lines, nin_lines}
use Rattle.puzzle_text.proofs.ReadBack.{with_feed, numbered, lines_kept, IsKept, kept_clues, numbered-append, reads_clues, some_sizes, kept_sizes, sizes_are, length_within}

-- the lines of the puzzle's text in `.mk`
abbrev pub texts_mk : Nonogram → List (List ℕ)
texts_mk p = clue_text 32 (p.height ∷ p.width ∷ []) ∷ (map (clue_text 32) p.rows ++ (35 ∷ []) ∷ map (clue_text 32) p.columns)

text_is : (p : Nonogram) → flat_map with_feed (texts_mk p) ≡ text_mk p
text_is p = search (rules, flat_map-append, flat_map-map, append_assoc, append-nil)

-- the lines of the puzzle's text in `.nin`
abbrev pub texts_nin : Nonogram → List (List ℕ)
texts_nin p = clue_text 32 (p.width ∷ p.height ∷ []) ∷ map (clue_text 32) (p.rows ++ p.columns)

nin_is : (p : Nonogram) → flat_map with_feed (texts_nin p) ≡ text_nin p
nin_is p = search (rules, flat_map-append, flat_map-map, append_assoc, append-nil)

module _ (limit : ℕ) (p : Nonogram) (wide : limit ≤ 256) (lawful : IsNonogramWithin limit p) where
  abbrev high : (1 ≤ p.height) × (p.height ≤ limit)
  high = (lawful.size.height_from, lawful.size.height_to)

  abbrev across : (1 ≤ p.width) × (p.width ≤ limit)
  across = (lawful.size.width_from, lawful.size.width_to)

  kept_mk : AllByRecursion IsKept (texts_mk p)
  kept_mk = (kept_sizes limit _ _ (omega arith) high across, search (rules, all-append, kept_clues 32 limit))

  -- The lines of a written puzzle are read as that puzzle.
  mk_again : mk_of limit (numbered 1 (texts_mk p)) ≡ Ok (plain p.width p.height p.rows p.columns)
  mk_again =
      rw (numbered-append 2 (map (clue_text 32) p.rows) ((35 ∷ []) ∷ map (clue_text 32) p.columns))
      (mk_lines limit p.width p.height _ _ _ _ p.rows p.columns (sizes_are limit p.height p.width (omega arith) high across)
      (some_sizes limit p.height p.width (omega arith) high across) refl
      (reads_clues 32 limit 2 p.rows (inr refl) (omega arith) lawful.rows)
      (reads_clues 32 limit _ p.columns (inr refl) (omega arith) lawful.columns) lawful.clues.0 lawful.clues.1)

  -- The text in `.mk` is short enough to be read.
  pub length_mk : length (text_mk p) ≤ 1048576
  length_mk = search (rules, length-append, length_within limit p.height p.width p.rows p.columns)

  -- A puzzle written in `.mk` is read again without its texts and its goal.
  pub mk_read_again : read_mk limit (text_mk p) ≡ Ok (plain p.width p.height p.rows p.columns)
  mk_read_again = rw (short_lines (text_mk p) length_mk, ← text_is p, lines_kept 1 (texts_mk p) kept_mk) mk_again

  abbrev clues : List (List ℕ)
  clues = p.rows ++ p.columns

  all_lawful : AllByRecursion (λ clue. is_clue limit clue ≡ true) clues
  all_lawful = all-append (λ clue. is_clue limit clue ≡ true) p.rows p.columns lawful.rows lawful.columns

  kept_nin : AllByRecursion IsKept (texts_nin p)
  kept_nin =
      let sizes = kept_sizes limit _ _ (omega arith) across high in
      (sizes, kept_clues 32 limit _ (inr refl) (omega arith) all_lawful)

  -- The lines of a written puzzle are read as its clues, with the sizes in the order that `orient` chooses.
  nin_again : nin_of limit (numbered 1 (texts_nin p)) ≡ Ok (orient p.width p.height clues)
  nin_again =
      nin_lines limit p.width p.height _ _ clues (sizes_are limit p.width p.height (omega arith) across high)
      (some_sizes limit p.width p.height (omega arith) across high) (reads_clues 32 limit 2 clues (inr refl) (omega arith) all_lawful)
      (omega (arith, length-append p.rows p.columns, lawful.clues.0, lawful.clues.1))

  -- The text in `.nin` is short enough to be read.
  pub length_nin : length (text_nin p) ≤ 1048576
  length_nin = search (rules, length-append, length_within limit p.width p.height p.rows p.columns)

  -- A puzzle written in `.nin` is read as its clues, with the sizes in the order that `orient` chooses.
  oriented_read : read_nin limit (text_nin p) ≡ Ok (orient p.width p.height clues)
  oriented_read = rw (short_lines (text_nin p) length_nin, ← nin_is p, lines_kept 1 (texts_nin p) kept_nin) nin_again

  -- A puzzle written in `.nin` that isn't ambiguous is read again without its texts and its goal.
  pub nin_read_again : is_ambiguous p ≡ false → read_nin limit (text_nin p) ≡ Ok (plain p.width p.height p.rows p.columns)
  nin_read_again clear = oriented_read ∙ search (rules, eqb-true, take-append_seam, drop-append_seam)

  -- The text of an ambiguous puzzle is read with its sizes exchanged.
  pub nin_read_otherwise : is_ambiguous p ≡ true → read_nin limit (text_nin p) ≡ Ok (oriented_puzzle p.height p.width (p.rows ++ p.columns))
  nin_read_otherwise ambiguous = oriented_read ∙ search (rules, take-append_seam, drop-append_seam)
