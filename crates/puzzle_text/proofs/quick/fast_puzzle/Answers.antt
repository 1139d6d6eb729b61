-- `fast_puzzle`: keyword lines and clues that fit the sizes are a puzzle of the sections that have these clues.
use Rattle.puzzle_text.proofs.Names.{map, rules, sym, MAX_SIDE, shown_keyword}
use Rattle.puzzle_text.proofs.ParsedLines.{non_lines}
use Rattle.puzzle_text.proofs.FastLines.{reads_all, ok_of_gives}
use Rattle.puzzle_text.proofs.quick.fast_puzzle.Goals as goal

pub returns : goal.returns
returns c =
    let outline = sym (rw c.deref.ensures.value at c.in_ok-width.ensures.answer) in
    ok_of_gives _ _ _ _ c.puzzle_of_clues.ensures (λ p parsed sections clues.
    non_lines MAX_SIDE sections (map shown_keyword c.args.fast_sections.keyword_lines.items) _ _ _ c.args.fast_sections.rows.items
    c.args.fast_sections.columns.items p clues.stray (reads_all _ _ clues.rows_parsed) (reads_all _ _ clues.columns_parsed) outline
    (search rules)
    (search rules) (rw c.deref-2.ensures.value at parsed))
