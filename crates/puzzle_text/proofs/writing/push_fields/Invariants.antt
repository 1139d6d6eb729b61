-- The loop of `push_fields`: the lines of the fields so far are written.
use Rattle.puzzle_text.proofs.Names.{◌≡◌, ◌++◌, take, flat_map, text_of, field_word, quoted_line}
use Rattle.puzzle_text.proofs.writing.push_fields.Given as goal

abbrev pub invariant-loop-field : goal.invariant-loop-field
invariant-loop-field l =
    l.out.items ≡ l.fn.out.items ++ flat_map (λ field. quoted_line (field_word field) (text_of l.texts field)) (take l.field-index l.fields)
