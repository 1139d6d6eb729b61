-- The loop of `set_fields`: the texts so far, with the fields to come set, are the texts with all fields set.
use Rattle.puzzle_text.proofs.Names.{◌≡◌, drop, map, shown_keyword}
use Rattle.puzzle_text.specs.steps.Non.{with_all_found}
use Rattle.puzzle_text.proofs.descriptions.set_fields.Given as goal

abbrev pub invariant-loop-field : goal.invariant-loop-field
invariant-loop-field l =
    with_all_found (map shown_keyword l.lines) l.texts (drop l.field-index l.fields)
    ≡ with_all_found (map shown_keyword l.lines) l.fn.texts l.fields
