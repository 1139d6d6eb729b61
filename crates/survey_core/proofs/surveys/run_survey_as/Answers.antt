-- `run_survey_as`: the input was read to its end, so the survey of its entries is the survey of the input.
use Rattle.std.proofs.Common.{◌≡◌, ◌<◌, Ok, map, arith, vec_len}
use Rattle.std.proofs.KnownBytes.{Consumes-whole}
use Rattle.puzzle_text.specs.Collections.{cut}
use Rattle.puzzle_text.specs.Shown.{shown_entry}
use Rattle.puzzle_text.specs.declared.limits.TheConstants.{MAX_COLLECTION_LEN}
use Rattle.survey_core.proofs.surveys.run_survey_as.Goals as goal

pub returns-in-Ok-entries-clause-answer : goal.returns-in-Ok-entries-clause-answer
returns-in-Ok-entries-clause-answer g c =
    let long : MAX_COLLECTION_LEN < vec_len c.in-Ok.collection → ⊥ =
    λ long. let bad = c.in-Ok-entries.ensures.too_long (omega (arith, c.deref.ensures.len)) in cc in
    let pieces : cut c.in-Ok.collection.items ≡ Ok (map shown_entry c.in-Ok-entries.entries.items) =
    rw c.deref.ensures.value at c.in-Ok-entries.ensures.answer in
    Consumes-whole _ _ c.in-Ok.collection.items _ c.in-Ok.ensures.bytes (c.in-Ok.ensures.whole (omega (arith, long)))
    (rw (pieces, ← c.deref-in-Ok-entries.ensures.value) c.write_survey.ensures.answer)
