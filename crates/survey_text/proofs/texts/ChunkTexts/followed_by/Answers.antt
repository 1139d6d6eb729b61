-- `ChunkTexts::followed_by`: the texts of the others follow, and the totals are added.
use Rattle.std.proofs.Common.{refl, rules, map}
use Rattle.std.proofs.lemmas.List.{map-append}
use Rattle.survey_text.specs.Forms.{without_text}
use Rattle.survey_text.proofs.FormLemmas.{few_without_text}
use Rattle.survey_text.proofs.PrintedLemmas.{both_chunks}
use Rattle.survey_text.proofs.texts.ChunkTexts.followed_by.Goals as goal

pub returns : goal.returns
returns c = λ form first entries behind these those few.
    both_chunks form first entries behind c.args.self c.args.others _ these those (search rules) refl
    (rw (map-append without_text entries behind)
    (c.add.ensures (map without_text entries) (map without_text behind) these.totals those.totals (few_without_text entries behind few)))
