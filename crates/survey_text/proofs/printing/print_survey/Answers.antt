-- `print_survey`: the entries listed are all outcomes, and the form of text prints their survey.
use Rattle.std.proofs.Common.{◌≡◌, ℕ, List, ◌++◌, map, ap, ◌∙◌}
use Rattle.survey_text.specs.Entries.{shown_outcome}
use Rattle.survey_text.specs.Forms.{without_text}
use Rattle.survey_text.specs.Survey.{survey_text}
use Rattle.survey_text.specs.Totals.{totals_line}
use Rattle.survey_text.proofs.FormLemmas.{text_in-text, without_text-outcomes}
use Rattle.survey_text.proofs.ListingLemmas.{listed_in_hand}
use Rattle.survey_text.proofs.printing.print_survey.Goals as goal

pub returns : goal.returns
returns c =
    let listed = c.in_ok-text.ensures in
    let all = map without_text listed.0 in
    let shown : all ≡ map shown_outcome c.args.outcomes.now =
    ap (map without_text) (listed_in_hand c.args.outcomes.now listed.0 listed.1) ∙ without_text-outcomes c.args.outcomes.now in
    c.in_ok-push_tail.ensures all listed.2.totals ∙ ap (λ (text : List ℕ). text ++ totals_line all) listed.2.text
    ∙ text_in-text c.args.show listed.0 ∙ ap (survey_text c.args.show) shown
