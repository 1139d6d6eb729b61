-- `report_text`: the line is that of the answer to the job, which has the puzzle, the settings and the findings on it.
use Rattle.std.proofs.Common.{◌∙◌, ◌++◌, ℕ, List, ap}
use Rattle.survey_text.specs.Listed.{form_entry}
use Rattle.survey_json.specs.Entries.{object_of}
use Rattle.survey_json.specs.Lines.{line_of}
use Rattle.nonograde_c.proofs.AnswerLemmas.{line_reported}
use Rattle.nonograde_c.proofs.json_reports.report_text.Goals as goal

pub returns : goal.returns
returns c =
    let entry = form_entry c.in_ok-entry.entry in
    c.in_ok-push_json_line.ensures.line
    ∙ ap (λ (text : List ℕ). text ++ line_of (object_of 1 entry)) c.new-line.ensures.items
    ∙ line_reported c.args.name.now c.args.body.now c.args.guesses c.args.pick c.args.puzzle entry c.new.result c.grade-answer.result
    c.new.ensures.puzzle c.new.ensures.guesses c.new.ensures.pick c.grade-answer.ensures c.in_ok-entry.ensures.report
    c.in_ok-entry.ensures.listed
