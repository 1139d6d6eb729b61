-- `member_value`: what a graded entry has of its puzzle.
use Rattle.check_text.specs.Messages.{puzzle_message}
use Rattle.survey_json.specs.Entries.{if_any}
use Rattle.survey_json.proofs.entries.member_value.Goals as goal

pub returns-in-Ok-result-2 : goal.returns-in-Ok-result-2
returns-in-Ok-result-2 c =
    let graded = c.in-Ok-result-2.graded in
    let message = puzzle_message graded.answer.now.puzzle graded.answer.now.guesses graded.findings.now in
    rw (c.in-Graded.is, c.in-Ok-result-2.is) (c.graded_value.ensures c.args.number _ (if_any message))
