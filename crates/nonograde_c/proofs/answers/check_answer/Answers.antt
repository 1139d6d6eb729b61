-- `check_answer`: the findings are those by the guess rule and the format with these numbers.
use Rattle.std.proofs.Common.{◌∙◌, sym}
use Rattle.nonograde_c.proofs.CheckLemmas.{check_answer-is}
use Rattle.nonograde_c.proofs.answers.check_answer.Goals as goal

pub returns-clause-answer : goal.returns-clause-answer
returns-clause-answer c =
    let rule = sym c.in-Some.is ∙ c.pick_within.ensures.rule in
    let numbered = sym c.in-Some-format_from_number.is ∙ c.format_from_number.ensures in
    check_answer-is c.args.guesses c.args.pick c.args.format c.args.name.now c.args.text.now c.in-Some.pick
    c.in-Some-format_from_number.format _ rule numbered c.in_ok-check_text.ensures
