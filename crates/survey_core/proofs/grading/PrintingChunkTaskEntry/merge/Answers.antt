-- `merge` of `Printing`: the chunks of two lists of entries, one after the other, are the chunks of both.
use Rattle.std.proofs.Common.{◌≡◌, ◌+◌, ◌++◌, ◌<◌, ◌^◌, length, ap, arith}
use Rattle.survey_core.specs.GuessSettings.{guess_settings}
use Rattle.survey_core.specs.steps.Graded.{surveyed_all}
use Rattle.survey_core.proofs.ParsingLemmas.{answers_behind, answers_in_front, surveyed_both, surveyed_count, when_ok}
use Rattle.survey_core.proofs.grading.PrintingChunkTaskEntry.merge.Goals as goal

pub returns : goal.returns
returns g c = λ first xs ys front behind.
    let printing = c.args.self.now in
    let guesses = guess_settings printing.settings.now in
    let faults = printing.faults.now in
    let answers = printing.answers.now in
    let these = surveyed_all guesses xs in
    let those = surveyed_all guesses ys in
    let number : first + 1 + length these ≡ first + length xs + 1 = omega (arith, surveyed_count guesses xs) in
    when_ok _ _ c.followed_by.result (λ are.
    let few : length (these ++ those) < 2 ^ 31 =
    omega (arith, are.few, surveyed_count guesses (xs ++ ys), ap length (surveyed_both guesses xs ys)) in
    rw (surveyed_both guesses xs ys) (c.followed_by.ensures (g.F.SurveyForm.form printing.form.now) (first + 1) these those
    (front (answers_in_front guesses faults answers first xs ys are))
    (rw number (behind (answers_behind guesses faults answers first xs ys are))) few))
