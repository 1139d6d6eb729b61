-- `goal_word_beside`: a goal meets the clues exactly if it shows the only solution.
use Rattle.std.proofs.Common.{ap, refl, ◌∙◌}
use Rattle.grid_core.specs.declared.puzzles.GoalWord.TheVariants as word
use Rattle.survey_text.specs.Goals.{word_of_goal}
use Rattle.survey_text.proofs.GoalLemmas.{meets_where_shown, word_is}
use Rattle.survey_text.proofs.goals.goal_word_beside.Goals as goal

pub returns-then-is_shown : goal.returns-then-is_shown
returns-then-is_shown c =
    let p = c.args.puzzle.now in
    let size = rw (← c.in-Some.ensures.goal) at c.in-Some.ensures.size in
    let meets = meets_where_shown p c.args.solution.now c.in-Some.values.now c.requires c.width.ensures.size.width_from
    c.width.ensures.cells size in
    word_is p c.in-Some.values.now word.Meets (λ e. cc) (λ _. meets.0 (c.is_shown.ensures.0 c.if-is_shown.true), λ _. refl)
    ∙ ap (word_of_goal p) c.in-Some.ensures.goal

pub returns-else-is_shown : goal.returns-else-is_shown
returns-else-is_shown c =
    let p = c.args.puzzle.now in
    let size = rw (← c.in-Some.ensures.goal) at c.in-Some.ensures.size in
    let meets = meets_where_shown p c.args.solution.now c.in-Some.values.now c.requires c.width.ensures.size.width_from
    c.width.ensures.cells size in
    word_is p c.in-Some.values.now word.Misses (λ e. cc) (λ e. cc, λ met. let bad = c.is_shown.ensures.1 (meets.1 met) in cc)
    ∙ ap (word_of_goal p) c.in-Some.ensures.goal
