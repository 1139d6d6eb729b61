-- `goal_of`: the word that `grid_core` returns for a goal is the one of the definition.
use Rattle.std.proofs.Common.{◌∙◌, ap}
use Rattle.survey_text.proofs.GoalLemmas.{word_of_goal_is}
use Rattle.nonograde_c.specs.Facts.{goal_number}
use Rattle.nonograde_c.proofs.facts.goal_of.Goals as goal

pub returns : goal.returns
returns c =
    let puzzle = c.args.puzzle.now in
    c.goal_number.ensures
    ∙ ap goal_number (word_of_goal_is puzzle puzzle.goal c.goal_word.result c.goal_word.ensures.absent c.goal_word.ensures.meets)
