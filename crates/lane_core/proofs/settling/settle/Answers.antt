-- `settle`: looking at both ends of each ring shows what is in it; so a lane that is settled is drained.
use Rattle.lane_core.proofs.Names.{arith, known_items, IsDrained, front_lists, back_lists}
use Rattle.lane_core.proofs.AnswersLemmas.{back_is_answered}
use Rattle.lane_core.proofs.SettlingLemmas.{first_are_answered, finished_is_drained, drained_answers}
use Rattle.lane_core.proofs.settling.settle.Goals as goal

pub returns-then-not-back-clause-answers : goal.returns-then-not-back-clause-answers
returns-then-not-back-clause-answers c =
    first_are_answered (front_lists c.args.front) (back_lists c.args.back)
    (known_items c.slots_beside.new.self, cc) (known_items c.slots_beside-waiting.new.self, cc) (back_is_answered c.args.back)

pub returns-then-waiting-gt0-clause-answers : goal.returns-then-waiting-gt0-clause-answers
returns-then-waiting-gt0-clause-answers c =
    first_are_answered (front_lists c.args.front) (back_lists c.args.back)
    (known_items c.slots_beside.new.self, cc) (known_items c.slots_beside-waiting.new.self, cc) (back_is_answered c.args.back)

-- where `settle` succeeds, the lane is drained
is_drained : (c : goal.After-drop-front-2) → IsDrained (front_lists c.args.front) (back_lists c.args.back)
is_drained c =
    finished_is_drained (front_lists c.args.front) (back_lists c.args.back)
    (known_items c.slots_beside.new.self, cc) (known_items c.slots_beside-waiting.new.self, cc)
    (omega arith) c.args.front.last (cc) (c.args.back.free c.if-not-back.false)

pub returns-clause-cases : goal.returns-clause-cases
returns-clause-cases c = (cc, is_drained c)

pub returns-clause-answers : goal.returns-clause-answers
returns-clause-answers c =
    drained_answers (front_lists c.args.front) (back_lists c.args.back) (is_drained c) (back_is_answered c.args.back)
