-- The invariant of the loop of `take_turns`: the number of lanes, and the jobs dealt to each, are unchanged.
use Rattle.std.proofs.Common.{◌≡◌}
use Rattle.std.specs.VecDeque.{deque_len}
use Rattle.survey_core.specs.steps.Collected.{dealt_jobs}
use Rattle.survey_core.proofs.collecting.take_turns.Given as goal

abbrev pub invariant-rounds : goal.invariant-rounds
invariant-rounds g l = (dealt_jobs l.lanes.items ≡ dealt_jobs l.fn.lanes.items) × (deque_len l.lanes ≡ deque_len l.fn.lanes)
