-- The invariant of the loop of `take_round`: the number of lanes, and the jobs dealt to each, are unchanged.
use Rattle.std.proofs.Common.{◌≡◌}
use Rattle.std.specs.VecDeque.{deque_len}
use Rattle.survey_core.specs.steps.Collected.{dealt_jobs}
use Rattle.survey_core.proofs.collecting.take_round.Given as goal

abbrev pub invariant-lanes : goal.invariant-lanes
invariant-lanes l = (dealt_jobs l.lanes.items ≡ dealt_jobs l.fn.lanes.items) × (deque_len l.lanes ≡ l.place-end)
