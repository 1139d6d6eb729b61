-- The invariant of the loop of `send_waiting`: the jobs sent so far, followed by those left, are those that waited.
use Rattle.lane_core.proofs.Names.{◌≡◌, ◌↔◌, IsTrue, Grows}
use Rattle.std.specs.VecDeque.{deque_capacity, deque_len}
use Rattle.lane_core.proofs.DealingLemmas.{SentSoFar}
use Rattle.lane_core.proofs.dealing.send_waiting.Given as goal

abbrev pub invariant-loop-job : goal.invariant-loop-job
invariant-loop-job g l =
    let lists = g.L.Lane.lists in
    record {
      lane : g.L.Lane.same_lane l.fn.lane l.lane;
      so_far : SentSoFar (lists l.fn.lane) (lists l.lane) l.fn.waiting.items l.waiting.items;
      moved : IsTrue l.any ↔ Grows (lists l.fn.lane) (lists l.lane);
      capacity : deque_capacity l.waiting ≡ deque_capacity l.fn.waiting;
    }

abbrev pub decreases-loop-job : goal.decreases-loop-job
decreases-loop-job g l = deque_len l.waiting
