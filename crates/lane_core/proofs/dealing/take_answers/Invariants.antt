-- The invariant of the loop of `take_answers`: the answers received so far are at the end of `got`.
use Rattle.std.proofs.Common.{◌≡◌, ◌<◌, ◌↔◌, IsTrue, vec_capacity}
use Rattle.lane_core.proofs.DealingLemmas.{TakenSoFar}
use Rattle.lane_core.proofs.dealing.take_answers.Given as goal

abbrev pub invariant-loop : goal.invariant-loop
invariant-loop g l =
    let lists = g.L.Lane.lists in
    record {
      lane : g.L.Lane.same_lane l.fn.lane l.lane;
      so_far : TakenSoFar (lists l.fn.lane) (lists l.lane) l.fn.got.items l.got.items l.counter;
      moved : IsTrue l.any ↔ (0 < l.counter);
      capacity : vec_capacity l.got ≡ vec_capacity l.fn.got;
    }
