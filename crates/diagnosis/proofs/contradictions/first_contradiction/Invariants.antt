-- The loop invariant of `first_contradiction`: the rounds before this one show no contradiction.
use Rattle.std.proofs.Common.{◌≡◌, ◌+◌, ◌-◌, length}
use Rattle.solve_core.specs.Report.{unknown_grid}
use Rattle.diagnosis.specs.Contradictions.{contradiction_within, first_contradiction}
use Rattle.diagnosis.specs.Rounds.{AreRoundsOf}
use Rattle.diagnosis.proofs.contradictions.first_contradiction.Given as goal

abbrev pub invariant-loop : goal.invariant-loop
invariant-loop l =
    AreRoundsOf l.puzzle l.rounds
    × (contradiction_within l.puzzle (length (unknown_grid l.puzzle) + 1 - l.counter) l.rounds.grid.cells ≡ first_contradiction l.puzzle)
