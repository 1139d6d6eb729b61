-- The loop of `make_entries`: its invariant is that the capacity stays, and its measure is the number of entries still
-- missing.
use Rattle.line_core.proofs.Names.{◌≡◌, ◌-◌}
use Rattle.std.specs.Prelude.{vec_capacity, vec_len}
use Rattle.line_core.proofs.lookahead_tables.make_entries.Given as goal

abbrev pub invariant-loop-lookaheads : goal.invariant-loop-lookaheads
invariant-loop-lookaheads g l = vec_capacity l.lookaheads ≡ vec_capacity l.initial.lookaheads

abbrev pub decreases-loop-lookaheads : goal.decreases-loop-lookaheads
decreases-loop-lookaheads g l = l.len - vec_len l.lookaheads
