-- The loop of `make_rows`: its invariant is that the capacity stays, and its measure is the number of entries still
-- missing.
use Rattle.line_core.proofs.Names.{◌≡◌, ◌+◌, ◌-◌}
use Rattle.std.specs.Prelude.{◌*◌, vec_capacity, vec_len}
use Rattle.line_core.proofs.lookahead_buffers.make_rows.Given as goal

abbrev pub invariant-loop-table : goal.invariant-loop-table
invariant-loop-table g l = vec_capacity l.table ≡ vec_capacity l.initial.table

abbrev pub decreases-loop-table : goal.decreases-loop-table
decreases-loop-table g l = 128 * (l.runs + 1) - vec_len l.table
