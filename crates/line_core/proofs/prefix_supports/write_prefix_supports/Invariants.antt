-- The invariant of the loop of `write_prefix_supports`: the rows for up to `j` runs hold their prefix supports.
use Rattle.line_core.proofs.Names.{AreRowsTo, ◌≡◌, nat_eq, not, length}
use Rattle.line_core.proofs.prefix_supports.write_prefix_supports.Given as goal

abbrev pub ghost-write_first : goal.ghost-write_first
ghost-write_first g a = g.line

abbrev pub ghost-write_row : goal.ghost-write_row
ghost-write_row g a = g.line

abbrev pub invariant-loop-j : goal.invariant-loop-j
invariant-loop-j g l =
    record { size : length l.table ≡ length l.fn.table; rows : AreRowsTo (not (nat_eq g.row.MIRRORED 0)) g.line l.clue l.j l.table }
