-- The loop invariant of `joined_rows`: the rows so far, before the rows of the bytes that are left.
use Rattle.std.proofs.Common.{◌≡◌, ◌++◌, ◌-◌, option_map}
use Rattle.nonograde_c.specs.GivenCells.{joined_rows}
use Rattle.nonograde_c.proofs.given_cells.joined_rows.Given as goal

abbrev pub invariant-loop-y : goal.invariant-loop-y
invariant-loop-y l =
    option_map (λ more. l.rows.items ++ more) (joined_rows l.width (l.height - l._y) l.rest) ≡ joined_rows l.width l.height l.bytes
