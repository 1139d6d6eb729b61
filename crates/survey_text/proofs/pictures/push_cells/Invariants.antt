-- The invariant of the loop of `push_cells`: the first `8 * _part` cells are appended, and the sets are shifted down by as many.
use Rattle.std.proofs.Common.{◌≡◌, ℕ, ◌+◌, ◌*◌, ◌++◌, map}
use Rattle.grid_core.specs.Lines.{line_cells}
use Rattle.bit_sets.specs.Masks.{has}
use Rattle.survey_text.specs.Grids.{cell_byte}
use Rattle.survey_text.proofs.pictures.push_cells.Given as goal

abbrev pub invariant-loop-part : goal.invariant-loop-part
invariant-loop-part g l =
    let bits = g.W.BitSet.bits in
    record {
      added : l.text.items ≡
          l.initial.text.items ++ map cell_byte (line_cells (l._part * 8) (bits l.initial.filled) (bits l.initial.blank));
      filled : (k : ℕ) → has (bits l.filled) k ≡ has (bits l.initial.filled) (k + l._part * 8);
      blank : (k : ℕ) → has (bits l.blank) k ≡ has (bits l.initial.blank) (k + l._part * 8);
    }
