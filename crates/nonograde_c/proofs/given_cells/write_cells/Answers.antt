-- `write_cells`: each byte has its cell written, or stands for none.
use Rattle.std.proofs.Common.{◌∙◌, ◌<◌, arith, length, refl, sym}
use Rattle.std.proofs.lemmas.Iterator.Adapters.{option_map_id}
use Rattle.std.proofs.lemmas.List.{length-set}
use Rattle.puzzle_text.specs.Answers.{each_some}
use Rattle.nonograde_c.specs.GivenCells.{cell_from_byte}
use Rattle.nonograde_c.proofs.GivenLemmas.{all_written, none_written, written_next}
use Rattle.nonograde_c.proofs.given_cells.write_cells.Goals as goal

pub loop-index-init : goal.loop-index-init
loop-index-init c =
    record {
      cells = option_map_id (each_some cell_from_byte c.args.bytes.now);
      count = c.requires;
      width = refl;
      height = refl;
    }

pub returns-in_default-clause-cells : goal.returns-in_default-clause-cells
returns-in_default-clause-cells c =
    none_written c.loop-index.grid.cells c.args.bytes.now c.loop-index.index c.loop-index-test.true
    (sym c.in_default.is ∙ c.cell_from_byte.ensures)
    ∙ c.loop-index.invariant.cells

pub returns-in_default-clause-width : goal.returns-in_default-clause-width
returns-in_default-clause-width c = c.loop-index.invariant.width

pub returns-in_default-clause-height : goal.returns-in_default-clause-height
returns-in_default-clause-height c = c.loop-index.invariant.height

pub set_index-requires : goal.set_index-requires
set_index-requires c = omega (arith, c.loop-index-test.true, c.loop-index.invariant.count)

pub loop-index-preserved : goal.loop-index-preserved
loop-index-preserved c =
    let grid = c.loop-index.grid in
    let fits : c.loop-index.index < length grid.cells = omega (arith, c.loop-index-test.true, c.loop-index.invariant.count) in
    let is = sym c.in-Some.is ∙ c.cell_from_byte.ensures in
    let cells = written_next grid.cells c.args.bytes.now c.loop-index.index c.in-Some.cell c.loop-index-test.true fits is in
    rw c.set_index.ensures
    (record {
      cells = cells ∙ c.loop-index.invariant.cells;
      count = simp length-set c.loop-index.invariant.count;
      width = c.loop-index.invariant.width;
      height = c.loop-index.invariant.height;
    })

pub returns-clause-cells : goal.returns-clause-cells
returns-clause-cells c =
    all_written c.loop-index.grid.cells c.args.bytes.now c.loop-index.index (omega (arith, c.loop-index-test.false)) c.loop-index.invariant.count
    ∙ c.loop-index.invariant.cells

pub returns-clause-width : goal.returns-clause-width
returns-clause-width c = c.loop-index.invariant.width

pub returns-clause-height : goal.returns-clause-height
returns-clause-height c = c.loop-index.invariant.height
