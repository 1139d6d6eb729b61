-- `ConsistentColours::add_rows`: a colour is added at a row only where the closed grid has it.
use Rattle.solve_core.proofs.Names.{◌<◌, ◌∙◌, inl, inr, length, length-set, sym, arith, true≢false}
use Rattle.line_core.proofs.GapRows.{mask_less}
use Rattle.solve_core.specs.steps.Boards.{board_without_trail}
use Rattle.solve_core.proofs.ConsistencyLaws.{all_consistent}
use Rattle.solve_core.proofs.records.consistent.ConsistentColours.add_rows.Goals as goal

pub loop-left-preserved : goal.loop-left-preserved
loop-left-preserved g c =
    let rows = c.loop-left.self-inside.rows.items in
    let ly : c.from.result < length rows =
    omega (arith, c.loop-left.invariant.left _ c.first_index-y.ensures.in_mask, c.loop-left.invariant.count) in record {
      left = λ y h. elim (c.with_bit-left.ensures.to y h) [
        | inl was ↦ c.loop-left.invariant.left y was.0
        | inr new ↦ absurd (true≢false (sym new.1))
      ];
      count = length-set rows _ _ ∙ c.loop-left.invariant.count;
      consistent = λ p cells wide closed more before.
          all_consistent p rows c.index_mut.result.now c.add_line.new.self c.line.result.now (board_without_trail c.args.lines.now)
          c.from.result cells
          (rw (← wide) c.line.ensures.whole.0.width_from) (c.loop-left.invariant.consistent p cells wide closed more before) ly
          c.index_mut.ensures.value wide closed more (rw c.from.ensures c.line.ensures.cells) c.add_line.ensures.only;
    }

pub loop-left-smaller : goal.loop-left-smaller
loop-left-smaller g c = mask_less _ _ _ c.first_index-y.ensures.in_mask c.with_bit-left.ensures
