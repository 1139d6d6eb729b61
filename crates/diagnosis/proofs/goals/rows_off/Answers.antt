-- `rows_off`: one row more.
use Rattle.std.proofs.Common.{arith}
use Rattle.std.proofs.lemmas.Grind.{common_steps}
use Rattle.diagnosis.specs.Goals.{is_row_off}
use Rattle.diagnosis.proofs.Ranges.{filter-range_more}
use Rattle.diagnosis.proofs.goals.rows_off.Goals as goal

pub loop-y-preserved : goal.loop-y-preserved
loop-y-preserved c =
    let more = filter-range_more (is_row_off c.args.goal.now c.args.grid.now) c.loop-y.y in
    grind (arith, common_steps, more)
