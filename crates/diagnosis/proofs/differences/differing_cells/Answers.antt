-- `differing_cells`: one cell more.
use Rattle.std.proofs.Common.{arith}
use Rattle.std.proofs.lemmas.Grind.{common_steps}
use Rattle.std.proofs.lemmas.List.FromFn.{filter_of_map_range_with_len_more}
use Rattle.diagnosis.specs.Differences.{is_different, position_at}
use Rattle.diagnosis.proofs.differences.differing_cells.Goals as goal

pub loop-index-preserved : goal.loop-index-preserved
loop-index-preserved c =
    let i = c.loop-index.index in
    let more = filter_of_map_range_with_len_more (is_different c.args.first.now c.args.second.now) (position_at c.args.first.now.width) 0 i i (omega arith) in
    grind (arith, common_steps, more)
