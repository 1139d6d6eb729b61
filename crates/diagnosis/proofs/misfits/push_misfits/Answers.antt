-- `push_misfits`: one line more.
use Rattle.std.proofs.Common.{arith}
use Rattle.std.proofs.lemmas.Grind.{common_steps}
use Rattle.std.proofs.lemmas.Bool.Decides.{nat_tests}
use Rattle.std.proofs.lemmas.List.FromFn.{filter_of_map_range_with_len_more}
use Rattle.diagnosis.specs.Misfits.{fit_of, is_misfit}
use Rattle.diagnosis.proofs.misfits.push_misfits.Goals as goal

pub loop-index-preserved : goal.loop-index-preserved
loop-index-preserved c =
    let i = c.loop-index.index in
    let more = filter_of_map_range_with_len_more is_misfit (fit_of c.args.axis c.args.puzzle.now) 0 i i (omega arith) in
    grind (arith, common_steps, nat_tests, more)
