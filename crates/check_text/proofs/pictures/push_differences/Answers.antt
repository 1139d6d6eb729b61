-- `push_differences`: one column more.
use Rattle.std.proofs.Common.{ℕ, ◌+◌, refl, arith}
use Rattle.std.proofs.lemmas.Grind.{common_steps}
use Rattle.std.proofs.lemmas.List.FromFn.{map-range_with_len_more}
use Rattle.grid_core.specs.PartialGrid.{cell_at}
use Rattle.check_text.specs.Pictures.{difference_byte}
use Rattle.check_text.proofs.pictures.push_differences.Goals as goal

pub loop-step-preserved : goal.loop-step-preserved
loop-step-preserved c =
    let start = c.args.window.column in
    let i = c.loop-step.step in
    let more = map-range_with_len_more (λ (x : ℕ). difference_byte (cell_at c.args.first.now x c.args.y) (cell_at c.args.second.now x c.args.y)) start i (start + i) refl in
    grind (arith, common_steps, more)
