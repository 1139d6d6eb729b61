-- `push_grouped_digits`: one digit more.
use Rattle.std.proofs.Common.{arith}
use Rattle.std.proofs.lemmas.Grind.{common_steps}
use Rattle.check_text.specs.Numbers.{grouped_digit}
use Rattle.check_text.proofs.RangeLemmas.{flat_map_more}
use Rattle.check_text.proofs.numbers.push_grouped_digits.Goals as goal

pub loop-index-preserved : goal.loop-index-preserved
loop-index-preserved c =
    let i = c.loop-index.index in
    let more = flat_map_more (grouped_digit c.args.digits.now) 0 i i (omega arith) in
    grind (arith, common_steps, more)
