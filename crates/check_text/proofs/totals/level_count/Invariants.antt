-- The invariant of the loop of `level_count`: `count` is how many of the levels passed are the wanted one.
use Rattle.std.proofs.Common.{◌≡◌, take}
use Rattle.check_text.specs.Totals.{level_count}
use Rattle.check_text.proofs.totals.level_count.Given as goal

abbrev pub invariant-loop-level : goal.invariant-loop-level
invariant-loop-level l = l.count ≡ level_count l.wanted (take l.level-index l.levels)
