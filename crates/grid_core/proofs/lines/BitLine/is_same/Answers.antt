-- `BitLine::is_same`: lines of different lengths are not the same.
use Rattle.grid_core.proofs.Names.{arith, ap, length, nat_tests}
use Rattle.grid_core.proofs.LineCells.{length_seen}
use Rattle.grid_core.proofs.lines.BitLine.is_same.Goals as goal

pub returns-else-other-self : goal.returns-else-other-self
returns-else-other-self g c = (λ t. grind (arith, nat_tests), λ s. let e = ap length s in grind (arith, nat_tests, length_seen))
