-- `max_cached`: the quotient is at least 1, since sets have at most 256 indices.
use Rattle.solve_core.proofs.Names.{◌≡◌, ℕ, ◌+◌, ◌*◌, ◌<◌, ◌≤◌, arith, one_within, width_most}
use Rattle.solve_core.proofs.deducing.deduction_cache.max_cached.Goals as goal

positive : (q w r n : ℕ) → n ≡ q * w + r → r < w → w ≤ 256 → 256 ≤ n → 1 ≤ q
positive q w r n h k l m = grind arith

pub returns : goal.returns
returns g c = grind (arith, width_most, one_within, c.from.ensures, c.WIDTH.ensures, positive, c.min.ensures)
