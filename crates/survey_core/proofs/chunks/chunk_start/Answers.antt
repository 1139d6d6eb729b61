-- `chunk_start`: each chunk has at least as many items as the division gives.
use Rattle.std.proofs.Common.{◌≡◌, ℕ, ◌+◌, ◌-◌, ◌*◌, ◌/◌, ◌<◌, ◌≤◌, arith, div-mul-le_self, mul-add, mul_comm}
use Rattle.std.proofs.lemmas.Nat.{le-div, mul-le}
use Rattle.survey_core.proofs.chunks.chunk_start.Goals as goal

share : (count chunks least : ℕ) → 0 < chunks → chunks * least ≤ count → least ≤ count / chunks
share count chunks least some fits = le-div least count chunks some (omega (arith, mul_comm chunks least, fits))

-- the chunks behind `front` ones have what these leave
left : (count each behind front least : ℕ) → each * (behind + front) ≤ count → least ≤ each → behind * least ≤ count - each * front
left count each behind front least whole low =
    omega (arith, mul-le behind least behind each (omega arith) low, mul-add each behind front, whole)

pub returns-clause-front : goal.returns-clause-front
returns-clause-front c = λ least fits.
    let each = c.args.count / c.args.chunks in
    omega (arith, mul-le c.args.some least c.args.some each (omega arith) (share _ _ least c.requires.1 fits))

pub returns-clause-behind : goal.returns-clause-behind
returns-clause-behind c = λ least fits.
    let whole : c.args.chunks - c.args.some + c.args.some ≡ c.args.chunks = omega (arith, c.requires.0) in
    left c.args.count (c.args.count / c.args.chunks) (c.args.chunks - c.args.some) c.args.some least
    (rw whole (div-mul-le_self c.args.count c.args.chunks)) (share _ _ least c.requires.1 fits)
