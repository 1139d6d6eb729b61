-- `spread_into`: extended by half of its length, the level above is spread in full by the level that it is joined to.
use Rattle.std.proofs.Common.{◌≡◌, ◌+◌, ◌^◌, inl, inr, arith}
use Rattle.std.proofs.lemmas.Bool.{cases_lt}
use Rattle.std.proofs.lemmas.Nat.{one_shl}
use Rattle.bit_sets.proofs.Doubling.{step_within, pow_next}
use Rattle.bit_sets.proofs.LevelSteps.{level_set, bits_at}
use Rattle.bit_sets.proofs.levels.spread_into.Goals as goal

pub or_shifted-requires : goal.or_shifted-requires
or_shifted-requires g c =
    step_within c.args.level g.W.BitSet.WIDTH g.W.BitSet.LOG2_WIDTH c.requires g.met.W.BitSet.top_is.1 g.met.W.BitSet.width_is

pub returns : goal.returns
returns g c =
    let bits = g.W.BitSet.bits in
    let levels = c.args.levels.now in
    let level = c.args.level in
    let most = g.met.W.BitSet.top_is.1 in
    let word = bits_at bits levels (level + 1) c.index-levels-level-2.result (omega (arith, c.told-levels, c.requires, most)) in
    let one = one_shl level 16 (omega (arith, c.requires, most)) in
    let set =
    level_set bits levels level level _ _ _ _ _ (2 ^ (level + 1)) (omega arith) (omega (arith, c.told-levels, c.requires, most))
    (omega arith) (omega (arith, pow_next level)) c.or_shifted.ensures c.union.ensures in
    record {
      to = λ i x. elim ((set i).0 x) [ inl y ↦ (y.0, omega (arith, y.1), y.2) | inr y ↦ (level + 1, omega arith, rw word at y) ];
      from = λ i x. (set i).1 (elim (cases_lt x.0 (level + 1)) [
        | inl low ↦ inl (x.0, omega arith, x.2)
        | inr high ↦ (let same : x.0 ≡ level + 1 = omega (arith, x.1) in inr (rw word (rw same at x.2)))
      ]);
    }
