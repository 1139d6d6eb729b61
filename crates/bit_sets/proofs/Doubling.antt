-- Fit tables: how one is extended by a level, and which level a length has.
use Rattle.std.proofs.Common.{◌≡◌, ℕ, ◌+◌, ◌*◌, ◌^◌, ◌%◌, ◌<◌, ◌≤◌, List, length, get_or, set, map, arith, get_or-set_same, get_or-set_other}
use Rattle.std.proofs.lemmas.List.{get_or-map, map-set, length-map}
use Rattle.std.proofs.lemmas.Nat.{pow-add, pow_below, one_shl}
use Rattle.std.proofs.Math.Pow.{pow_mono}
use Rattle.bit_sets.specs.Masks.{Has, IsMaskOf, AllFrom}
use Rattle.bit_sets.proofs.Steps.{widen}

-- the next power of two is twice this one
pub pow_next : (k : ℕ) → 2 ^ (k + 1) ≡ 2 ^ k + 2 ^ k
pow_next k = omega (arith, pow-add 2 k 1)

-- a fit table that is correct up to a level is correct up to the next one after that is set
pub fits_more : {A : Type 0} (bits : A → ℕ) (mask : ℕ) (xs : List A) (level by : ℕ) (d y : A) → level + 1 < length xs → by ≡ 2 ^ level
    → IsMaskOf (λ i. Has (bits (get_or xs level d)) i × Has (bits (get_or xs level d)) (i + by)) (bits y)
    → ((k : ℕ) → k ≤ level → IsMaskOf (AllFrom (Has mask) (2 ^ k)) (get_or (map bits xs) k 0))
    → (k : ℕ) → k ≤ level + 1 → IsMaskOf (AllFrom (Has mask) (2 ^ k)) (get_or (map bits (set xs (level + 1) y)) k 0)
fits_more bits mask xs level by d y l e h inv k b =
    let was = get_or-map bits xs level d 0 (omega arith) in
    let now : IsMaskOf (AllFrom (Has mask) (2 ^ (level + 1))) (bits y) =
    widen _ _ _ _ _ _ (rw was at (inv level (omega arith))) h (omega arith) (omega (arith, pow_next level)) in
    rw (map-set bits xs (level + 1) y) (grind (arith, inv k, now, get_or-set_same, get_or-set_other, length-map))

-- the level of a number that is at most `2 ^ top` is at most `top`
pub level_within : (level n width top : ℕ) → 2 ^ level ≤ n → n ≤ width → width ≡ 2 ^ top → level ≤ top
level_within level n width top h b e = grind (arith, pow_below)

-- `2 ^ level` is less than the width if the level is less than the top one
pub step_within : (level width top : ℕ) → level < top → top ≤ 8 → width ≡ 2 ^ top → 1 * 2 ^ level % 65536 < width
step_within level width top l t e = omega (arith, one_shl level 16 (omega arith), pow_below level top l)

-- the width is greater than 1
pub one_within : (width top : ℕ) → 1 ≤ top → width ≡ 2 ^ top → 1 < width
one_within width top h e = omega (arith, pow_below 0 top (omega arith))

-- the width is at most 256
pub width_most : (width top : ℕ) → top ≤ 8 → width ≡ 2 ^ top → width ≤ 256
width_most width top h e = let most : 2 ^ top ≤ 2 ^ 8 = pow_mono h in omega arith
