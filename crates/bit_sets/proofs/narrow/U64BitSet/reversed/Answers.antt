-- `u64::reversed`: six swaps of ever larger groups mirror a word, and each constant has the lower groups of its pairs.
use Rattle.std.proofs.Common.{◌≡◌, ℕ, ◌-◌, ◌<◌, nat_eq, eqb-true, refl}
use Rattle.bit_sets.specs.Masks.{Has, IsMaskOf}
use Rattle.bit_sets.proofs.Flooding.{has_below}
use Rattle.bit_sets.proofs.Reversing.{all_paired, below_all, step, swapped_index}
use Rattle.bit_sets.proofs.Steps.{mask_same}
use Rattle.bit_sets.proofs.narrow.U64BitSet.reversed.Goals as goal

-- the index whose bit the six swaps move to an index, the last swap first
abbrev turned : ℕ → ℕ
turned i =
    swapped_index 0x5555555555555555 1 (swapped_index 0x3333333333333333 2 (swapped_index 0x0f0f0f0f0f0f0f0f 4
    (swapped_index 0x00ff00ff00ff00ff 8 (swapped_index 0x0000ffff0000ffff 16 (swapped_index 0x00000000ffffffff 32 i)))))

turned_is : (i : ℕ) → i < 64 → turned i ≡ 63 - i
turned_is i l = eqb-true (turned i) (63 - i) (below_all 64 (λ i. nat_eq (turned i) (63 - i)) refl i l)

pub returns : goal.returns
returns c =
    let none : IsMaskOf (λ i. (i < 64) × Has c.args.self i) c.args.self =
    record { to = λ i h. (has_below 64 _ i c.ranges.self.fits h, h); from = λ i h. h.1 } in
    let ones = step _ _ _ (λ i. i) _ _ (all_paired 0x5555555555555555 1 refl) none c.swap_pairs-ones.ensures in
    let twos = step _ _ _ _ _ _ (all_paired 0x3333333333333333 2 refl) ones c.swap_pairs-twos.ensures in
    let fours = step _ _ _ _ _ _ (all_paired 0x0f0f0f0f0f0f0f0f 4 refl) twos c.swap_pairs-fours.ensures in
    let eights = step _ _ _ _ _ _ (all_paired 0x00ff00ff00ff00ff 8 refl) fours c.swap_pairs-eights.ensures in
    let sixteens = step _ _ _ _ _ _ (all_paired 0x0000ffff0000ffff 16 refl) eights c.swap_pairs-sixteens.ensures in
    let all = step c.args.self _ _ _ _ _ (all_paired 0x00000000ffffffff 32 refl) sixteens c.swap_pairs.ensures in
    mask_same _ _ _ all (λ i h. (h.0, rw (turned_is i h.0) at h.1)) (λ i h. (h.0, rw (turned_is i h.0) h.1))
