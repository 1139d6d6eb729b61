-- `expand_bits`: the result depends only on the lowest byte of the set, and all 256 values of that are tested by computation.
use Rattle.std.proofs.Common.{◌≡◌, ℕ, ◌+◌, ◌*◌, ◌/◌, ◌%◌, ◌^◌, ◌<◌, nat_eq, map, bit_and, refl, ap, ◌∙◌, lit<, arith, eqb-true}
use Rattle.std.specs.Int.{bit_at, from_le_bytes, w64}
use Rattle.std.specs.List.{range_with_len}
use Rattle.std.proofs.lemmas.Nat.{and_mask}
use Rattle.bit_sets.proofs.Flooding.{bit_at_mod}
use Rattle.bit_sets.proofs.Reversing.{below_all}
use Rattle.survey_text.proofs.pictures.expand_bits.Goals as goal

-- the result that the code computes from the lowest byte
abbrev computed : ℕ → ℕ
computed byte =
    bit_and ((bit_and (byte * 0x0101010101010101 % 2 ^ 64) 0x8040201008040201 + 0x7f7f7f7f7f7f7f7f) % 2 ^ 64 / 128) 0x0101010101010101

-- the result that the contract asks for
abbrev wanted : ℕ → ℕ
wanted set = from_le_bytes w64 (map (bit_at set) (range_with_len 0 8))

pub returns : goal.returns
returns c =
    let set = c.args.set in
    let same = λ (k : ℕ) (h : k < 8). bit_at_mod 8 set k h in
    let bits : wanted (set % 256) ≡ wanted set =
    cc (
      same 0 (lit< tt),
      same 1 (lit< tt),
      same 2 (lit< tt),
      same 3 (lit< tt),
      same 4 (lit< tt),
      same 5 (lit< tt),
      same 6 (lit< tt),
      same 7 (lit< tt),
    ) in
    let test = λ (byte : ℕ). nat_eq (computed byte) (wanted byte) in
    ap computed (and_mask set 8)
    ∙ eqb-true (computed (set % 256)) (wanted (set % 256)) (below_all 256 test refl (set % 256) (omega arith))
    ∙ bits
