-- `eight_bytes`: each byte of the word is the printed byte of its cell.
use Rattle.std.proofs.Common.{◌≡◌, ℕ, zero, suc, ◌+◌, ◌-◌, ◌*◌, ◌<◌, List, [], ◌∷◌, lit<, max, map, nat_eq, get_or, bit_or, refl, ◌∙◌, arith}
use Rattle.std.specs.Int.{bit_at}
use Rattle.std.proofs.lemmas.Nat.{le_bytes_8}
use Rattle.std.proofs.lemmas.Nat.Bits.{bit_at-lt, bit_at_or}
use Rattle.grid_core.specs.declared.cells.Cell.{Cell}
use Rattle.grid_core.specs.declared.cells.Cell.TheVariants.{Unknown, Filled, Blank}
use Rattle.grid_core.specs.Lines.{cell_with, line_cells}
use Rattle.bit_sets.specs.Masks.{has}
use Rattle.survey_text.specs.Grids.{cell_byte}
use Rattle.survey_text.proofs.pictures.eight_bytes.Goals as goal

-- the byte of a cell is `?`, less 17 if the cell is known, and less 11 more if it is filled
byte_of : (x y : ℕ) → x < 2 → y < 2 → cell_byte (cell_with (nat_eq x 1) (nat_eq y 1)) + 17 * max x y + 11 * x ≡ 63
byte_of zero zero p q = refl
byte_of zero (suc y) p q = let one : y ≡ 0 = omega arith in rw one refl
byte_of (suc x) zero p q = let one : x ≡ 0 = omega arith in rw one refl
byte_of (suc x) (suc y) p q = let one : x ≡ 0 = omega arith in let as_well : y ≡ 0 = omega arith in rw (one, as_well) refl

-- a printed cell is a byte
small : (cells : List Cell) (i : ℕ) → get_or (map cell_byte cells) i 0 < 256
small [] i = lit< tt
small (Unknown ∷ cells) zero = lit< tt
small (Filled ∷ cells) zero = lit< tt
small (Blank ∷ cells) zero = lit< tt
small (cell ∷ cells) (suc i) = small cells i

pub returns : goal.returns
returns c =
    let f = c.args.filled in
    let b = c.args.blank in
    let at : (k : ℕ) → cell_byte (cell_with (has f k) (has b k)) + 17 * bit_at (bit_or f b) k + 11 * bit_at f k ≡ 63 =
    λ k. rw (bit_at_or f b k) (byte_of (bit_at f k) (bit_at b k) (bit_at-lt f k) (bit_at-lt b k)) in
    c.to_le_bytes.ensures
    ∙ le_bytes_8 (map cell_byte (line_cells 8 f b)) (0x3f3f3f3f3f3f3f3f - 17 * c.expand_bits-known.result - 11 * c.expand_bits.result) refl
    (small (line_cells 8 f b)) (omega (arith, at 0, at 1, at 2, at 3, at 4, at 5, at 6, at 7))
