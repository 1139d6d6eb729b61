-- `push_cells`: the next eight cells are the first of the shifted sets, and what extends past the line is cut off.
use Rattle.std.proofs.Common.{◌≡◌, ℕ, zero, suc, ◌+◌, ◌*◌, ◌≤◌, List, ◌++◌, length, get_or, map, refl, sym, ap, ◌∙◌, arith, append-nil, append_assoc, add-zero}
use Rattle.std.proofs.Math.Seq.{take-append-add}
use Rattle.std.proofs.lemmas.Grind.{div_ceil_times}
use Rattle.std.proofs.lemmas.List.{map-append, take-map}
use Rattle.std.proofs.lemmas.List.FromFn.{fill_by_all, map-range_with_len_more, take-map-range_with_len}
use Rattle.grid_core.specs.declared.cells.Cell.TheVariants.{Unknown}
use Rattle.grid_core.specs.Lines.{cell_with, line_cells}
use Rattle.grid_core.proofs.LineCells.{cell_itself, cells-resized, has_blank, has_by, has_filled}
use Rattle.bit_sets.proofs.HasLemmas.{has_true, true_has}
use Rattle.bit_sets.specs.Masks.{Has, has, IsMaskOf}
use Rattle.survey_text.specs.Grids.{cell_byte}
use Rattle.survey_text.proofs.pictures.push_cells.Goals as goal

-- the first `a + n` cells of two sets are their first `a`, followed by the first `n` of the sets shifted down by `a`
line_cells-more : (a f b g h : ℕ) → ((k : ℕ) → has g k ≡ has f (k + a)) → ((k : ℕ) → has h k ≡ has b (k + a))
    → (n : ℕ) → line_cells (a + n) f b ≡ line_cells a f b ++ line_cells n g h
line_cells-more a f b g h p q zero = rw (add-zero a) (sym (append-nil (line_cells a f b)))
line_cells-more a f b g h p q (suc n) =
    let before = λ (k : ℕ). cell_with (has f k) (has b k) in
    let behind = λ (k : ℕ). cell_with (has g k) (has h k) in
    let next : a + suc n ≡ a + n + 1 = omega arith in
    let last : n + 1 ≡ suc n = omega arith in
    let place : n + a ≡ a + n = omega arith in
    let same : behind n ≡ before (a + n) = rw (p n, q n, place) refl in
    let longer = map-range_with_len_more before 0 (a + n) (a + n) (omega arith) in
    let longer_behind = map-range_with_len_more behind 0 n n (omega arith) in
    grind (arith, append_assoc, next, last, same, longer, longer_behind, line_cells-more a f b g h p q n)

-- shifting down a set by 8 that is already shifted by `i * 8` shifts it by `(i + 1) * 8`
passed : (f m n i : ℕ) → ((k : ℕ) → has m k ≡ has f (k + i * 8)) → IsMaskOf (λ j. Has m (j + 8)) n
    → (k : ℕ) → has n k ≡ has f (k + (i + 1) * 8)
passed f m n i p h k =
    let place : k + 8 + i * 8 ≡ k + (i + 1) * 8 = omega arith in
    has_by n k (has m (k + 8)) (λ x. has_true m (k + 8) (h.to k x)) (λ t. h.from k (true_has m (k + 8) t))
    ∙ p (k + 8) ∙ ap (has f) place

pub loop-part-preserved : goal.loop-part-preserved
loop-part-preserved g c =
    let bits = g.W.BitSet.bits in
    let i = c.loop-part._part in
    let before = c.loop-part.invariant in
    let f = bits c.filled-filled.result in
    let b = bits c.blank-blank.result in
    let filled = bits c.loop-part.filled in
    let blank = bits c.loop-part.blank in
    let next : i * 8 + 8 ≡ (i + 1) * 8 = omega arith in
    let more = ap (λ (n : ℕ). line_cells n f b) (sym next) ∙ line_cells-more (i * 8) f b filled blank before.filled before.blank 8 in
    let eight =
    c.eight_bytes.ensures
    ∙ ap (map cell_byte) (cells-resized 64 8 filled blank filled blank c.first_word.result c.first_word-in-loop-part.result (omega arith)
    refl refl c.first_word.ensures c.first_word-in-loop-part.ensures) in
    record {
      added =
          rw (c.in_ok-extend_from_slice.ensures.items, before.added, eight, more, map-append)
          (append_assoc c.args.text.now.items (map cell_byte (line_cells (i * 8) f b)) (map cell_byte (line_cells 8 filled blank)));
      filled = passed f filled (bits c.shifted_down-filled.result) i before.filled c.shifted_down-filled.ensures;
      blank = passed b blank (bits c.shifted_down-blank.result) i before.blank c.shifted_down-blank.ensures;
    }

pub returns : goal.returns
returns g c =
    let bits = g.W.BitSet.bits in
    let text = c.args.text.now.items in
    let line = c.args.line.now in
    let f = bits c.filled-filled.result in
    let b = bits c.blank-blank.result in
    let n = c.loop-part._part * 8 in
    let cells = λ (k : ℕ). cell_with (has f k) (has b k) in
    let whole = div_ceil_times c.len-3.result 8 (omega arith) in
    let ends : c.len.result + c.from.result ≡ length text + length line = omega arith in
    let long : length line ≤ n = omega (arith, whole.0) in
    let is_line : line ≡ line_cells (length line) f b =
    fill_by_all cells line (length line) Unknown refl (λ k h.
    sym (rw (has_filled f line c.filled-filled.ensures k, has_blank b line c.blank-blank.ensures k) (cell_itself (get_or line k Unknown)))) in
    c.truncate.ensures.items
    ∙ rw (ends, c.loop-part.invariant.added) (take-append-add text (map cell_byte (line_cells n f b)) (length line))
    ∙ ap (λ (bytes : List ℕ). text ++ bytes) (take-map cell_byte (length line) (line_cells n f b)
    ∙ ap (map cell_byte) (take-map-range_with_len cells 0 n (length line) long ∙ sym is_line))
