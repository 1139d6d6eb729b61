-- A round by its deduced lines, and rounds after one another.
use Rattle.std.proofs.Common.{◌≡◌, ℕ, suc, ◌+◌, ◌-◌, ◌*◌, ◌/◌, ◌%◌, ◌<◌, ◌≤◌, List, [], length, get_or, Option, Some, None, refl, ap, sym, ◌∙◌, arith, is_none, option_map}
use Rattle.std.specs.Prelude.{find}
use Rattle.std.proofs.lemmas.Nat.{div_below, mod_below}
use Rattle.grid_core.specs.Nonogram.{IsNonogram, Nonogram, lines_of}
use Rattle.grid_core.specs.declared.axes.Axis.{Axis}
use Rattle.grid_core.specs.declared.axes.Axis.TheVariants.{Rows, Columns}
use Rattle.grid_core.specs.declared.cells.Cell.{Cell}
use Rattle.grid_core.specs.declared.cells.Cell.TheVariants.{Unknown}
use Rattle.solve_core.specs.Closure.{round}
use Rattle.diagnosis.specs.declared.contradictions.Contradiction.{Contradiction}
use Rattle.diagnosis.specs.declared.contradictions.Contradiction.TheVariants.{TwoColours}
use Rattle.diagnosis.specs.Contradictions.{contradiction_in, contradiction_within, dead_line, has_two_colours, joined_at, two_coloured_cell}
use Rattle.diagnosis.specs.Differences.{position_at, positions}
use Rattle.diagnosis.specs.Rounds.{AreDeduced, HaveLength, is_conflict, joined_in}
use Rattle.diagnosis.proofs.FirstFound.{find-image_same}
use Rattle.diagnosis.proofs.LineReads.{deduced_long}
use Rattle.diagnosis.proofs.RoundLaws.{AreAlive, round-joined}

module _ (p : Nonogram) (is : IsNonogram p) (g : List Cell) (rows columns : List (List Cell)) (r : AreDeduced Rows p g rows)
    (q : AreDeduced Columns p g columns) where
  pub rows-count : length rows ≡ p.height
  rows-count = r.count ∙ is.clues.0

  pub columns-count : length columns ≡ p.width
  columns-count = q.count ∙ is.clues.1

  pub rows-long : HaveLength (length columns) rows
  rows-long i l = deduced_long Rows p g i (get_or rows i []) (r.each i l) ∙ sym columns-count

  pub columns-long : HaveLength (length rows) columns
  columns-long i l = deduced_long Columns p g i (get_or columns i []) (q.each i l) ∙ sym rows-count

  -- the lines have what is deduced of each cell
  same_join : (k : ℕ) → k < p.width * p.height → joined_at p g (position_at p.width k) ≡ joined_in rows columns (position_at p.width k)
  same_join k l =
      let some : 0 < p.width = omega (arith, is.size.width_from) in
      let inside : k < p.height * p.width = omega arith in
      let low : k / p.width < length rows = rw rows-count (div_below k p.width p.height some inside) in
      let left : k % p.width < length columns = rw columns-count (mod_below k p.width some) in
      rw (r.each (k / p.width) low, q.each (k % p.width) left) refl

  pub same_cell : two_coloured_cell p g ≡ find (is_conflict rows columns) (positions p.width p.height)
  same_cell = find-image_same (has_two_colours p g) (is_conflict rows columns) (position_at p.width) (p.width * p.height)
      (λ k l. ap is_none (same_join k l))

  -- if no line is dead, the round shows the first cell with different colours
  pub shown : dead_line Rows p g ≡ None → dead_line Columns p g ≡ None →
      contradiction_in p g ≡ option_map TwoColours (find (is_conflict rows columns) (positions p.width p.height))
  shown e f = rw (e, f, same_cell) refl

  alive : (axis : Axis) → AreAlive axis p g
  alive Rows i l = (get_or rows i [], r.each i (rw rows-count l))
  alive Columns i l = (get_or columns i [], q.each i (rw columns-count l))

  -- the round is the join of the lines
  pub made : (z : List Cell) → length g ≡ p.width * p.height → length z ≡ p.width * p.height →
      ((k : ℕ) → k < p.width * p.height → joined_in rows columns (position_at p.width k) ≡ Some (get_or z k Unknown)) →
      round (lines_of p) g ≡ Some z
  made z long new each = round-joined p is g z long new alive (λ k l. same_join k l ∙ each k l)

-- a round that shows no contradiction is followed by one fewer
pub within-step : (p : Nonogram) (n i : ℕ) (g z : List Cell) (r : Option Contradiction) → i < n → contradiction_in p g ≡ None →
    round (lines_of p) g ≡ Some z → contradiction_within p (n - i) g ≡ r → contradiction_within p (n - (i + 1)) z ≡ r
within-step p n i g z r l none made e =
    let one : n - i ≡ suc (n - (i + 1)) = omega arith in
    rw (one, none, made) at e

-- the first contradiction that is shown is the result
pub within-found : (p : Nonogram) (n i : ℕ) (g : List Cell) (x : Contradiction) (r : Option Contradiction) → i < n →
    contradiction_in p g ≡ Some x → contradiction_within p (n - i) g ≡ r → Some x ≡ r
within-found p n i g x r l found e =
    let one : n - i ≡ suc (n - (i + 1)) = omega arith in
    rw (one, found) at e

-- after all rounds there is no contradiction
pub within-end : (p : Nonogram) (n i : ℕ) (g : List Cell) (r : Option Contradiction) → n ≤ i → contradiction_within p (n - i) g ≡ r → None ≡ r
within-end p n i g r l e =
    let over : n - i ≡ 0 = omega arith in
    rw over at e
