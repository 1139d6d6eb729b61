-- In a puzzle with a solution each clue fits its line, and the sums are equal.
use Rattle.std.proofs.Common.{◌≡◌, ℕ, zero, suc, ◌+◌, ◌*◌, ◌<◌, Bool, false, List, [], length, get_or, map, refl, sym, ap, ◌∙◌, arith, add-zero, zero-add}
use Rattle.std.specs.List.{filter, range_with_len, sum}
use Rattle.std.proofs.lemmas.Bool.{le-ltb}
use Rattle.grid_core.proofs.LineLaws.{each_line, length-cells_at, length-line_indices}
use Rattle.grid_core.specs.declared.axes.Axis.{Axis}
use Rattle.grid_core.specs.declared.axes.Axis.TheVariants.{Rows, Columns}
use Rattle.grid_core.specs.Nonogram.{IsNonogram, Meets, MeetsLine, Nonogram, cells_at, clues_on, line_indices, line_on}
use Rattle.grid_core.specs.Runs.{runs}
use Rattle.diagnosis.specs.Misfits.{fit_of, is_misfit, line_length, misfits_of, misfits_on}
use Rattle.diagnosis.specs.Sums.{sums_of}
use Rattle.diagnosis.proofs.RunSizes.{needed-runs, sum-runs}
use Rattle.diagnosis.proofs.LineTotals.{filled-total, one_if_filled, sum_by-total, total, total-exchange, total-same}

-- nothing passes if no number in the range does
none_pass : {X : Type 0} (p : X → Bool) (f : ℕ → X) (a n : ℕ) → ((k : ℕ) → k < n → p (f (a + k)) ≡ false) →
    filter p (map f (range_with_len a n)) ≡ []
none_pass p f a zero h = refl
none_pass p f a (suc n) h =
    let first : p (f a) ≡ false = rw add-zero at (h 0 (omega arith)) in
    let rest = none_pass p f (a + 1) n (λ k l. let e : a + suc k ≡ a + 1 + k = omega arith in rw e at (h (suc k) (omega arith))) in
    rw (first) rest

module _ (p : Nonogram) (full : List Bool) (meets : Meets p full) where
  -- the runs of a line are its clue
  met : (axis : Axis) (i : ℕ) → i < length (clues_on axis p) → MeetsLine full (line_on axis p i)
  met axis i l = each_line (MeetsLine full) p meets.clues axis i l

  line-size : (axis : Axis) (i : ℕ) → length (line_indices axis p.width p.height i) ≡ line_length axis p
  line-size axis i = grind (arith, length-line_indices axis p.width p.height i)

  clue_fits : (axis : Axis) (i : ℕ) → i < length (clues_on axis p) → is_misfit (fit_of axis p i) ≡ false
  clue_fits axis i l =
      let cells = cells_at false full (line_indices axis p.width p.height i) in
      let same : runs cells ≡ get_or (clues_on axis p) i [] = met axis i l in
      let needed = rw same at (needed-runs cells) in
      le-ltb _ _ (omega (arith, needed, length-cells_at false full (line_indices axis p.width p.height i), line-size axis i))

  fits_on : (axis : Axis) → misfits_on axis p ≡ []
  fits_on axis = none_pass is_misfit (fit_of axis p) 0 (length (clues_on axis p)) (λ k l. rw (zero-add k) (clue_fits axis k l))

  pub no_misfits : misfits_of p ≡ []
  no_misfits = rw (fits_on Rows, fits_on Columns) refl

  pub equal_sums : IsNonogram p → (sums_of p).rows ≡ (sums_of p).columns
  equal_sums is =
      let w = p.width in let h = p.height in
      let f : ℕ → ℕ → ℕ = λ (y x : ℕ). one_if_filled full (x + y * w) in
      let row = λ (y : ℕ) (l : y < length p.rows).
      ap sum (sym (met Rows y l)) ∙ sum-runs (cells_at false full (line_indices Rows w h y)) ∙ filled-total full (y * w) 1 w
      ∙ total-same (λ (k : ℕ). one_if_filled full (y * w + k * 1)) (f y) w
      (λ k m. let e : y * w + k * 1 ≡ k + y * w = omega arith in ap (one_if_filled full) e) in
      let column = λ (x : ℕ) (l : x < length p.columns).
      ap sum (sym (met Columns x l)) ∙ sum-runs (cells_at false full (line_indices Columns w h x)) ∙ filled-total full x w h in
      let rows = sum_by-total sum p.rows ∙ total-same _ (λ (y : ℕ). total (f y) w) (length p.rows) row in
      let columns = sum_by-total sum p.columns ∙ total-same _ (λ (x : ℕ). total (λ (y : ℕ). f y x) h) (length p.columns) column in
      rw (rows, columns, is.clues.0, is.clues.1) (total-exchange f w h)
