-- `most_known`: the best cell after one more row is the best of the rows above and of this one.
use Rattle.solve_core.proofs.Names.{◌≡◌, ◌<◌, ◌+◌, ◌*◌, ℕ, Option, Some, None, arith, IsFirstHighest, length, Bool, cond, ◌≤◌}
use Rattle.solve_core.proofs.GridLineSteps.{passed}
use Rattle.solve_core.proofs.PickLaws.{IsFirstMost, IsFirstMost-same, least_after, most_known-first}
use Rattle.solve_core.proofs.picks.most_known.Goals as goal
use Rattle.solve_core.proofs.picks.most_known.Goals.{in-Some, in_default}

-- if the scores above row `y`, and those of the row up to column `end`, are less than `most`, then all up to there are
up_to : (score : ℕ → ℕ) (P : ℕ → Type 0) (w y end most : ℕ) → ((j : ℕ) → j < y * w → P j → score j < most) →
    ((x : ℕ) → x < end → P (y * w + x) → score (y * w + x) < most) → (j : ℕ) → j < y * w + end → P j → score j < most
up_to score P w y end most above row j =
    passed (λ k. P k → score k < most) w y 0 end 0 (λ k low l. above k (omega arith)) (λ x low. row x) j (omega arith)

-- a row without a score that is high enough leaves the best index unchanged
row-none : (score : ℕ → ℕ) (P : ℕ → Type 0) (w y : ℕ) (best : Option ℕ) → IsFirstMost score P (y * w) best →
    IsFirstHighest (λ x. score (y * w + x)) (λ x. (x < w) × P (y * w + x)) (least_after score best) None →
    IsFirstMost score P ((y + 1) * w) best
row-none score P w y None h row =
    (λ j l. up_to score P w y w 0 h.0 (λ x b p. row x (b, p)) j (omega arith), tt)
row-none score P w y (Some k) h row =
    (λ j l. up_to score P w y w (score k + 1) h.0 (λ x b p. row x (b, p)) j (omega arith), (omega (arith, h.1.0), h.1.1, h.1.2))

-- if a row has a score that is high enough, its first index with the highest score becomes the best one
row-some : (score : ℕ → ℕ) (P : ℕ → Type 0) (w y n z : ℕ) (best : Option ℕ) → IsFirstMost score P (y * w) best →
    IsFirstHighest (λ x. score (y * w + x)) (λ x. (x < w) × P (y * w + x)) (least_after score best) (Some (n, z)) →
    IsFirstMost score P ((y + 1) * w) (Some (y * w + z))
row-some score P w y n z best h row = (
  λ j l. up_to score P w y w (score (y * w + z) + 1) (λ k b p. omega (arith, h.0 k b p, row.1, row.2))
      (λ x b p. omega (arith, row.1, row.3 x (b, p))) j (omega arith),
  (
    omega (arith, row.0.0),
    row.0.1,
    λ j l. up_to score P w y z (score (y * w + z)) (λ k b p. omega (arith, h.0 k b p, row.1, row.2))
        (λ x b p. omega (arith, row.1, row.4 x (omega (arith, b, row.0.0), p) b)) j l,
  ),
)

at_most_one : (b : Bool) → cond b 1 0 ≤ 1
at_most_one b = grind arith

pub overflow_add-least : goal.overflow_add-least
overflow_add-least g c = omega (arith, c.in-Some.ensures.1, at_most_one)

pub loop-y-preserved : goal.loop-y-preserved
loop-y-preserved g c =
    let grid = g.G.RowSets.grid c.args.grid.now in
    let low = c.loop-y.invariant.least_is in
    elim c.match-most_in_row.branch [
      | in-Some w ↦ rw (w.best-is, w.least-is, c.from-width.ensures, c.row_len.ensures.len, w.from.ensures) (record {
        within = omega arith;
        best_is = row-some _ _ grid.width c.loop-y.y _ _ c.loop-y.best c.loop-y.invariant.best_is (rw low at w.in-Some.ensures);
        least_is = omega (arith, w.in-Some.ensures.1);
      })
      | in_default w ↦ rw (w.best-is, w.least-is) (record {
        within = omega arith;
        best_is = row-none _ _ grid.width c.loop-y.y c.loop-y.best c.loop-y.invariant.best_is (rw low at w.in_default.ensures);
        least_is = low;
      })
    ]

pub returns-clause-most : goal.returns-clause-most
returns-clause-most g c =
    let grid = g.G.RowSets.grid c.args.grid.now in
    let all : c.loop-y.y * grid.width ≡ length grid.cells = grind arith in
    IsFirstMost-same _ _ (length grid.cells) c.loop-y.best _ (rw all at c.loop-y.invariant.best_is) (most_known-first grid.width grid.cells)

pub returns-clause-within : goal.returns-clause-within
returns-clause-within g c = grind arith
