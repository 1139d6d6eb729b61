-- `join_lines`: one cell more is joined, or is the first that has different colours.
use Rattle.std.proofs.Common.{◌≡◌, ℕ, ◌+◌, ◌*◌, ◌<◌, ◌≤◌, List, length, get_or, set, None, Some, inl, inr, ap, sym, ◌∙◌, arith, is_none, get_or-set_other, get_or-set_same, length-set}
use Rattle.std.proofs.lemmas.Bool.{cases_lt}
use Rattle.grid_core.specs.declared.cells.Cell.{Cell}
use Rattle.grid_core.specs.declared.cells.Cell.TheVariants.{Unknown}
use Rattle.diagnosis.specs.declared.differences.Position.{Position}
use Rattle.diagnosis.specs.Differences.{position_at}
use Rattle.diagnosis.specs.Rounds.{is_conflict, joined_in}
use Rattle.diagnosis.proofs.FirstFound.{find-image, find-image_none}
use Rattle.diagnosis.proofs.contradictions.join_lines.Goals as goal

one_more : (rows columns : List (List Cell)) (w i : ℕ) (cells : List Cell) (cell : Cell) → i < length cells →
    joined_in rows columns (position_at w i) ≡ Some cell →
    ((k : ℕ) → k < i → joined_in rows columns (position_at w k) ≡ Some (get_or cells k Unknown)) →
    (k : ℕ) → k < i + 1 → joined_in rows columns (position_at w k) ≡ Some (get_or (set cells i cell) k Unknown)
one_more rows columns w i cells cell within here before k l = elim (cases_lt k i) [
  | inl low ↦ before k low ∙ ap (λ (c : Cell). Some c) (sym (get_or-set_other cells i k cell Unknown (λ same. absurd (omega arith))))
  | inr high ↦
      let same : k ≡ i = omega arith in
      rw same (here ∙ ap (λ (c : Cell). Some c) (sym (get_or-set_same cells i cell Unknown within)))
]

pub returns-in-None-clause-conflict : goal.returns-in-None-clause-conflict
returns-in-None-clause-conflict c =
    let g = c.args.grid.now in
    let test = is_conflict c.args.rows.now c.args.columns.now in
    let same : c.of_index-position.result ≡ position_at g.width c.loop-index.index = grind arith in
    let here : joined_in c.args.rows.now c.args.columns.now (position_at g.width c.loop-index.index) ≡ None =
    rw same at (sym c.joined_at.ensures ∙ c.in-None.is) in
    let within : c.loop-index.index < g.width * g.height = grind arith in
    let before = rw c.loop-index.invariant.0 at c.loop-index.invariant.3 in
    let found = find-image test (position_at g.width) (g.width * g.height) c.loop-index.index within (ap is_none here)
    (λ k l. ap is_none (before k l)) in
    ap (λ (r : Position). Some r) same ∙ sym found

pub loop-index-preserved : goal.loop-index-preserved
loop-index-preserved c =
    let g = c.loop-index.grid in
    let i = c.loop-index.index in
    let same : c.of_index-position.result ≡ position_at g.width i = grind (arith, c.loop-index.invariant.0) in
    let here : joined_in c.args.rows.now c.args.columns.now (position_at g.width i) ≡ Some c.in-Some.cell =
    rw same at (sym c.joined_at.ensures ∙ c.in-Some.is) in
    let within : i < length g.cells = grind (arith, c.loop-index.invariant.2) in
    let more = one_more c.args.rows.now c.args.columns.now g.width i g.cells c.in-Some.cell within here c.loop-index.invariant.3 in
    rw c.set_index.ensures (
      c.loop-index.invariant.0,
      c.loop-index.invariant.1,
      length-set g.cells i c.in-Some.cell ∙ c.loop-index.invariant.2,
      more,
    )

pub returns-clause-conflict : goal.returns-clause-conflict
returns-clause-conflict c =
    let g = c.args.grid.now in
    let over : g.width * g.height ≤ c.loop-index.index = grind arith in
    let before = rw c.loop-index.invariant.0 at c.loop-index.invariant.3 in
    sym (find-image_none (is_conflict c.args.rows.now c.args.columns.now) (position_at g.width) (g.width * g.height)
    (λ k l. ap is_none (before k (omega arith))))
