-- `write_word`: each index of the word is visited once, so its line was unchanged until then.
use Rattle.solve_core.proofs.Names.{rules, ◌≡◌, ◌≢◌, ◌∙◌, refl, ◌+◌, ◌-◌, ◌<◌, ℕ, inl, inr, List, [], length, get_or, set, sym, ap, arith, get_or-set_same, get_or-set_other, subst, cases_eq, eqb-true, Cell, Has, width_most}
use Rattle.solve_core.proofs.Changes.{none_in}
use Rattle.solve_core.proofs.WordLemmas.{in_word, of_word, stays}
use Rattle.solve_core.proofs.GridLineSteps.{line_read}
use Rattle.solve_core.proofs.grids.crossing_writes.write_word.Goals as goal

pub overflow_add-from : goal.overflow_add-from
overflow_add-from g c = grind (arith, width_most, c.requires.from, c.first_index-k.ensures.within)

pub offset_bounds-lines-from : goal.offset_bounds-lines-from
offset_bounds-lines-from g c =
    let x = c.first_index-k.result in
    let is = of_word (g.W.BitSet.bits c.args.indices) c.args.from c.word_from-left.result x c.word_from-left.ensures
    (c.loop-colour.invariant.inside x c.first_index-k.ensures.in_mask) in
    let line = (c.requires.cells (c.args.from + x) is).line in
    let here : c.from.result < length c.args.lines.now = omega (arith, c.from.ensures, line) in
    search rules

pub write_cell-requires : goal.write_cell-requires
write_cell-requires g c =
    let before = c.loop-colour.invariant in
    let x = c.first_index-k.result in
    let has = c.first_index-k.ensures.in_mask in
    let is = of_word (g.W.BitSet.bits c.args.indices) c.args.from c.word_from-left.result x c.word_from-left.ensures
    (before.inside x has) in
    let can = c.requires.cells (c.args.from + x) is in
    let within : c.from.result < length c.loop-colour.lines = omega (arith, c.from.ensures, can.line, c.loop-colour.auto.lines) in
    let same : get_or c.loop-colour.lines c.from.result c.index-lines-from.result ≡ get_or c.args.lines.now (c.args.from + x) [] =
    line_read c.loop-colour.lines c.from.result c.index-lines-from.result within ∙
    ap (λ (j : ℕ). get_or c.loop-colour.lines j []) c.from.ensures ∙
    before.as_old (c.args.from + x) (λ y word gone e. gone (subst (Has c.loop-colour.left) (omega (arith, e)) has)) in
    record { i = rw same can.within; unknown = rw same can.unknown }

pub loop-colour-preserved : goal.loop-colour-preserved
loop-colour-preserved g c =
    let before = c.loop-colour.invariant in
    let indices = g.W.BitSet.bits c.args.indices in
    let from = c.args.from in
    let word = c.word_from-left.result in
    let lines = c.loop-colour.lines in
    let left = c.loop-colour.left in
    let next = c.without_first-left.result in
    let x = c.first_index-k.result in
    let at = c.from.result in
    let has = c.first_index-k.ensures.in_mask in
    let marked = c.without_first-left.ensures.rest x has (λ y l h. absurd {A = ⊥} (omega (arith, l, c.first_index-k.ensures.least y h))) in
    let is = of_word indices from word x c.word_from-left.ensures (before.inside x has) in
    let line = (c.requires.cells (from + x) is).line in
    let within : at < length lines = omega (arith, c.from.ensures, line, c.loop-colour.auto.lines) in
    let settled = c.write_cell.new.line in
    let elsewhere = λ (k : ℕ) (other : k ≢ from + x). get_or-set_other lines at k settled [] (λ e. other (e ∙ c.from.ensures)) in
    record {
      inside = λ y h. before.inside y (stays left next x marked y h).0;
      as_old = λ k no. elsewhere k (λ e. no x (before.inside x has) (λ h. (stays left next x marked x h).1 refl) (sym e)) ∙
          before.as_old k (λ y h gone. no y h (λ n. gone (stays left next x marked y n).0));
      as_new = λ y h gone. elim (cases_eq y x) [
        | inl own ↦ rw own (
            ap (λ (p : ℕ). get_or (set lines at settled) p []) (sym c.from.ensures) ∙ get_or-set_same lines at settled [] within ∙
            c.write_cell.ensures ∙ (λ i. set (line_read lines at c.index-lines-from.result within i) c.args.i c.args.colour) ∙
            ap (λ (p : ℕ). set (get_or lines p []) c.args.i c.args.colour) c.from.ensures ∙
            ap (λ (line : List Cell). set line c.args.i c.args.colour)
            (before.as_old (from + x) (λ z hz dead e. dead (subst (Has left) (omega (arith, e)) has))))
        | inr other ↦ elsewhere (from + y) (λ e. other (omega (arith, e))) ∙ before.as_new y h (λ l. gone (marked.from y (inl (l, other))))
      ];
    }

pub returns-clause-changed : goal.returns-clause-changed
returns-clause-changed g c = λ k is.
    let none = none_in c.loop-colour.left (eqb-true c.loop-colour.left 0 (sym c.is_empty.ensures ∙ c.loop-colour-test.false)) in
    subst (λ (j : ℕ). get_or c.loop-colour.lines j [] ≡ set (get_or c.args.lines.now j []) c.args.i c.args.colour) (omega (arith, is.1))
    (c.loop-colour.invariant.as_new (k - c.args.from) (in_word _ c.args.from _ k c.word_from-left.ensures is) (none (k - c.args.from)))
