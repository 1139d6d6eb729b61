-- `write_each`: each turn writes the indices of one word.
use Rattle.solve_core.proofs.Names.{◌∙◌, ◌+◌, ◌<◌, inl, inr, List, set, ap, arith, cases_lt, Cell, width_most}
use Rattle.solve_core.proofs.grids.crossing_writes.write_each.Goals as goal

pub loop-from-smaller : goal.loop-from-smaller
loop-from-smaller g c = grind (arith, width_most, c.loop-from-test.true, c.WIDTH.ensures)

pub loop-from-preserved : goal.loop-from-preserved
loop-from-preserved g c =
    let most = width_most g.W.BitSet.WIDTH g.W.BitSet.LOG2_WIDTH g.met.W.BitSet.top_is.1 g.met.W.BitSet.width_is in
    let before = c.loop-from.invariant in
    let from = c.loop-from.from in
    let indices = g.W.BitSet.bits c.args.indices in
    let below : from < 256 = omega (arith, c.loop-from-test.true, c.WIDTH.ensures, most) in
    record {
      words = (before.words.0 + 1, omega (arith, before.words.1));
      as_old = λ k far. c.write_word.ensures.others k (λ is. absurd {A = ⊥} (omega (arith, far is.0, is.2))) ∙
          before.as_old k (λ p. omega (arith, far p));
      as_new = λ k has l. elim (cases_lt k from) [
        | inl early ↦ c.write_word.ensures.others k (λ is. absurd {A = ⊥} (omega (arith, early, is.1))) ∙ before.as_new k has early
        | inr now ↦ c.write_word.ensures.changed k (has, now, l) ∙
            ap (λ (line : List Cell). set line c.args.i c.args.colour) (before.as_old k (λ p. now))
      ];
      most = omega (arith, before.words.1, below);
    }
