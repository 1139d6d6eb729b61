-- `places_for_clues`: with one more clue the result doesn't shrink, and suffices for the clue's numbers too.
use Rattle.solve_core.proofs.Names.{◌≡◌, ◌∙◌, ◌≤◌, [], get_or, sym, take_all, subst, arith, All, get_or_default, All-more, MAX_SIDE, rules, ℕ, List, true, leb, and_parts, leb-true, AllPass-from_list_all}
use Rattle.grid_core.specs.Clues.{is_clue, is_run}
use Rattle.solve_core.proofs.widths.places_for_clues.Goals as goal

-- the numbers of a clue are at most its limit
clue_short : (limit : ℕ) (clue : List ℕ) → is_clue limit clue ≡ true → All (λ n. n ≤ limit) clue
clue_short limit clue h = search (rules, AllPass-from_list_all, is_run, and_parts, leb, leb-true)

pub returns-clause-clues : goal.returns-clause-clues
returns-clause-clues c = search (rules, take_all, c.loop-clue.invariant.passed)

pub loop-clue-preserved : goal.loop-clue-preserved
loop-clue-preserved c =
    let i = c.loop-clue.clue-index in
    let clues = c.args.clues.now in
    let old = c.loop-clue.needed in
    let new = c.bits_needed-needed.result in
    let item : c.numbers.result.now ≡ get_or clues i [] = c.numbers.ensures.numbers ∙ c.clue-item.is ∙
    get_or_default clues i c.clue-item.result [] (omega arith) in
    let grown : old ≤ new = c.bits_needed-needed.ensures.line in
    record {
      least = omega (arith, c.loop-clue.invariant.least);
      passed = All-more (All (λ n. n ≤ new)) clues i [] (omega arith)
          (λ k d h j e l. omega (arith, c.loop-clue.invariant.passed k d h j e l))
          (subst (All (λ n. n ≤ new)) item c.bits_needed-needed.ensures.clue);
      fewest = λ bound a b. c.bits_needed-needed.ensures.least bound (c.loop-clue.invariant.fewest bound a b)
          (subst (All (λ n. n ≤ bound)) (sym item) (b i [] (omega arith)));
      most = c.bits_needed-needed.ensures.least MAX_SIDE c.loop-clue.invariant.most
          (subst (All (λ n. n ≤ MAX_SIDE)) (sym c.numbers.ensures.numbers) (clue_short MAX_SIDE _ c.numbers.ensures.clue));
    }
