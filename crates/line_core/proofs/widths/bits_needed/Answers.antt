-- `bits_needed`: each turn takes the greater of the result so far and one more number.
use Rattle.line_core.proofs.Names.{rules, ◌≤◌, arith, take_all, All-more}
use Rattle.line_core.proofs.widths.bits_needed.Goals as goal

pub loop-number-preserved : goal.loop-number-preserved
loop-number-preserved c =
    let i = c.loop-number.number-index in
    let most = c.max-needed.ensures in
    record {
      line = omega (arith, most, c.loop-number.invariant.line);
      least = λ m a b. omega (arith, most, c.loop-number.invariant.least m a b, b i 0 (omega arith));
      passed = All-more (λ n. n ≤ c.max-needed.result) c.args.clue.now i 0 (omega arith)
          (λ k d h. omega (arith, most, c.loop-number.invariant.passed k d h)) (omega (arith, most));
    }

pub returns-clause-clue : goal.returns-clause-clue
returns-clause-clue c = search (rules, take_all)
