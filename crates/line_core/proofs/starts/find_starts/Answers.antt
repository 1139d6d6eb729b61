-- `find_starts`: the starts written are those of the outermost placing, or there is no placing.
use Rattle.line_core.proofs.Names.{rules, ◌≡◌, ◌<◌, ℕ, length, get_or, arith, sym, ◌∙◌, eqb-true, eqb-false, recursion_from_All, HasPlacing, IsOuterStart, ArePositive}
use Rattle.line_core.proofs.Outermost.{match_more, answered, no_run_is}
use Rattle.line_core.proofs.FeasibleEnds.{placing_with}
use Rattle.line_core.proofs.starts.find_starts.Goals as goal

pub returns-then-is_empty : goal.returns-then-is_empty
returns-then-is_empty g c =
    let none : length c.args.clue.now ≡ 0 = eqb-true _ 0 (sym c.is_empty.ensures ∙ c.if-is_empty.true) in
    let found = no_run_is _ g.cells c.args.clue.now _ none (rw c.requires.1.1.1.0 at c.filled.ensures) c.is_empty-then-is_empty.ensures in
    search (rules, recursion_from_All, match_more, answered)

pub returns : goal.returns
returns g c =
    let clue = c.args.clue.now in
    let pos : ArePositive clue = recursion_from_All _ clue c.requires.1.1.1.1.positive in
    let some : 0 < length clue = (let ne = eqb-false (length clue) 0 (sym c.is_empty.ensures ∙ c.if-is_empty.false) in omega arith) in
    answered c.args.direction g.cells clue _ _ pos (omega (arith, c.write_starts.ensures.len, c.requires.1.1.1.1.few))
    (match_more _ ((j : ℕ) → j < length clue → IsOuterStart c.args.direction g.cells clue j (get_or c.write_starts.new.list.starts j 0))
    (HasPlacing g.cells clue → ⊥) _ _ (λ each. let o = each 0 some in
    let x = placing_with g.cells clue 0 o.end pos some o.feasible in ((x.0, x.1, x.2), each))
    (λ n. n) c.write_starts.ensures.starts)
