-- `Support::deduced_from`: a cell is deduced if it is in one mask and not in the other; the line is dead if its first cell is in
-- neither.
use Rattle.line_core.proofs.Names.{◌∙◌, List, Some, ap, sym, Cell}
use Rattle.line_core.proofs.SupportLaws.{none_deduced, some_deduced}
use Rattle.line_core.proofs.lookahead.Support.deduced_from.Goals as goal

pub returns-then-not-contains : goal.returns-then-not-contains
returns-then-not-contains g c =
    rw (← c.self.view_is) (none_deduced c.args.len _ _ _ c.union.ensures (sym c.contains.ensures ∙ c.if-not-contains.true))

pub returns : goal.returns
returns g c =
    rw (← c.self.view_is) (ap (λ (line : List Cell). Some line) c.from_sets.ensures
    ∙ some_deduced c.args.len _ _ _ _ _ _ _ _ c.union.ensures (sym c.contains.ensures ∙ c.if-not-contains.false) c.prefix-within.ensures
    c.difference.ensures c.difference-2.ensures c.intersection-filled.ensures c.intersection-blank.ensures)
