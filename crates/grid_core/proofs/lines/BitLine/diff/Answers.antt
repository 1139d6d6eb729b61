-- `BitLine::diff`: two lines differ at an index exactly if one of their masks differs there.
use Rattle.grid_core.proofs.Changing.{changed_is}
use Rattle.grid_core.proofs.lines.BitLine.diff.Goals as goal

pub returns-clause-changes : goal.returns-clause-changes
returns-clause-changes g c =
    changed_is _ _ _ _ _ _ _ _ _ _ _ _ c.self.view_is c.other.view_is c.requires c.self.invariant c.other.invariant
    c.symmetric_difference-filled.ensures c.symmetric_difference-blank.ensures c.union.ensures
