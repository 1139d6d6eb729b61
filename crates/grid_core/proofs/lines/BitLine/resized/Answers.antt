-- `BitLine::resized`: the masks of another width have the same indices below the length.
use Rattle.std.proofs.Common.{◌∙◌, arith}
use Rattle.grid_core.proofs.LineCells.{length_seen, cells-resized}
use Rattle.grid_core.proofs.lines.BitLine.resized.Goals as goal

pub returns : goal.returns
returns g c =
    cells-resized _ c.self.inside.len _ _ _ _ _ _ (grind (arith, length_seen)) c.widened.ensures c.widened-2.ensures
    c.narrowed.ensures c.narrowed-2.ensures ∙ c.self.view_is
