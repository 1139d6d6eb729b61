-- `BitLine::load`: the narrowed sets have the same indices below the length as those of the other line.
use Rattle.std.proofs.Common.{◌≡◌, ◌∙◌, refl, arith}
use Rattle.grid_core.proofs.LineCells.{cells-resized, length_seen}
use Rattle.grid_core.proofs.lines.BitLine.load.Goals as goal

pub returns : goal.returns
returns g c =
    let long : c.self.inside.len ≡ c.other.inside.len = grind (arith, length_seen) in
    rw long (cells-resized _ c.other.inside.len _ _ _ _ _ _ (omega arith) refl refl c.narrowed-self-inside.ensures
    c.narrowed-self-inside-2.ensures) ∙ c.other.view_is
