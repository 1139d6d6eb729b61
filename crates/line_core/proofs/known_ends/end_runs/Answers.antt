-- `end_runs`: the runs of the first cells, or of the last cells from the other end, are compared with the clue.
use Rattle.line_core.proofs.Names.{arith, is_filled, not, nat_eq}
use Rattle.line_core.specs.steps.CluePrefix.{mirrored_if}
use Rattle.line_core.proofs.CluePrefixes.{length-mirrored_if}
use Rattle.grid_core.proofs.LineCells.{has_filled}
use Rattle.line_core.proofs.KnownEnds.{filled_is, mirrored_values}
use Rattle.line_core.proofs.known_ends.end_runs.Goals as goal

pub returns : goal.returns
returns g c =
    let t = not (nat_eq g.row.MIRRORED 0) in
    let l = c.args.line.now in
    let within = c.requires.cells in
    c.match_clue_prefix.ensures _ (filled_is (mirrored_if t l) _ _ _ _ (rw length-mirrored_if within) (λ i h.
    mirrored_values t is_filled l _ _ _ c.len.ensures.len (λ k _. has_filled _ l c.filled.ensures k) c.mirrored_set-mirrored.ensures i
    (omega (arith, c.len.ensures.len)))
    c.prefix.ensures c.intersection.ensures)
