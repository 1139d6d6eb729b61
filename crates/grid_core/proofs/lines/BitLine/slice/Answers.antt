-- `BitLine::slice`: the masks are shifted down, and indices from `len` on are removed.
use Rattle.grid_core.proofs.Names.{◌≡◌, ◌∙◌, ℕ, ◌+◌, ◌<◌, ◌≤◌, List, length, take, drop, arith, nat_tests, get_or-drop, get_or-take, length-drop, length-take-le, Cell, Unknown, Has, IsMaskOf, line_cells}
use Rattle.grid_core.proofs.LineCells.{line_is, seen_at}
use Rattle.grid_core.proofs.lines.BitLine.slice.Goals as goal

cells-slice : (len f b n count indices sf sb nf nb : ℕ) (l : List Cell) → line_cells len f b ≡ l → n + count ≤ length l
    → IsMaskOf (λ i. i < count) indices → IsMaskOf (λ i. Has f (i + n)) sf → IsMaskOf (λ i. Has b (i + n)) sb
    → IsMaskOf (λ i. Has sf i × Has indices i) nf → IsMaskOf (λ i. Has sb i × Has indices i) nb
    → line_cells count nf nb ≡ take count (drop n l)
cells-slice len f b n count indices sf sb nf nb l e within pp qf qb pf pb =
    line_is count nf nb (take count (drop n l)) (omega (arith, length-take-le count (drop n l), length-drop n l)) (λ i h.
    let at = get_or-take count (drop n l) i Unknown h ∙ get_or-drop n l i Unknown in
    grind (
      arith,
      nat_tests,
      at,
      seen_at len f b (n + i) l e,
      pp.from i,
      qf.to i,
      qf.from i,
      qb.to i,
      qb.from i,
      pf.to i,
      pf.from i,
      pb.to i,
      pb.from i,
    ))

pub returns : goal.returns
returns g c =
    rw c.from.ensures (cells-slice _ _ _ c.args.from c.args.len _ _ _ _ _ _ c.self.view_is c.requires.1 c.prefix-indices.ensures
    c.shifted_down-filled.ensures c.shifted_down-blank.ensures c.intersection.ensures c.intersection-2.ensures)
