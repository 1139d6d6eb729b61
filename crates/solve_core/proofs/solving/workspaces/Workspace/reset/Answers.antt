-- `Workspace::reset`: the parts, each prepared for the puzzle, are a workspace for it.
use Rattle.solve_core.proofs.Names.{◌≡◌, ◌≤◌, ◌++◌, ℕ, List, drop, drop-append_seam, length, length-replicate, refl, subst, sym, take, take-append_seam, ColourMasks, IsNonogram, IsPreparedFor, IsWorkspace, LineMasks, Nonogram, TrailedGrid, clues_only, state_of, unknown_board, rules}
use Rattle.grid_core.specs.Nonogram.{plain}
use Rattle.solve_core.proofs.CacheLaws.{clues_fit}
use Rattle.solve_core.proofs.solving.workspaces.Workspace.reset.Goals as goal

module _ (p : Nonogram) (is : IsNonogram p) (clues : List (List ℕ)) (board : TrailedGrid) (dirty : LineMasks)
    (consistent : List ColourMasks) (clues_are : clues ≡ p.rows ++ p.columns) (board_is : board ≡ unknown_board p.width p.height) where
  prepared : IsPreparedFor p (state_of clues board dirty consistent)
  prepared =
      let rows : take p.height (p.rows ++ p.columns) ≡ p.rows = rw is.clues.0 at (take-append_seam p.rows p.columns) in
      let columns : drop p.height (p.rows ++ p.columns) ≡ p.columns = rw is.clues.0 at (drop-append_seam p.rows p.columns) in
      record { nonogram = is; puzzle = rw (clues_are, board_is) (λ i. plain p.width p.height (rows i) (columns i)); board = board_is }

  workspace : (most : ℕ) → p.width ≤ most → p.height ≤ most → length consistent ≡ p.height →
      IsWorkspace most (state_of clues board dirty consistent)
  workspace most width height long =
      let of_clues : IsNonogram (clues_only p) = record {
        size = is.size;
        clues = is.clues;
        rows = is.rows;
        columns = is.columns;
        texts = search rules;
        goal = refl;
      } in
      record {
        puzzle = subst IsNonogram (sym prepared.puzzle) of_clues;
        fits = rw board_is (width, height);
        board = rw board_is (refl, refl, search (rules, length-replicate));
        rows = rw board_is long;
      }

pub swap_clues-requires : goal.swap_clues-requires
swap_clues-requires g c =
    rw (c.in_ok-append_clues-2.ensures, c.in_ok-append_clues.ensures, c.clear.ensures.items, c.rows.ensures.rows, c.columns.ensures.columns)
    (clues_fit _ c.args.puzzle.now c.width-width.ensures.puzzle c.requires)

pub invariant_of-self-2 : goal.invariant_of-self-2
invariant_of-self-2 g c =
    let p = c.args.puzzle.now in
    workspace p c.width-width.ensures.puzzle _ _ _ _
    (search (
      rules,
      c.swap_clues.ensures,
      c.in_ok-append_clues-2.ensures,
      c.in_ok-append_clues.ensures,
      c.clear.ensures.items,
      c.rows.ensures,
      c.columns.ensures,
    ))
    (search (rules, c.in_ok-reset-2.ensures.ok, c.width-width.ensures.width, c.height-height.ensures))
    _ (rw c.width-width.ensures.puzzle.clues.1 at c.requires.width_fits)
    (rw c.width-width.ensures.puzzle.clues.0 at c.requires.height_fits) (search (rules, c.reset-3.ensures, c.height-height.ensures))

pub returns-clause-ok : goal.returns-clause-ok
returns-clause-ok g c =
    prepared c.args.puzzle.now c.width-width.ensures.puzzle _ _ _ _
    (search (
      rules,
      c.swap_clues.ensures,
      c.in_ok-append_clues-2.ensures,
      c.in_ok-append_clues.ensures,
      c.clear.ensures.items,
      c.rows.ensures,
      c.columns.ensures,
    ))
    (search (rules, c.in_ok-reset-2.ensures.ok, c.width-width.ensures.width, c.height-height.ensures))
