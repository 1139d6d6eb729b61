-- `is_met`: the clues of all lines are met exactly if those of all rows and those of all columns are.
use Rattle.grid_core.proofs.Names.{MeetsLine, Rows, Columns, values_of}
use Rattle.grid_core.proofs.LineLaws.{all_lines, each_line}
use Rattle.grid_core.proofs.pictures.is_met.Goals as goal

pub returns-then-are_rows_met : goal.returns-then-are_rows_met
returns-then-are_rows_met c =
    let P = MeetsLine (values_of c.args.picture) in
    let rows = c.are_rows_met.ensures.0 c.if-are_rows_met.true in (
      λ columns. record { size = c.requires; clues = all_lines P c.args.puzzle.now rows (c.are_columns_met.ensures.0 columns) },
      λ meets. c.are_columns_met.ensures.1 (each_line P c.args.puzzle.now meets.clues Columns),
    )

pub returns-else-are_rows_met : goal.returns-else-are_rows_met
returns-else-are_rows_met c = (
  λ rows. cc,
  λ meets. c.are_rows_met.ensures.1 (each_line (MeetsLine (values_of c.args.picture)) c.args.puzzle.now meets.clues Rows),
)
