-- `load_lines`: rows that are those of the grid, and columns with the same cells, are its lines.
use Rattle.solve_core.proofs.Names.{◌≡◌, ◌*◌, ◌∙◌, length, sym, arith, IsSize, length-row_of}
use Rattle.solve_core.proofs.GridLineSteps.{lines-long, lines-read}
use Rattle.solve_core.proofs.grids.grid_lines.load_lines.Goals as goal

pub load_rows-requires-clause-lengths : goal.load_rows-requires-clause-lengths
load_rows-requires-clause-lengths g c = λ y l.
    (lines-long c.args.rows.now c.args.columns.now 0 y c.requires.lines c.requires.lines.size.width_from l).0 ∙ sym c.requires.width

pub load_columns-requires-clause-rows : goal.load_columns-requires-clause-rows
load_columns-requires-clause-rows g c = grind (arith, length-row_of)

pub load_columns-requires-clause-columns : goal.load_columns-requires-clause-columns
load_columns-requires-clause-columns g c = λ x l.
    (lines-long c.args.rows.now c.args.columns.now x 0 c.requires.lines l c.requires.lines.size.height_from).1
    ∙ sym c.load_rows.ensures.len

pub returns-clause-lines : goal.returns-clause-lines
returns-clause-lines g c =
    let rows = c.load_rows.new.rows in
    let columns = c.load_columns.new.columns in
    let high = c.load_rows.ensures.len in
    let wide = c.load_columns.ensures.len in
    let size : IsSize (length columns) (length rows) = rw (high, wide) c.requires.lines.size in
    let count : length c.args.grid.now.cells ≡ length columns * length rows =
    c.load_rows.ensures.count c.requires.lines.size.height_from
    ∙ (λ i. (c.requires.width ∙ sym wide) i * (c.requires.height ∙ sym high) i) in
    lines-read c.args.grid.now rows columns size count (c.requires.width ∙ sym wide)
    (λ y l. c.load_rows.ensures.rows y (omega (arith, l, high)))
    (λ x l. c.load_columns.ensures.lengths x (omega (arith, l, wide)))
    (λ x y lx ly. c.load_columns.ensures.cells x y (omega (arith, lx, wide)) ly)
