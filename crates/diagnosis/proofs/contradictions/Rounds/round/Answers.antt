-- `round`: the lines are deduced, and then joined.
use Rattle.std.proofs.Common.{sym, ◌∙◌}
use Rattle.grid_core.specs.declared.axes.Axis.TheVariants.{Columns, Rows}
use Rattle.diagnosis.specs.Rounds.{AreDeduced}
use Rattle.diagnosis.proofs.RoundSteps.{columns-long, made, rows-long, shown}
use Rattle.diagnosis.proofs.contradictions.Rounds.round.Goals as goal

pub join_lines-requires-clause-rows : goal.join_lines-requires-clause-rows
join_lines-requires-clause-rows c =
    let p = c.args.puzzle.now in
    let g = c.args.self.now.grid.cells in
    let rows = c.deref.result.now in
    let columns = c.deref-2.result.now in
    let r : AreDeduced Rows p g rows = rw c.deref.ensures.value (c.in_ok-index.ensures.lines c.in_default.is) in
    let q : AreDeduced Columns p g columns = rw c.deref-2.ensures.value (c.in_ok-index-2.ensures.lines c.in_default-2.is) in
    rows-long p c.requires.puzzle g rows columns r q

pub join_lines-requires-clause-columns : goal.join_lines-requires-clause-columns
join_lines-requires-clause-columns c =
    let p = c.args.puzzle.now in
    let g = c.args.self.now.grid.cells in
    let rows = c.deref.result.now in
    let columns = c.deref-2.result.now in
    let r : AreDeduced Rows p g rows = rw c.deref.ensures.value (c.in_ok-index.ensures.lines c.in_default.is) in
    let q : AreDeduced Columns p g columns = rw c.deref-2.ensures.value (c.in_ok-index-2.ensures.lines c.in_default-2.is) in
    columns-long p c.requires.puzzle g rows columns r q

pub returns-in-Some-join_lines-clause-contradiction : goal.returns-in-Some-join_lines-clause-contradiction
returns-in-Some-join_lines-clause-contradiction c =
    let p = c.args.puzzle.now in
    let g = c.args.self.now.grid.cells in
    let rows = c.deref.result.now in
    let columns = c.deref-2.result.now in
    let r : AreDeduced Rows p g rows = rw c.deref.ensures.value (c.in_ok-index.ensures.lines c.in_default.is) in
    let q : AreDeduced Columns p g columns = rw c.deref-2.ensures.value (c.in_ok-index-2.ensures.lines c.in_default-2.is) in
    let no_row = sym c.in_ok-index.ensures.dead ∙ c.in_default.is in
    let no_column = sym c.in_ok-index-2.ensures.dead ∙ c.in_default-2.is in
    let conflict = rw (c.requires.size.0, c.requires.size.1) at (sym c.join_lines.ensures.conflict ∙ c.in-Some-join_lines.is) in
    let all = shown p c.requires.puzzle g rows columns r q no_row no_column in
    sym (rw conflict at all)

pub returns-in-None-clause-contradiction : goal.returns-in-None-clause-contradiction
returns-in-None-clause-contradiction c =
    let p = c.args.puzzle.now in
    let g = c.args.self.now.grid.cells in
    let rows = c.deref.result.now in
    let columns = c.deref-2.result.now in
    let r : AreDeduced Rows p g rows = rw c.deref.ensures.value (c.in_ok-index.ensures.lines c.in_default.is) in
    let q : AreDeduced Columns p g columns = rw c.deref-2.ensures.value (c.in_ok-index-2.ensures.lines c.in_default-2.is) in
    let no_row = sym c.in_ok-index.ensures.dead ∙ c.in_default.is in
    let no_column = sym c.in_ok-index-2.ensures.dead ∙ c.in_default-2.is in
    let conflict = rw (c.requires.size.0, c.requires.size.1) at (sym c.join_lines.ensures.conflict ∙ c.in-None.is) in
    let all = shown p c.requires.puzzle g rows columns r q no_row no_column in
    sym (rw conflict at all)

pub returns-in-None-clause-grid : goal.returns-in-None-clause-grid
returns-in-None-clause-grid c =
    let p = c.args.puzzle.now in
    let g = c.args.self.now.grid.cells in
    let rows = c.deref.result.now in
    let columns = c.deref-2.result.now in
    let r : AreDeduced Rows p g rows = rw c.deref.ensures.value (c.in_ok-index.ensures.lines c.in_default.is) in
    let q : AreDeduced Columns p g columns = rw c.deref-2.ensures.value (c.in_ok-index-2.ensures.lines c.in_default-2.is) in
    let count = rw (c.requires.size.0, c.requires.size.1) at c.join_lines.ensures.count in
    let each = rw (c.requires.size.0, c.requires.size.1) at (c.join_lines.ensures.cells c.in-None.is) in
    λ none. made p c.requires.puzzle g rows columns r q c.join_lines.new.grid.cells c.requires.cells count each
