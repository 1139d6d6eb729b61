-- `LookaheadTable::support_after`: the line is the table's with one more known cell, for which the table holds the support.
use Rattle.line_core.proofs.Names.{refl, sym, arith, ◌∙◌, ◌≡◌, length, get_or, Unknown}
use Rattle.grid_core.specs.Cells.{colour}
use Rattle.line_core.proofs.LookaheadLemmas.{has_one_cell_more, not_known, only_changed, lookahead_as}
use Rattle.line_core.proofs.lookahead_tables.LookaheadTable.support_after.Goals.{in-Filled, in-Blank}
use Rattle.line_core.proofs.lookahead_tables.LookaheadTable.support_after.Goals as goal

pub returns-in_err-index-clause-asked : goal.returns-in_err-index-clause-asked
returns-in_err-index-clause-asked g c = (
  λ some. absurd (some c.from_residual-in_err-index.ensures),
  λ one none. c.only_index.ensures.found one.x
      (only_changed c.args.self.now _ _ c.args.line.now _ c.self.view_is (sym c.in_ok-base.ensures.value) one c.diff.ensures.changes)
      c.in_err-index.was,
)

pub get-requires : goal.get-requires
get-requires g c = (c.diff.ensures.changes.to _ (c.in_ok-index.ensures.index.1.from _ refl)).0

pub returns : goal.returns
returns g c =
    let base = sym c.in_ok-base.ensures.value in
    let only = c.in_ok-index.ensures.index.1 in
    let long : length c.args.line.now ≡ length c.in_ok-base.base.now =
    omega (arith, c.len.ensures.len, c.len-2.ensures.len, c.if-len.false) in
    let unknown = sym c.get.ensures ∙ not_known _ c.if-is_known.ensures in
    let known : get_or c.args.line.now c.in_ok-index.index Unknown ≡ colour c.match-get.filled = elim c.match-get.branch [
      | in-Filled w ↦ rw w.filled-is (sym w.in-Filled.ensures)
      | in-Blank w ↦ rw w.filled-is (sym w.in-Blank.ensures)
    ] in
    let within = (c.diff.ensures.changes.to _ (only.from _ refl)).0 in
    record {
      support =
          λ clue table. lookahead_as c.args.self.now _ clue c.in_ok-base.base.now c.args.line.now c.in_ok-index.index _ c.match-get.filled
          c.index.result.now _ table c.self.view_is base (rw c.from.ensures at (sym c.index.ensures))
          (omega (arith, within, c.self.invariant.written _ base)) c.support_if.ensures long c.diff.ensures.changes only unknown known;
      asked = (
        λ some. has_one_cell_more c.args.self.now _ c.in_ok-base.base.now c.args.line.now c.in_ok-index.index _
            c.match-get.filled c.self.view_is base long c.diff.ensures.changes only unknown known,
        λ one none. cc,
      );
    }
