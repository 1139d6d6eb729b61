-- `inner_clue_range`: no run continues from a known end into the inner cells.
use Rattle.line_core.proofs.Names.{length, ◌-◌}
use Rattle.line_core.proofs.KnownEnds.{none_front, none_back, some_left, clue_part}
use Rattle.line_core.proofs.known_ends.inner_clue_range.Goals as goal

pub returns-in_err-from : goal.returns-in_err-from
returns-in_err-from g c =
    rw c.from_residual.ensures (none_front c.args.line.now _ _ c.requires.front c.requires.back c.args.clue.now c.in_err-from.ensures)

pub end_runs-requires-2-clause-clue : goal.end_runs-requires-2-clause-clue
end_runs-requires-2-clause-clue g c =
    clue_part _ (length c.args.clue.now - c.in_ok-from.from) c.in_ok-from.from c.args.clue.now c.requires.clue

pub returns-in_err-runs : goal.returns-in_err-runs
returns-in_err-runs g c =
    rw c.from_residual-in_err-runs.ensures (none_back c.args.line.now _ _ c.requires.front c.requires.back c.args.clue.now _
    c.in_ok-from.ensures c.in_err-runs.ensures)

pub returns : goal.returns
returns g c = some_left c.args.line.now _ _ c.requires.front c.requires.back c.args.clue.now _ _ c.in_ok-from.ensures c.in_ok-runs.ensures
