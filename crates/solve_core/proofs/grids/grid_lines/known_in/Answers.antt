-- `known_in`: the cells between two unknown ones, and after the last one, are known.
use Rattle.solve_core.proofs.Names.{◌≡◌, ◌+◌, ◌-◌, arith, length, ap, take, take_all, count_by, count_by_more_no, is_known, Unknown, rules}
use Rattle.solve_core.proofs.Counting.{count-run}
use Rattle.solve_core.proofs.grids.grid_lines.known_in.Goals as goal

pub loop-place-preserved : goal.loop-place-preserved
loop-place-preserved g c =
    let cells = c.args.line.now in
    let from = c.loop-place.from in
    let place = c.in-Some.place in
    let next = c.in-Some.ensures in
    let run = count-run cells (place - from) from place (omega (arith, next.0)) (omega (arith, next.1)) next.3 in
    let here : count_by is_known (take (place + 1) cells) ≡ count_by is_known (take place cells) =
    count_by_more_no is_known cells place Unknown next.1 (ap is_known next.2) in
    search (rules, next, run, here)

pub returns : goal.returns
returns g c =
    let cells = c.args.line.now in
    let kept = c.loop-place.invariant in
    let from = c.loop-place.from in
    let run = count-run cells (length cells - from) from (length cells) (omega (arith, kept.within)) (omega arith) c.in_default.ensures in
    omega (arith, c.len-count.ensures.len, rw (take_all (length cells) cells (omega arith)) at run, kept.counted, kept.within)
