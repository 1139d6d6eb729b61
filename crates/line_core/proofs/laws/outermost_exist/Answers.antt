-- The law `outermost_exist`: the least starts of all runs lay out the clue, and so do the greatest.
use Rattle.line_core.proofs.Names.{Left, Right}
use Rattle.line_core.proofs.EndLaws.{outermost-exists}
use Rattle.line_core.proofs.DeductionLaws.{test_is}
use Rattle.line_core.proofs.laws.outermost_exist.Goals as goal

pub returns : goal.returns
returns c =
    λ line clue starts s.
    let p = (test_is line clue s.0).0 s.1 in (outermost-exists Left line clue s.0 p, outermost-exists Right line clue s.0 p)
