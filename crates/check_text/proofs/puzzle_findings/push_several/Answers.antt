-- `push_several`: the pieces are appended one after the other.
use Rattle.check_text.proofs.Pieces.{two_pieces}
use Rattle.check_text.proofs.puzzle_findings.push_several.Goals as goal

pub returns : goal.returns
returns c = two_pieces _ _ _ _ _ _ c.in_ok-push_ambiguity.ensures c.push_missed_goal.ensures
