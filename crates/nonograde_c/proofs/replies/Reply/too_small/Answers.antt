-- `Reply::too_small`: the reply has the status's number and the length.
use Rattle.std.proofs.Common.{rules}
use Rattle.nonograde_c.proofs.replies.Reply.too_small.Goals as goal

pub returns : goal.returns
returns c = search rules
