-- `line_of`: all cells are read.
use Rattle.std.proofs.Common.{◌∙◌, arith}
use Rattle.diagnosis.proofs.LineReads.{line_read}
use Rattle.diagnosis.proofs.contradictions.line_of.Goals as goal

pub returns : goal.returns
returns c =
    let g = c.args.grid.now in
    line_read c.args.axis g.width g.height c.args.index g.cells c.loop-k.line (c.loop-k.invariant.0 ∙ c.line_len-len.ensures.len)
    (λ k l. c.loop-k.invariant.1 k (omega arith))
