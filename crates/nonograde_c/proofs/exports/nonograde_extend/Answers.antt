-- `nonograde_extend`: the reply has the length of the text, or that of a fault word, which is shorter than any buffer for grids.
use Rattle.std.proofs.Common.{arith}
use Rattle.nonograde_c.proofs.LengthLemmas.{reply-le}
use Rattle.nonograde_c.proofs.exports.nonograde_extend.Goals as goal

pub returns-clause-within : goal.returns-clause-within
returns-clause-within c = λ width height fits.
    reply-le c.extend_answer-answer.result c.fill_answer.result _ _ _ (omega arith)
    (c.extend_answer-answer.ensures.within width height fits) c.fill_answer.ensures.answer c.fill_answer.ensures.short
