-- `WordPair::reversed`: both words are mirrored and exchanged.
use Rattle.std.proofs.Common.{rules}
use Rattle.bit_sets.proofs.Reversing.{words_reversed}
use Rattle.bit_sets.proofs.narrow.WordPair.reversed.Goals as goal

pub returns : goal.returns
returns c =
    words_reversed 64 c.args.self.low c.args.self.high _ _ (search rules) c.reversed-low.type_inv c.reversed-high.ensures
    c.reversed-low.ensures
