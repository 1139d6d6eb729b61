-- `text_in`: the text that `clap` returned, or else the empty one, is the argument's value.
use Rattle.std.proofs.Common.{ap, ◌∙◌, refl, List, ℕ}
use Rattle.std.specs.Borrow.{Bor}
use Rattle.clap.specs.Words.{found_of}
use Rattle.command_line.proofs.WordLemmas.{text_of_entry}
use Rattle.command_line.proofs.values.text_in.Goals as goal

pub returns : goal.returns
returns c =
    ap (λ (s : Bor (List ℕ)). s.now) c.unwrap_or.ensures
    ∙ text_of_entry (found_of c.args.matches.now) c.args.id.now c.get_str.result _ c.get_str.ensures refl
