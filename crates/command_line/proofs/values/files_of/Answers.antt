-- `files_of`: the copied words are those that name files.
use Rattle.std.proofs.Common.{ap, ◌∙◌, refl, map, List, ℕ, ◌≡◌, take}
use Rattle.std.specs.Borrow.{Bor}
use Rattle.clap.specs.Words.{found_of}
use Rattle.command_line.proofs.WordLemmas.{take_end, texts_of_entry}
use Rattle.command_line.proofs.values.files_of.Goals as goal

pub returns : goal.returns
returns c =
    let all : take c.loop-word.word-index c.unwrap_or-word-items.result.now ≡ c.unwrap_or-word-items.result.now =
    take_end _ _ c.loop-word-test.false c.loop-word.auto.word-index-end in
    c.loop-word.invariant ∙ ap (map (λ (v : Bor (List ℕ)). v.now)) all
    ∙ ap (λ (s : Bor (List (Bor (List ℕ)))). map (λ (v : Bor (List ℕ)). v.now) s.now) c.unwrap_or-word-items.ensures
    ∙ texts_of_entry (found_of c.args.matches.now) _ c.get_strs.result _ c.get_strs.ensures refl
