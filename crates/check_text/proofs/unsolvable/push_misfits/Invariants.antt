-- The loop of `push_misfits`: the findings on the clues so far are appended.
use Rattle.std.proofs.Common.{◌≡◌, ◌++◌, take}
use Rattle.std.specs.List.{flat_map}
use Rattle.check_text.specs.Unsolvable.{misfit_finding}
use Rattle.check_text.proofs.unsolvable.push_misfits.Given as goal

abbrev pub invariant-loop-misfit : goal.invariant-loop-misfit
invariant-loop-misfit l =
    l.text.items ≡ l.initial.text.items ++ flat_map (misfit_finding l.name l.puzzle) (take l.misfit-index l.misfits)
