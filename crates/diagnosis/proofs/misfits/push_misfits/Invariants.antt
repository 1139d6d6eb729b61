-- The loop invariant of `push_misfits`: the misfits before line `index` are appended.
use Rattle.std.proofs.Common.{◌≡◌, ◌++◌, map}
use Rattle.std.specs.List.{filter, range_with_len}
use Rattle.diagnosis.specs.Misfits.{fit_of, is_misfit}
use Rattle.diagnosis.proofs.misfits.push_misfits.Given as goal

abbrev pub invariant-loop-index : goal.invariant-loop-index
invariant-loop-index l =
    l.found.items ≡ l.initial.found.items ++ filter is_misfit (map (fit_of l.axis l.puzzle) (range_with_len 0 l.index))
