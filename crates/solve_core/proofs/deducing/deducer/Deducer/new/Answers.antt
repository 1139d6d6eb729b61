-- `Deducer::new`: empty clues fit into all sets, and nothing is deduced yet.
use Rattle.solve_core.proofs.Names.{rules}
use Rattle.solve_core.proofs.CacheLaws.{none_deduced}
use Rattle.solve_core.proofs.deducing.deducer.Deducer.new.Goals as goal

pub invariant_of-result : goal.invariant_of-result
invariant_of-result g c = none_deduced _ _ _ _ (search rules) c.in_ok-new-2.ensures c.in_ok-new-3.ensures
