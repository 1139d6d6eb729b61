-- The loop of `ConflictHints::record_conflict` conflicts, since each turn uses some of the remaining capacity.
use Rattle.solve_core.proofs.Names.{◌-◌, vec_len, vec_capacity}
use Rattle.solve_core.proofs.records.conflict_hints.ConflictHints.record_conflict.Given as goal

abbrev pub decreases-loop-self : goal.decreases-loop-self
decreases-loop-self g l = vec_capacity l.self.conflicts - vec_len l.self.conflicts
