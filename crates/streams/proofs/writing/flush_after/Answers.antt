-- `flush_after`: an error means that the flush failed, and is counted.
use Rattle.std.proofs.Common.{arith, refl}
use Rattle.streams.proofs.writing.flush_after.Goals as goal

pub returns-in-Err-clause-failed : goal.returns-in-Err-clause-failed
returns-in-Err-clause-failed g c = (λ _. omega (arith, c.in-Err.ensures.counts), λ _. refl)

pub returns-in-Err-clause-sound : goal.returns-in-Err-clause-sound
returns-in-Err-clause-sound g c = tt
