-- `clear_all`: all tables are passed, and there are no others.
use Rattle.solve_core.proofs.Names.{arith}
use Rattle.solve_core.proofs.TableSteps.{all_empty}
use Rattle.solve_core.proofs.deducing.lookahead_tables.clear_all.Goals as goal

pub returns : goal.returns
returns g c = all_empty c.loop-i.tables c.loop-i.i (omega (arith, c.loop-i.invariant.count, c.loop-i-test.false)) c.loop-i.invariant.passed
