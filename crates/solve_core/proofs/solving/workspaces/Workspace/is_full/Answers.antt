-- `is_full`: all cells are known exactly if the number of known cells is the number of cells.
use Rattle.solve_core.proofs.Names.{rules, cases_Bool, eq-eqb, ne_eqb, true≢false}
use Rattle.solve_core.proofs.Counting.{known-and-unknown, none-unknown, all-of-none}
use Rattle.solve_core.proofs.solving.workspaces.Workspace.is_full.Goals as goal

pub returns : goal.returns
returns g c = search (rules, cases_Bool, eq-eqb, known-and-unknown, none-unknown, ne_eqb, true≢false, all-of-none)
