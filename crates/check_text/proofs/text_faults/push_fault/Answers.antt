-- The sentences that quote a line.
use Rattle.check_text.proofs.text_faults.push_fault.Goals as goal

pub returns-in-Twice : goal.returns-in-Twice
returns-in-Twice c = rw c.in-Twice.is c.push_line_fault-in-Twice.ensures

pub returns-in-BadNumber : goal.returns-in-BadNumber
returns-in-BadNumber c = rw c.in-BadNumber.is c.push_line_fault-in-BadNumber.ensures
