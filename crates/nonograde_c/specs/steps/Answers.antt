-- The value of an answer that the code holds.
use Rattle.std.specs.Prelude.{ℕ, List, Result, Ok, Err, Vec}
use Rattle.std.specs.declared.alloc.Global.{Global}
use Rattle.nonograde_c.specs.declared.faults.Fault.{Fault}

-- the bytes of the text, or the fault
abbrev pub shown : Result (Vec ℕ Global) Fault → Result (List ℕ) Fault
shown (Ok text) = Ok text.items
shown (Err fault) = Err fault
