-- Counting failed calls.
use Rattle.std.specs.Prelude.{ℕ, ◌+◌, ◌-◌, ◌^◌, min, Bool, true, false, List, ◌==◌, nat_lt, ◌&&◌, length, Result, Ok, Err}
use Rattle.streams.specs.declared.counted.Counted.{Counted}

-- how many calls failed, as far as a `u32` can count them
abbrev pub fault_count : {T : Type 0} → Counted T → ℕ
fault_count counted = counted.faults

-- `count`, or, if the test holds, one more, but at most the greatest `u32`
abbrev pub saturating_inc_if : Bool → ℕ → ℕ
saturating_inc_if true count = min (count + 1) (2 ^ 32 - 1)
saturating_inc_if false count = count

-- a write of `bytes` returned an error, or took none of at least one byte
abbrev pub write_failed : {E : Type 0} → Result ℕ E → List ℕ → Bool
write_failed (Ok count) bytes = (count == 0) && nat_lt 0 (length bytes)
write_failed (Err _) bytes = true
