-- Which outcomes a job may have.
use Rattle.std.specs.Prelude.{◌≡◌, ℕ, Result, Ok, Err}
use Rattle.grid_core.specs.Nonogram.{Nonogram}
use Rattle.grid_core.specs.declared.memory.NoMemory.{NoMemory}
use Rattle.solve_core.specs.declared.picks.Pick.{Pick}
use Rattle.solve_core.specs.Report.{findings_of}
use Rattle.solve_core.specs.declared.findings.Findings.{Findings}

-- an outcome is the report of `puzzle` under the limit `guesses` and by `pick`, or `NoMemory`
abbrev pub IsOutcome : Nonogram → ℕ → Pick → Result Findings NoMemory → Type 0
IsOutcome puzzle guesses pick (Ok found) = found ≡ findings_of pick puzzle guesses
IsOutcome puzzle guesses pick (Err refused) = Unit {0}
