-- How the program ends: its exit status, and what it prints for a fault.
use Rattle.std.specs.Prelude.{◌≡◌, ℕ, ◌⊎◌, ◌<◌, ◌↔◌, List, string_bytes, Result, Ok, Err}
use Rattle.std.specs.Io.KnownBytes.{Appends, Keeps}
use Rattle.clap.specs.Words.{kind_of}
use Rattle.clap.specs.declared.error.kind.ErrorKind.{ErrorKind}
use Rattle.clap.specs.declared.error.kind.ErrorKind.TheVariants.{DisplayHelp, DisplayVersion}
use Rattle.program.specs.Checking.{Checks, check_status}
use Rattle.program.specs.Printing.{IsUntouched, IsUnwritten, Prints, PrintsFile, PrintsSurveyOf, Stream, convert_answer, lines_answer, solve_answer}
use Rattle.program.specs.Stop.{stop_line}
use Rattle.command_line.specs.declared.command.CommandFault.{CommandFault}
use Rattle.command_line.specs.declared.command.CommandFault.TheVariants.{NoMemory as command_memory, Words}
use Rattle.command_line.specs.declared.command.Request.{Request}
use Rattle.command_line.specs.declared.command.Request.TheVariants.{Survey, Check, Solve, Convert, Lines}
use Rattle.program.specs.declared.stop.Stop.{Stop}
use Rattle.program.specs.declared.stop.Stop.TheVariants.{NoMemory}

-- the program ends at `stop`: with status 1, and with the stop's line on standard error unless a
-- call on that failed
pub record Stops (stop : Stop) (status : ℕ) (errors : Stream) : Type 0 where
  pub gives : status ≡ 1
  pub printed : errors.new_faults ≡ errors.old_faults
      → Appends errors.old errors.new (stop_line stop)

-- how the program ends after a request that had this result: at its stop, or without one with the
-- status for its value, and then it prints nothing to standard error
abbrev pub EndsAfter : {U : Type 0} → (U → ℕ) → Result U Stop → ℕ → Stream → Type 0
EndsAfter status_of (Ok value) status errors =
    (status ≡ status_of value) × Keeps errors.old errors.new
EndsAfter status_of (Err stop) status errors = Stops stop status errors

-- the program prints, with a result `done` by which it ends; the result is that the output failed
-- exactly if a call on the output failed
pub record EndsPrinting {U : Type 0} (status_of : U → ℕ) (prints : Result U Stop → Type 0)
    (status : ℕ) (output errors : Stream) : Type 0 where
  pub done : Result U Stop
  pub printed : prints done
  pub unwritten : IsUnwritten done ↔ (output.old_faults < output.new_faults)
  pub ended : EndsAfter status_of done status errors

-- the status of a request that only prints
abbrev pub is_done : Unit {0} → ℕ
is_done _ = 0

-- how the program ends with a message of `clap`: help and the version are printed to the output;
-- otherwise the status is 2, and nothing is printed to the output
pub record EndsByWords (kind : ErrorKind) (status : ℕ) (output errors : Stream) : Type 0 where
  pub refused : (kind ≡ DisplayHelp → ⊥) → (kind ≡ DisplayVersion → ⊥)
      → (status ≡ 2) × Keeps output.old output.new
  pub shown : (kind ≡ DisplayHelp) ⊎ (kind ≡ DisplayVersion) →
      (text : List ℕ)
      × EndsPrinting is_done (λ done. Prints (Ok text) done output.old output.new)
      status output errors

-- the program ends because an allocation failed while it parsed its words
pub record EndsUnread (status : ℕ) (output errors : Stream) : Type 0 where
  pub silent : Keeps output.old output.new
  pub ended : Stops NoMemory status errors

-- how the program ends after a request for a survey, a check, or the solutions, the text in another
-- format or the closed grid of a file's puzzle; standard input is read only by a request that
-- surveys or checks it
abbrev pub EndsPerforming : Request → Stream → ℕ → Stream → Stream → Type 0
EndsPerforming (Survey survey) input status output errors =
    EndsPrinting is_done
    (λ done. PrintsSurveyOf survey input done output.old output.new)
    status output errors
EndsPerforming (Check check) input status output errors =
    EndsPrinting (check_status check.strict)
    (λ done. Checks check input done output.old output.new)
    status output errors
EndsPerforming (Solve guesses pick path) input status output errors =
    IsUntouched input × EndsPrinting is_done
    (λ done. PrintsFile (solve_answer guesses pick (string_bytes path))
    done output.old output.new)
    status output errors
EndsPerforming (Convert format path) input status output errors =
    IsUntouched input × EndsPrinting is_done
    (λ done. PrintsFile (convert_answer format (string_bytes path)) done output.old output.new)
    status output errors
EndsPerforming (Lines path) input status output errors =
    IsUntouched input × EndsPrinting is_done
    (λ done. PrintsFile (lines_answer (string_bytes path)) done output.old output.new)
    status output errors

-- how the program ends, by what its words ask for
abbrev pub EndsBy : Result Request CommandFault → Stream → ℕ → Stream → Stream → Type 0
EndsBy (Ok request) input status output errors =
    EndsPerforming request input status output errors
EndsBy (Err command_memory) input status output errors =
    IsUntouched input × EndsUnread status output errors
EndsBy (Err (Words error)) input status output errors =
    IsUntouched input × EndsByWords (kind_of error) status output errors
