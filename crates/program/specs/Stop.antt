-- Why the program stops, and the line that it prints then.
use Rattle.std.specs.Prelude.{ℕ, List, ◌++◌, codes}
use Rattle.puzzle_text.specs.Words.{word_of, word_of_collection}
use Rattle.survey_core.specs.declared.faults.RunFault.{RunFault}
use Rattle.survey_core.specs.declared.faults.RunFault.TheVariants as run
use Rattle.reports.specs.declared.converting.ConvertFault.{ConvertFault}
use Rattle.reports.specs.declared.converting.ConvertFault.TheVariants as convert
use Rattle.program.specs.declared.stop.Stop.{Stop}
use Rattle.program.specs.declared.stop.Stop.TheVariants as stop

-- the fault word of a failed survey: a collection's fault keeps its own word, and the number of
-- bytes written before a failure isn't part of it
abbrev pub run_word : RunFault → List ℕ
run_word run.Read = codes "Read"
run_word (run.Collection fault) = word_of_collection fault
run_word run.Thread = codes "Thread"
run_word run.NoMemory = codes "NoMemory"
run_word (run.Write _) = codes "Write"

-- the fault word of a stop
abbrev pub stop_word : Stop → List ℕ
stop_word (stop.Entry fault) = word_of fault
stop_word (stop.Run fault) = run_word fault
stop_word stop.Ambiguous = codes "Ambiguous"
stop_word stop.Read = codes "Read"
stop_word stop.Write = codes "Write"
stop_word stop.NoMemory = codes "NoMemory"

-- the line that the program prints when it stops
abbrev pub stop_line : Stop → List ℕ
stop_line stop = codes "nonograde: " ++ stop_word stop ++ codes "\n"

-- why the program stops if a conversion fails
abbrev pub stop_of_convert : ConvertFault → Stop
stop_of_convert (convert.Entry fault) = stop.Entry fault
stop_of_convert convert.Ambiguous = stop.Ambiguous
stop_of_convert convert.NoMemory = stop.NoMemory

-- a file can't be read, or an allocation for its bytes failed
abbrev pub IsUnread : Stop → Type 0
IsUnread stop.Read = Unit {0}
IsUnread stop.NoMemory = Unit {0}
IsUnread _ = ⊥
