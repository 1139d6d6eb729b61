-- The fault of a survey whose answers could not be collected.
use Rattle.survey_core.specs.declared.collecting.CollectFault.{CollectFault}
use Rattle.survey_core.specs.declared.collecting.CollectFault.TheVariants as collect
use Rattle.survey_core.specs.declared.faults.RunFault.{RunFault}
use Rattle.survey_core.specs.declared.faults.RunFault.TheVariants as run

-- the fault of a survey for a fault of collecting its answers
abbrev pub run_fault : CollectFault → RunFault
run_fault collect.NoMemory = run.NoMemory
run_fault collect.Thread = run.Thread
