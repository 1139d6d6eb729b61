-- What a survey leaves in its writer, whose contents are `old` before and `new` after it.
use Rattle.std.specs.Prelude.{◌≡◌, ℕ, ◌≤◌, List, length, take, Option, Result, Ok, Err, IsOk}
use Rattle.std.specs.Io.KnownBytes.{Appends, Keeps}
use Rattle.puzzle_text.specs.declared.faults.CollectionFault.{CollectionFault}
use Rattle.survey_core.specs.declared.faults.RunFault.{RunFault}
use Rattle.survey_core.specs.declared.faults.RunFault.TheVariants.{Read, Collection, Thread, NoMemory, Write}

-- the whole text of `survey` was appended, and nothing else
abbrev pub WritesSurvey :
    Result (List ℕ) CollectionFault → Option (List ℕ) → Option (List ℕ) → Type 0
WritesSurvey survey old new = (text : List ℕ) × (survey ≡ Ok text) × Appends old new text

-- the first `sent` bytes of the text of `survey` were appended, and nothing else
abbrev pub WritesSurveyPrefix :
    Result (List ℕ) CollectionFault → ℕ → Option (List ℕ) → Option (List ℕ) → Type 0
WritesSurveyPrefix survey sent old new = (text : List ℕ) × (survey ≡ Ok text)
    × (sent ≤ length text) × Appends old new (take sent text)

-- from `old` to `new` the writer's contents changed as the fault allows: `Collection` is returned
-- only if it is the fault of `survey`, `Thread` and `Write` only if there is a survey, and only
-- `Write` leaves anything written
abbrev pub LeavesAt :
    Result (List ℕ) CollectionFault → RunFault → Option (List ℕ) → Option (List ℕ) → Type 0
LeavesAt survey Read old new = Keeps old new
LeavesAt survey (Collection fault) old new = (survey ≡ Err fault) × Keeps old new
LeavesAt survey Thread old new = IsOk survey × Keeps old new
LeavesAt survey NoMemory old new = Keeps old new
LeavesAt survey (Write sent) old new = WritesSurveyPrefix survey sent old new

-- the whole text of `survey` was appended if the call returned `Ok`, and otherwise what its fault
-- allows
abbrev pub Leaves : {U : Type 0}
    → Result (List ℕ) CollectionFault → Result U RunFault → Option (List ℕ) → Option (List ℕ)
    → Type 0
Leaves survey (Ok _) old new = WritesSurvey survey old new
Leaves survey (Err fault) old new = LeavesAt survey fault old new

-- the fault is that the writer failed
abbrev pub IsWrite : RunFault → Type 0
IsWrite (Write _) = Unit {0}
IsWrite Read = ⊥
IsWrite (Collection _) = ⊥
IsWrite Thread = ⊥
IsWrite NoMemory = ⊥

-- the call failed because the writer did
abbrev pub IsErrWrite : {U : Type 0} → Result U RunFault → Type 0
IsErrWrite (Ok _) = ⊥
IsErrWrite (Err fault) = IsWrite fault
