-- What a command prints and what it reads of standard input, by its result.
use Rattle.std.specs.Prelude.{◌≡◌, ℕ, ◌≤◌, ◌⊎◌, List, [], ◌∷◌, length, map, string_bytes, take, Option, IfSome, OnErr, OnOk, Result, Ok, Err}
use Rattle.std.specs.Io.KnownBytes.{Appends, IsAtEnd, Keeps}
use Rattle.puzzle_text.specs.Collections.{Entry as NamedText}
use Rattle.puzzle_text.specs.declared.faults.CollectionFault.{CollectionFault}
use Rattle.puzzle_text.specs.declared.faults.EntryFault.TheVariants.{Text}
use Rattle.puzzle_text.specs.declared.faults.TextFault.TheVariants as text
use Rattle.puzzle_text.specs.declared.formats.Format.{Format}
use Rattle.solve_core.specs.declared.picks.Pick.{Pick}
use Rattle.streams.specs.Counted.{fault_count}
use Rattle.survey_core.specs.GuessSettings.{guess_settings}
use Rattle.survey_core.specs.Leaving.{IsWrite, LeavesAt, WritesSurvey}
use Rattle.survey_text.specs.FormSurveys.{survey_in, survey_of_entries_in}
use Rattle.survey_text.specs.Forms.{Form}
use Rattle.streams.specs.declared.counted.Counted.{Counted}
use Rattle.survey_core.specs.declared.settings.Settings.{Settings}
use Rattle.reports.specs.Converting.{converted}
use Rattle.reports.specs.Reports.{lines_text, parsed, solve_text, text_or_fault}
use Rattle.command_line.specs.declared.surveys.SurveyRequest.{SurveyRequest}
use Rattle.program.specs.Forms.{form_of}
use Rattle.program.specs.Stop.{stop_of_convert}
use Rattle.program.specs.declared.stop.Stop.{Stop}
use Rattle.program.specs.declared.stop.Stop.TheVariants.{Entry, Run, Read, Write, NoMemory}

-- a stream before and after a call: its bytes, if known, and how many of its calls had failed
pub record Stream : Type 0 where
  pub old : Option (List ℕ)
  pub new : Option (List ℕ)
  pub old_faults : ℕ
  pub new_faults : ℕ

-- a counted stream before and after a call; `contents` returns the bytes of what it wraps
abbrev pub stream : {T : Type 0} → (T → Option (List ℕ)) → Counted T → Counted T → Stream
stream contents old new =
    record {
      old = contents old.inner;
      new = contents new.inner;
      old_faults = fault_count old;
      new_faults = fault_count new;
    }

-- the stream was neither read nor written, and no call on it failed
abbrev pub IsUntouched : Stream → Type 0
IsUntouched stream = (stream.new ≡ stream.old) × (stream.new_faults ≡ stream.old_faults)

-- the text, or the stop that its fault leads to
abbrev pub or_stop : {E : Type 0} → (E → Stop) → Result (List ℕ) E → Result (List ℕ) Stop
or_stop stop (Ok text) = Ok text
or_stop stop (Err fault) = Err (stop fault)

-- what `solve` prints for a file with this name and these bytes
abbrev pub solve_answer : ℕ → Pick → List ℕ → List ℕ → Result (List ℕ) Stop
solve_answer guesses pick name body =
    or_stop Entry (text_or_fault (solve_text name guesses pick) (parsed name body))

-- what `convert` prints for a file with this name and these bytes
abbrev pub convert_answer : Format → List ℕ → List ℕ → Result (List ℕ) Stop
convert_answer format name body = or_stop stop_of_convert (converted format (parsed name body))

-- what `lines` prints for a file with this name and these bytes
abbrev pub lines_answer : List ℕ → List ℕ → Result (List ℕ) Stop
lines_answer name body = or_stop Entry (text_or_fault lines_text (parsed name body))

-- the answer is a text, and all of it was appended to the output
abbrev pub PrintsWhole : Result (List ℕ) Stop → Option (List ℕ) → Option (List ℕ) → Type 0
PrintsWhole answer old new = (text : List ℕ) × (answer ≡ Ok text) × Appends old new text

-- the answer is a text, and a prefix of it was appended to the output
abbrev pub PrintsPrefix : Result (List ℕ) Stop → Option (List ℕ) → Option (List ℕ) → Type 0
PrintsPrefix answer old new = (text : List ℕ) × (answer ≡ Ok text) ×
    ((sent : ℕ) × (sent ≤ length text) × Appends old new (take sent text))

-- What printing `answer` appends to the output, by its result: the whole text; a prefix of it if
-- the output failed; nothing if the program stops at the answer's own fault, or with `NoMemory`,
-- which may be the result whatever the answer is.
abbrev pub Prints : {U : Type 0} → Result (List ℕ) Stop → Result U Stop →
    Option (List ℕ) → Option (List ℕ) → Type 0
Prints answer (Ok _) old new = PrintsWhole answer old new
Prints answer (Err Write) old new = PrintsPrefix answer old new
Prints answer (Err NoMemory) old new = Keeps old new
Prints answer (Err (Entry (Text text.NoMemory))) old new = Keeps old new
Prints answer (Err stop) old new = (answer ≡ Err stop) × Keeps old new

-- what printing the answer to a file appends to the output: for some bytes, those of the file, what
-- `Prints` says; nothing if the file can't be read
abbrev pub PrintsFile : {U : Type 0} → (List ℕ → Result (List ℕ) Stop) → Result U Stop →
    Option (List ℕ) → Option (List ℕ) → Type 0
PrintsFile answer (Err Read) old new = Keeps old new
PrintsFile answer result old new = (body : List ℕ) × Prints (answer body) result old new

-- what printing `survey` appends to the output, by its result
abbrev pub PrintsSurvey : {U : Type 0} → Result (List ℕ) CollectionFault → Result U Stop →
    Option (List ℕ) → Option (List ℕ) → Type 0
PrintsSurvey survey (Ok _) old new = WritesSurvey survey old new
PrintsSurvey survey (Err (Run fault)) old new = LeavesAt survey fault old new
PrintsSurvey survey (Err _) old new = ⊥

-- the entries with these names and these texts, in this order
abbrev pub named_texts : List (List ℕ) → List (List ℕ) → List NamedText
named_texts [] texts = []
named_texts (name ∷ names) [] = []
named_texts (name ∷ names) (text ∷ texts) =
    record { name = name; body = text } ∷ named_texts names texts

-- the survey in a form of files with these names and these bytes
abbrev pub files_survey : Form → Settings → List (List ℕ) → List (List ℕ) →
    Result (List ℕ) CollectionFault
files_survey form settings names texts =
    survey_of_entries_in form (guess_settings settings) (named_texts names texts)

-- what a survey in a form of the files with these names appends to the output: the survey of some
-- texts, one for each file; nothing if a file can't be read or an allocation fails
abbrev pub PrintsFiles : {U : Type 0} → Form → Settings → List (List ℕ) → Result U Stop →
    Option (List ℕ) → Option (List ℕ) → Type 0
PrintsFiles form settings names (Err Read) old new = Keeps old new
PrintsFiles form settings names (Err NoMemory) old new = Keeps old new
PrintsFiles form settings names result old new =
    (texts : List (List ℕ)) × (length texts ≡ length names) ×
    PrintsSurvey (files_survey form settings names texts) result old new

-- the result is a stop because the output failed
abbrev pub IsUnwritten : {U : Type 0} → Result U Stop → Type 0
IsUnwritten (Ok _) = ⊥
IsUnwritten (Err Write) = Unit {0}
IsUnwritten (Err (Run fault)) = IsWrite fault
IsUnwritten (Err _) = ⊥

-- what a survey in a form of standard input appends to the output, if its bytes are known; nothing,
-- whether they are known or not, if it stops but for a failed output; if the survey was printed,
-- the input was read to its end
abbrev pub PrintsInput : {U : Type 0} → Form → Settings → Stream → Result U Stop →
    Option (List ℕ) → Option (List ℕ) → Type 0
PrintsInput form settings input (Err NoMemory) old new = Keeps old new
PrintsInput form settings input result old new =
    IfSome input.old (λ bytes.
    PrintsSurvey (survey_in form (guess_settings settings) bytes) result old new) ×
    OnErr result (IsUnwritten result ⊎ Keeps old new) ×
    OnOk result (IsAtEnd input.new)

-- what a survey in a form appends to the output: that of the files with these names, without
-- touching standard input, or that of standard input if there are no files
abbrev pub PrintsSurveyIn : {U : Type 0} → Form → Settings → List (List ℕ) → Stream →
    Result U Stop → Option (List ℕ) → Option (List ℕ) → Type 0
PrintsSurveyIn form settings [] input result old new =
    PrintsInput form settings input result old new
PrintsSurveyIn form settings (name ∷ names) input result old new =
    IsUntouched input × PrintsFiles form settings (name ∷ names) result old new

-- what the survey that is asked for appends to the output, in the form of its format
abbrev pub PrintsSurveyOf : {U : Type 0} → SurveyRequest → Stream → Result U Stop →
    Option (List ℕ) → Option (List ℕ) → Type 0
PrintsSurveyOf survey input result old new =
    PrintsSurveyIn (form_of survey.format survey.settings.show) survey.settings
    (map string_bytes survey.files.items) input result old new
