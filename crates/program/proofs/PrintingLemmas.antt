-- What a command appends to the output, from what its parts return and print.
use Rattle.std.proofs.Common.{◌≡◌, ◌≢◌, ◌≤◌, ◌++◌, ℕ, List, Option, Some, None, Result, Ok, Err, [], codes, length, take, refl, sym, ap, ◌∙◌, arith}
use Rattle.std.specs.Prelude.{IfErr, IfSome, IsErrAnd, OnErr, OnOk}
use Rattle.std.specs.Io.KnownBytes.{Appends}
use Rattle.std.proofs.KnownBytes.{Appends-trans, Keeps-refl}
use Rattle.grid_core.specs.Nonogram.{Nonogram}
use Rattle.puzzle_text.specs.Collections.{Entry as NamedText}
use Rattle.puzzle_text.specs.declared.faults.EntryFault.{EntryFault}
use Rattle.puzzle_text.specs.declared.faults.EntryFault.TheVariants.{Text}
use Rattle.puzzle_text.specs.declared.faults.TextFault.TheVariants.{NoMemory}
use Rattle.puzzle_text.specs.declared.formats.Format.{Format}
use Rattle.survey_core.specs.GuessSettings.{guess_settings}
use Rattle.survey_core.specs.Leaving.{LeavesAt, WritesSurvey}
use Rattle.survey_text.specs.FormSurveys.{survey_of_entries_in}
use Rattle.survey_text.specs.Forms.{Form}
use Rattle.survey_core.specs.declared.faults.RunFault.{RunFault}
use Rattle.survey_core.specs.declared.settings.Settings.{Settings}
use Rattle.reports.specs.Converting.{GivesConverted, converted}
use Rattle.program.specs.Printing.{Prints, PrintsFile, PrintsFiles, convert_answer, named_texts, or_stop}
use Rattle.reports.specs.Reports.{parsed, text_or_fault}
use Rattle.program.specs.Stop.{stop_line, stop_of_convert, stop_word}
use Rattle.reports.specs.declared.converting.ConvertFault.{ConvertFault}
use Rattle.reports.specs.declared.converting.ConvertFault.TheVariants as convert
use Rattle.program.specs.declared.stop.Stop.{Stop}
use Rattle.program.specs.declared.stop.Stop.TheVariants.{Entry, Run, Write, NoMemory as memory_stop}

-- a result that is an error, and whose error is `stop`
pub is_stop : (r : Result (Unit {0}) Stop) (stop : Stop) → IsErrAnd r (λ given. given ≡ stop) → r ≡ Err stop
is_stop (Ok _) stop is = absurd is
is_stop (Err given) stop is = ap (λ (s : Stop). Err s) is

-- if an allocation fails, nothing is printed
pub unprinted : (shown known : Option (List ℕ)) →
    (text : List ℕ) × IfSome shown (λ bytes. text ≡ bytes) × Prints {U = Unit {0}} (Ok text) (Err memory_stop) known known
unprinted None known = ([], tt, Keeps-refl known)
unprinted (Some text) known = (text, refl, Keeps-refl known)

-- if three pieces were sent one after another, the whole was sent
pub pieces_printed : (a b c : List ℕ) (r : Result (Unit {0}) Stop) (first second third last : Option (List ℕ))
    → Appends first second a → Appends second third b → OnOk r (Appends third last c) → OnOk r (Appends first last (a ++ b ++ c))
pieces_printed a b c (Ok _) first second third last begun given ended =
    Appends-trans first third last _ _ (Appends-trans first second third _ _ begun given) ended
pieces_printed a b c (Err _) first second third last begun given ended = tt

-- if a text answers a file's bytes, and all of it or a prefix was sent, `PrintsFile` holds
printed_of : (answer : List ℕ → Result (List ℕ) Stop) (body text : List ℕ) (r : Result (Unit {0}) Stop) (old new : Option (List ℕ))
    → answer body ≡ Ok text → OnOk r (Appends old new text)
    → OnErr r ((sent : ℕ) × (sent ≤ length text) × Appends old new (take sent text)) → IfErr r (λ stop. stop ≡ Write)
    → PrintsFile answer r old new
printed_of answer body text (Ok _) old new is whole front write = (body, (text, is, whole))
printed_of answer body text (Err stop) old new is whole front write = rw write (body, (text, is, front))

-- if a report is that of a file's bytes under its name, `PrintsFile` holds
pub report_printed : (report : List ℕ → Nonogram → List ℕ) (name given body items text : List ℕ) (r : Result (Unit {0}) Stop)
    (old new : Option (List ℕ))
    → given ≡ name → text ≡ items → text_or_fault (report given) (parsed given body) ≡ Ok items → OnOk r (Appends old new text)
    → OnErr r ((sent : ℕ) × (sent ≤ length text) × Appends old new (take sent text)) → IfErr r (λ stop. stop ≡ Write)
    → PrintsFile (λ bytes. or_stop Entry (text_or_fault (report name) (parsed name bytes))) r old new
report_printed report name given body items text r old new named same is whole front write =
    printed_of (λ bytes. or_stop Entry (text_or_fault (report name) (parsed name bytes))) body text r old new
    (ap (or_stop Entry) (ap (λ (n : List ℕ). text_or_fault (report n) (parsed n body)) (sym named) ∙ is ∙
    ap (λ (t : List ℕ). Ok t) (sym same))) whole front write

-- if a text is what a file's puzzle is converted to, `PrintsFile` holds
pub conversion_printed : (format : Format) (name given body items text : List ℕ) (r : Result (Unit {0}) Stop) (old new : Option (List ℕ))
    → given ≡ name → text ≡ items → converted format (parsed given body) ≡ Ok items → OnOk r (Appends old new text)
    → OnErr r ((sent : ℕ) × (sent ≤ length text) × Appends old new (take sent text)) → IfErr r (λ stop. stop ≡ Write)
    → PrintsFile (convert_answer format name) r old new
conversion_printed format name given body items text r old new named same is whole front write =
    printed_of (convert_answer format name) body text r old new
    (ap (or_stop stop_of_convert) (ap (λ (n : List ℕ). converted format (parsed n body)) (sym named) ∙ is ∙
    ap (λ (t : List ℕ). Ok t) (sym same))) whole front write

-- if a file's text is refused, nothing is printed, and the program stops at that fault
refused_entry : (text : Nonogram → List ℕ) (read : List ℕ → Result Nonogram EntryFault) (body : List ℕ) (fault : EntryFault)
    (known : Option (List ℕ))
    → (fault ≢ Text NoMemory → text_or_fault text (read body) ≡ Err fault)
    → PrintsFile {U = Unit {0}} (λ bytes. or_stop Entry (text_or_fault text (read bytes))) (Err (Entry fault)) known known
refused_entry text read body (Text NoMemory) known gives = (body, Keeps-refl known)
refused_entry text read body fault known gives = (body, (rw (gives (λ e. grind arith)) refl, Keeps-refl known))

-- if a file's text is refused, and the result is that fault, nothing is printed
pub refused_of : (report : List ℕ → Nonogram → List ℕ) (name given body : List ℕ) (fault : EntryFault) (r : Result (Unit {0}) Stop)
    (known : Option (List ℕ)) → given ≡ name
    → (fault ≢ Text NoMemory → text_or_fault (report given) (parsed given body) ≡ Err fault) → IsErrAnd r (λ stop. stop ≡ Entry fault)
    → PrintsFile (λ bytes. or_stop Entry (text_or_fault (report name) (parsed name bytes))) r known known
refused_of report name given body fault r known named gives is =
    rw (is_stop r _ is) (refused_entry (report name) (parsed name) body fault known (rw named at gives))

-- if a conversion fails, nothing is printed, and the program stops at its fault
unconverted : (format : Format) (name body : List ℕ) (fault : ConvertFault) (known : Option (List ℕ))
    → GivesConverted (Err fault) (converted format (parsed name body))
    → PrintsFile {U = Unit {0}} (convert_answer format name) (Err (stop_of_convert fault)) known known
unconverted format name body convert.NoMemory known gives = (body, Keeps-refl known)
unconverted format name body (convert.Entry (Text NoMemory)) known gives = (body, Keeps-refl known)
unconverted format name body fault known gives = (body, (rw (gives (λ e. grind arith)) refl, Keeps-refl known))

-- if a conversion fails, and the result is its fault, nothing is printed
pub unconverted_of : (format : Format) (name given body : List ℕ) (fault : ConvertFault) (r : Result (Unit {0}) Stop)
    (known : Option (List ℕ))
    → given ≡ name → GivesConverted (Err fault) (converted format (parsed given body)) → IsErrAnd r (λ stop. stop ≡ stop_of_convert fault)
    → PrintsFile (convert_answer format name) r known known
unconverted_of format name given body fault r known named gives is =
    rw (is_stop r _ is) (unconverted format name body fault known (rw named at gives))

-- if the entries are those of the files, their survey is that of the files
pub files_written : (form : Form) (settings : Settings) (names texts : List (List ℕ)) (entries : List NamedText)
    (old new : Option (List ℕ))
    → length texts ≡ length names → entries ≡ named_texts names texts
    → WritesSurvey (survey_of_entries_in form (guess_settings settings) entries) old new →
    PrintsFiles {U = Unit {0}} form settings names (Ok (tt {0})) old new
files_written form settings names texts entries old new same is written = (texts, same, rw is at written)

-- if the entries are those of the files, a survey that fails leaves both as the program does
pub files_left : (form : Form) (settings : Settings) (names texts : List (List ℕ)) (entries : List NamedText) (fault : RunFault)
    (old new : Option (List ℕ))
    → length texts ≡ length names → entries ≡ named_texts names texts
    → LeavesAt (survey_of_entries_in form (guess_settings settings) entries) fault old new
    → PrintsFiles {U = Unit {0}} form settings names (Err (Run fault)) old new
files_left form settings names texts entries fault old new same is left = (texts, same, rw is at left)
