-- What was found of the first of several files, and what is left to find.
use Rattle.std.proofs.Common.{◌≡◌, ◌++◌, ◌∷◌, ℕ, List, [], map, Some, Option, Result, Ok, Err, IfOk, OnOk, ap, refl, append_assoc}
use Rattle.std.specs.List.{flat_map}
use Rattle.grid_core.specs.declared.limits.TheConstants.{MAX_SIDE}
use Rattle.grid_core.specs.Nonogram.{Nonogram}
use Rattle.solve_core.specs.Report.{findings_of}
use Rattle.lane_core.specs.declared.answers.Answer.{Answer}
use Rattle.puzzle_text.specs.Shown.{shown_entry}
use Rattle.puzzle_text.specs.declared.collections.Entry.{Entry as KeptEntry}
use Rattle.puzzle_text.specs.Formats.{read_entry}
use Rattle.puzzle_text.specs.declared.faults.EntryFault.{EntryFault}
use Rattle.survey_text.specs.Survey.{GuessSettings}
use Rattle.survey_core.specs.Results.{AreResultsOf, IsResultOf, parsed, parsed_all}
use Rattle.check_text.specs.declared.heads.Level.{Level}
use Rattle.check_text.specs.declared.heads.Level.TheVariants.{Error}
use Rattle.check_text.specs.declared.puzzle_findings.CheckOptions.{CheckOptions}
use Rattle.check_text.specs.declared.unread.Unread.{Unread}
use Rattle.check_text.specs.PuzzleFindings.{puzzle_findings, puzzle_level}
use Rattle.check_text.specs.TextFindings.{refused_text}
use Rattle.check_text.specs.Unread.{unread_finding}
use Rattle.check_core.specs.Checks.{entry_findings, entry_level, file_findings, file_level, findings_on, level_of}
use Rattle.check_core.specs.Files.{NamedFile, readable}
use Rattle.check_core.specs.declared.found.FoundFiles.{FoundFiles}

-- `found` is what is found of the files before `left`, which have these results
pub record IsFoundPart (options : CheckOptions) (guesses : GuessSettings) (files left : List NamedFile)
    (results : List (Result Answer EntryFault)) (found : FoundFiles)
    : Type 0 where
  pub answered : AreResultsOf guesses (map (read_entry MAX_SIDE) (readable left)) results
  pub text : found.text.items ++ flat_map (file_findings options guesses) left ≡ flat_map (file_findings options guesses) files
  pub levels : found.levels.items ++ map (file_level options guesses) left ≡ map (file_level options guesses) files

-- one more file that can't be read
pub unread_found : (options : CheckOptions) (guesses : GuessSettings) (files : List NamedFile) (name : List ℕ) (unread : Unread)
    (others : List NamedFile) (results : List (Result Answer EntryFault)) (found more : FoundFiles)
    → IsFoundPart options guesses files (record { name = name; body = Err unread } ∷ others) results found
    → more.text.items ≡ found.text.items ++ unread_finding name unread
    → more.levels.items ≡ found.levels.items ++ Some Error ∷ []
    → IsFoundPart options guesses files others results more
unread_found options guesses files name unread others results found more part text levels = record {
  answered = part.answered;
  text = rw (text, append_assoc) part.text;
  levels = rw (levels, append_assoc) part.levels;
}

-- one more file that can be read
pub entry_found : (options : CheckOptions) (guesses : GuessSettings) (files : List NamedFile) (name body : List ℕ)
    (others : List NamedFile) (result : Result Answer EntryFault) (results : List (Result Answer EntryFault)) (found more : FoundFiles)
    → IsFoundPart options guesses files (record { name = name; body = Ok body } ∷ others) (result ∷ results) found
    → (IsResultOf guesses (read_entry MAX_SIDE (record { name = name; body = body })) result
    → more.text.items ≡ found.text.items ++ entry_findings options guesses name body)
    → (IsResultOf guesses (read_entry MAX_SIDE (record { name = name; body = body })) result
    → more.levels.items ≡ found.levels.items ++ entry_level options guesses name body ∷ [])
    → IsFoundPart options guesses files others results more
entry_found options guesses files name body others result results found more part text levels = record {
  answered = part.answered.1;
  text = rw (text part.answered.0, append_assoc) part.text;
  levels = rw (levels part.answered.0, append_assoc) part.levels;
}

-- the findings on a graded puzzle are those on its entry
pub graded_findings : (options : CheckOptions) (guesses : GuessSettings) (name body : List ℕ) (read : Result Nonogram EntryFault)
    (answer : Answer) → IsResultOf guesses read (Ok answer)
    → puzzle_findings options name answer.puzzle answer.guesses (findings_of answer.pick answer.puzzle answer.guesses)
    ≡ findings_on options guesses name body read
graded_findings options guesses name body (Ok p) answer is = rw (is.puzzle, is.limit, is.pick) refl
graded_findings options guesses name body (Err fault) answer is = cc

-- and so is their level
pub graded_level : (options : CheckOptions) (guesses : GuessSettings) (read : Result Nonogram EntryFault) (answer : Answer)
    → IsResultOf guesses read (Ok answer)
    → puzzle_level options answer.puzzle (findings_of answer.pick answer.puzzle answer.guesses) ≡ level_of options guesses read
graded_level options guesses (Ok p) answer is = rw (is.puzzle, is.limit, is.pick) refl
graded_level options guesses (Err fault) answer is = cc

-- the finding on a refused text is that on its entry
pub refused_findings : (options : CheckOptions) (guesses : GuessSettings) (name body : List ℕ) (read : Result Nonogram EntryFault)
    (fault : EntryFault) → IsResultOf guesses read (Err fault) → refused_text name body fault ≡ findings_on options guesses name body read
refused_findings options guesses name body (Ok p) fault is = absurd is
refused_findings options guesses name body (Err other) fault is = let same : fault ≡ other = cc in rw same refl

-- and so is its level
pub refused_level : (options : CheckOptions) (guesses : GuessSettings) (read : Result Nonogram EntryFault) (fault : EntryFault)
    → IsResultOf guesses read (Err fault) → Some Error ≡ level_of options guesses read
refused_level options guesses (Ok p) fault is = absurd is
refused_level options guesses (Err other) fault is = refl

-- what reading entries returns, by their names and texts
parsed_is : (entries : List KeptEntry) → parsed_all entries ≡ map (read_entry MAX_SIDE) (map shown_entry entries)
parsed_is [] = refl
parsed_is (entry ∷ entries) = ap (λ (rest : List (Result Nonogram EntryFault)). parsed entry ∷ rest) (parsed_is entries)

-- the results of the entries of files are those of the files that can be read
pub results_of_files : (guesses : GuessSettings) (files : List NamedFile) (entries kept : List KeptEntry)
    (results given : List (Result Answer EntryFault)) → kept ≡ entries → given ≡ results → map shown_entry entries ≡ readable files
    → AreResultsOf guesses (parsed_all kept) results → AreResultsOf guesses (map (read_entry MAX_SIDE) (readable files)) given
results_of_files guesses files entries kept results given same passed are graded =
    rw (passed, ← are, ← parsed_is entries, ← same) graded

-- a text that was appended, under another name
pub with_text : {T E : Type 0} (r : Result T E) (old new found text : List ℕ) → found ≡ text → OnOk r (new ≡ old ++ found)
    → OnOk r (new ≡ old ++ text)
with_text r old new found text same appended = rw (← same) appended

-- a text that was appended without a failure, under another name
pub with_text_at_once : (old new found text : List ℕ) → found ≡ text → new ≡ old ++ found → new ≡ old ++ text
with_text_at_once old new found text same appended = rw (← same) appended

-- a level that was returned, under another name
pub with_level : {E : Type 0} (r : Result (Option Level) E) (found level : Option Level) → found ≡ level
    → IfOk r (λ worst. worst ≡ found) → IfOk r (λ worst. worst ≡ level)
with_level r found level same returned = rw (← same) returned
