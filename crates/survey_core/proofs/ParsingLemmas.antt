-- Lemmas on entries that were read, their jobs and faults, and the answers to the puzzles among them.
use Rattle.std.proofs.Common.{◌≡◌, ℕ, suc, ◌+◌, ◌<◌, ◌≤◌, min, List, [], ◌∷◌, ◌++◌, length, map, take, drop, get_or, cond, is_none, IfOk, Option, None, Some, Result, Ok, Err, ap, refl, ◌∙◌, append-nil, append_assoc, arith}
use Rattle.std.proofs.Math.Seq.{take-add}
use Rattle.std.proofs.lemmas.List.{drop-drop, drop_at, length-append, length-map, map-append, map_more, take_at, map_push, take_min, drop_min}
use Rattle.std.proofs.lemmas.List.Sums.{sum_by-append}
use Rattle.grid_core.specs.Nonogram.{Nonogram}
use Rattle.puzzle_text.specs.declared.collections.Entry.{Entry}
use Rattle.puzzle_text.specs.declared.faults.EntryFault.{EntryFault}
use Rattle.puzzle_text.specs.declared.limits.TheConstants.{MAX_ENTRIES}
use Rattle.lane_core.specs.Answers.{AreAnswersTo}
use Rattle.lane_core.specs.declared.answers.Answer.{Answer}
use Rattle.lane_core.specs.declared.jobs.Job.{Job}
use Rattle.survey_text.proofs.NumberedLemmas.{made-more, numbered-append}
use Rattle.survey_text.specs.Forms.{FormEntry}
use Rattle.survey_text.specs.Listings.{answered}
use Rattle.survey_text.specs.Survey.{GuessSettings}
use Rattle.survey_core.proofs.ListingLemmas.{listed_graded}
use Rattle.survey_core.specs.Results.{AreResultsOf, parsed, parsed_all}
use Rattle.survey_core.specs.steps.Graded.{AreAnswersAt, AreGraded, puzzle_count, results_of, surveyed_all}
use Rattle.survey_core.specs.steps.ParsedEntries.{NumberedPuzzle, fault_of, job_of, jobs_from, shown_job}

-- one more entry appends its job, if it is a puzzle
pub jobs_from-more : (guesses : GuessSettings) (first : ℕ) (entries : List Entry) (i : ℕ) (d : Entry) → i < length entries
    → jobs_from guesses first (parsed_all (take (i + 1) entries)) ≡ jobs_from guesses first (parsed_all (take i entries)) ++
    job_of guesses (first + i) (parsed (get_or entries i d))
jobs_from-more guesses first entries i d h =
    made-more (λ (numbered : ℕ × Result Nonogram EntryFault). job_of guesses numbered.0 numbered.1) parsed first entries i d h

-- the jobs of two lists of entries, the second numbered on, are those of the first, followed by those of the second
pub jobs_from-append : (guesses : GuessSettings) (first : ℕ) (xs ys : List Entry)
    → jobs_from guesses first (parsed_all (xs ++ ys))
    ≡ jobs_from guesses first (parsed_all xs) ++ jobs_from guesses (first + length xs) (parsed_all ys)
jobs_from-append guesses first xs ys =
    rw (map-append parsed xs ys, ← length-map xs parsed)
    (numbered-append (λ (numbered : ℕ × Result Nonogram EntryFault). job_of guesses numbered.0 numbered.1) first (parsed_all xs)
    (parsed_all ys))

-- the faults of two lists of entries are those of the first, followed by those of the second
pub faults-append : (xs ys : List Entry)
    → map fault_of (parsed_all (xs ++ ys)) ≡ map fault_of (parsed_all xs) ++ map fault_of (parsed_all ys)
faults-append xs ys = simp map-append

-- answers to the jobs of entries are answers to the puzzles that were read
pub are_graded : (guesses : GuessSettings) (first : ℕ) (read : List (Result Nonogram EntryFault)) (jobs : List Job) (answers : List Answer)
    → map shown_job jobs ≡ jobs_from guesses first read → AreAnswersTo jobs answers → AreGraded guesses read answers
are_graded guesses first [] [] [] made answered = tt
are_graded guesses first [] [] (answer ∷ answers) made answered = absurd answered
are_graded guesses first (Err fault ∷ read) jobs answers made answered = are_graded guesses (first + 1) read jobs answers made answered
are_graded guesses first (Ok p ∷ read) (job ∷ jobs) (answer ∷ answers) made answered =
    let head : shown_job job ≡ record { number = first; puzzle = p; guesses = guesses.limit; pick = guesses.pick } = cc in
    let puzzle : job.puzzle ≡ p = ap (λ (shown : NumberedPuzzle). shown.puzzle) head in
    let limit : job.guesses ≡ guesses.limit = ap (λ (shown : NumberedPuzzle). shown.guesses) head in
    let pick : job.pick ≡ guesses.pick = ap (λ (shown : NumberedPuzzle). shown.pick) head in (
      record {
        puzzle = answered.0.puzzle ∙ puzzle;
        limit = answered.0.guesses ∙ limit;
        pick = answered.0.pick ∙ pick;
        outcome = rw (puzzle, limit, pick) at answered.0.outcome;
      },
      are_graded guesses (first + 1) read jobs answers (cc) answered.1,
    )
are_graded guesses first (Ok p ∷ read) (job ∷ jobs) [] made answered = absurd answered
are_graded guesses first read jobs answers made answered = cc

-- the value that `get_or` returns for an index past the end
abbrev pub no_entry : Entry
no_entry = record { name = record { ref_ptr = (0, 0); now = [] }; body = record { ref_ptr = (0, 0); now = [] } }

-- one more entry appends its fault, or that it has none
pub faults-more : (entries : List Entry) (i : ℕ) (d : Entry) → i < length entries
    → map fault_of (parsed_all (take (i + 1) entries)) ≡ map fault_of (parsed_all (take i entries)) ++
    fault_of (parsed (get_or entries i d)) ∷ []
faults-more entries i d h =
    rw (map_more parsed entries i d h) (map_push fault_of (parsed_all (take i entries)) (parsed (get_or entries i d)))

-- of the answers to the puzzles of two lists, those after the first list's are the answers to the second
graded_apart : (guesses : GuessSettings) (read others : List (Result Nonogram EntryFault)) (answers : List Answer)
    → AreGraded guesses (read ++ others) answers → AreGraded guesses others (drop (puzzle_count (map fault_of read)) answers)
graded_apart guesses [] others answers graded = graded
graded_apart guesses (Err fault ∷ read) others answers graded = graded_apart guesses read others answers graded
graded_apart guesses (Ok p ∷ read) others [] graded = absurd graded
graded_apart guesses (Ok p ∷ read) others (answer ∷ answers) graded =
    let one = sum_by-append (λ (fault : Option EntryFault). cond (is_none fault) 1 0) (None ∷ []) (map fault_of read) in
    let more : puzzle_count (map fault_of (Ok p ∷ read)) ≡ suc (puzzle_count (map fault_of read)) = omega (arith, one) in
    rw more (graded_apart guesses read others answers graded.1)

-- if the answers at an index are those to two lists of entries, they are those to the first
pub answers_in_front : (guesses : GuessSettings) (all : List (Option EntryFault)) (answers : List Answer) (first : ℕ) (xs ys : List Entry)
    → AreAnswersAt guesses all answers first (xs ++ ys) → AreAnswersAt guesses all answers first xs
answers_in_front guesses all answers first xs ys are = record {
  behind = ys ++ are.behind;
  few = omega (arith, are.few, length-append xs ys);
  faults = rw (append_assoc xs ys are.behind) at are.faults;
  graded = rw (append_assoc xs ys are.behind) at are.graded;
}

-- if the answers at an index are those to two lists of entries, those to the second list follow the first
pub answers_behind : (guesses : GuessSettings) (all : List (Option EntryFault)) (answers : List Answer) (first : ℕ) (xs ys : List Entry)
    → AreAnswersAt guesses all answers first (xs ++ ys) → AreAnswersAt guesses all answers (first + length xs) ys
unfolding answers_in_front
answers_behind guesses all answers first xs ys are =
    let front = answers_in_front guesses all answers first xs ys are in
    let before = take first all in
    let these = map fault_of (parsed_all xs) in
    let those = map fault_of (parsed_all (ys ++ are.behind)) in
    let here : drop first all ≡ these ++ those = front.faults ∙ faults-append xs (ys ++ are.behind) in
    let count : length these ≡ length xs = simp length-map in
    let counted : puzzle_count (take (first + length xs) all) ≡ puzzle_count before + puzzle_count these =
    rw (take-add first (length xs) all, here, take_at these those (length xs) count)
    (sum_by-append (λ (fault : Option EntryFault). cond (is_none fault) 1 0) before these) in
    record {
      behind = are.behind;
      few = omega (arith, are.few, length-append xs ys);
      faults = rw (← drop-drop (length xs) first all, here) (drop_at these those (length xs) count);
      graded = rw (counted, ← drop-drop (puzzle_count these) (puzzle_count before) answers)
          (graded_apart guesses (parsed_all xs) (parsed_all (ys ++ are.behind)) (drop (puzzle_count before) answers)
          (rw (map-append parsed xs (ys ++ are.behind)) at front.graded));
    }

-- if no entry of a chunk is missing from what it lists, it lists its entries, surveyed
pub chunk_surveyed : (guesses : GuessSettings) (all : List (Option EntryFault)) (answers : List Answer) (first : ℕ) (entries : List Entry)
    (before faults : List (Option EntryFault)) (left : List Answer) (listed : List FormEntry)
    → AreAnswersAt guesses all answers first entries → before ≡ take (min first (length all)) all
    → faults ≡ drop (min first (length all)) all → left ≡ drop (min (puzzle_count before) (length answers)) answers
    → answered entries faults left ≡ map Some listed → listed ≡ surveyed_all guesses entries
chunk_surveyed guesses all answers first entries before faults left listed are passed here behind lists =
    let same : faults ≡ map fault_of (parsed_all (entries ++ are.behind)) = here ∙ drop_min first all ∙ are.faults in
    let from : left ≡ drop (puzzle_count (take first all)) answers =
    rw (← take_min first all, ← passed) (behind ∙ drop_min (puzzle_count before) answers) in
    listed_graded guesses entries (parsed_all (entries ++ are.behind)) (parsed_all are.behind) left listed
    (map-append parsed entries are.behind) (rw from are.graded) (rw (← same) lists)

-- the surveyed entries of two lists are those of the first, followed by those of the second
pub surveyed_both : (guesses : GuessSettings) (xs ys : List Entry)
    → surveyed_all guesses (xs ++ ys) ≡ surveyed_all guesses xs ++ surveyed_all guesses ys
surveyed_both guesses xs ys = simp map-append

-- there are as many surveyed entries as entries
pub surveyed_count : (guesses : GuessSettings) (xs : List Entry) → length (surveyed_all guesses xs) ≡ length xs
surveyed_count guesses xs = simp length-map

-- if `A` implies that each result has `P`, each result has the property that `A` implies `P`
pub when_ok : {X E : Type 0} (A : Type 0) (P : X → Type 0) (r : Result X E) → (A → IfOk r P) → IfOk r (λ x. A → P x)
when_ok A P (Ok x) h = h
when_ok A P (Err e) h = tt

-- faults and answers of all entries are those at index 0
pub all_answered : (guesses : GuessSettings) (all : List (Option EntryFault)) (answers : List Answer) (entries : List Entry)
    → length entries ≤ MAX_ENTRIES → all ≡ map fault_of (parsed_all entries) → AreGraded guesses (parsed_all entries) answers
    → AreAnswersAt guesses all answers 0 entries
all_answered guesses all answers entries few faults graded_so = record {
  behind = [];
  few = omega (arith, few);
  faults = rw append-nil faults;
  graded = rw append-nil graded_so;
}

-- the results of entries that were read are their faults, and the answers to the puzzles among them
pub results_are : (guesses : GuessSettings) (read : List (Result Nonogram EntryFault)) (answers : List Answer)
    → AreGraded guesses read answers → AreResultsOf guesses read (results_of (map fault_of read) answers)
results_are guesses [] [] graded = tt
results_are guesses [] (answer ∷ answers) graded = absurd graded
results_are guesses (Err fault ∷ read) answers graded = (refl, results_are guesses read answers graded)
results_are guesses (Ok p ∷ read) [] graded = absurd graded
results_are guesses (Ok p ∷ read) (answer ∷ answers) graded = (graded.0, results_are guesses read answers graded.1)
