-- The report on a puzzle, computed from its two closures and from how its search ends.
use Rattle.solve_core.proofs.Names.{◌≡◌, ℕ, zero, suc, ◌+◌, ◌≤◌, true, false, List, [], ◌∷◌, ◌++◌, length, map, Option, nat_lt, refl, sym, ap, ◌∙◌, arith, subst, true≢false, zero-add, add-zero, option_and_then, cases_lt, le-ltb, lt-ltb, closure, trials, Cell, PartialGrid, Nonogram, lines_of, Findings, Event, Guess, Solution, through_solution, within_guesses, solutions_in, guesses_in, verdict_by, grid_of, whole_search, events_from, guesses_of, unknown_grid, line_closure, trial_closure, is_decided, known_in, grade_by, report_of, Some, events, Extensions, Verdict, extensions_by, limited_extending, IsFinal, Ending, ending, rules, ◌-◌, add-one, ◌<◌}

nat_lt-positive : (n : ℕ) → nat_lt 0 (suc n) ≡ true
nat_lt-positive n = lt-ltb 0 (suc n) (omega arith)

-- how a search ends, defined by its events up to the `n`-th solution and within the limit
abbrev defined : Nonogram → List PartialGrid → ℕ → ℕ → ℕ → List Event → Ending
defined p found n spent left es = record {
  found = found ++ map (grid_of p) (solutions_in (within_guesses left (through_solution n es)));
  cut = nat_lt (length (within_guesses left (through_solution n es))) (length (through_solution n es));
  spent = spent + guesses_in (within_guesses left (through_solution n es));
}

ending-one : (p : Nonogram) (a : PartialGrid) (spent left : ℕ) (es : List Event) →
    ending p (a ∷ []) spent left es ≡ defined p (a ∷ []) 1 spent left es
ending-one p a spent left [] = rw add-zero refl
ending-one p a spent left (Solution c ∷ es) = rw add-zero refl
ending-one p a spent zero (Guess ∷ es) = rw (add-zero, nat_lt-positive (length (through_solution 1 es))) refl
ending-one p a spent (suc left) (Guess ∷ es) = search (rules, cases_lt, lt-ltb, le-ltb, (ending-one p a (suc spent) left es))

ending-none : (p : Nonogram) (spent left : ℕ) (es : List Event) → ending p [] spent left es ≡ defined p [] 2 spent left es
ending-none p spent left [] = rw add-zero refl
ending-none p spent left (Solution c ∷ es) = search (rules, ending-one, cases_lt, lt-ltb, le-ltb)
ending-none p spent zero (Guess ∷ es) = rw (add-zero, nat_lt-positive (length (through_solution 2 es))) refl
ending-none p spent (suc left) (Guess ∷ es) = search (rules, cases_lt, lt-ltb, le-ltb, (ending-none p (suc spent) left es))

-- how the search of a puzzle ends that starts from the grid after trials
abbrev pub end_from : (List Cell → Option ℕ) → Nonogram → ℕ → Option (List Cell) → Ending
end_from pick p limit start = ending p [] 0 limit (events_from pick (lines_of p) start)

-- the report, computed from the grid after line deduction and the grid after trials
abbrev pub report_by : (List Cell → Option ℕ) → Nonogram → ℕ → Option (List Cell) → Option (List Cell) → Findings
report_by pick p limit closed tried = record {
  verdict = verdict_by (end_from pick p limit tried).found (end_from pick p limit tried).cut;
  grade = grade_by (is_decided closed) (is_decided tried);
  line_known = known_in closed;
  trial_known = known_in tried;
  spent = (end_from pick p limit tried).spent;
}

pub report-is : (pick : List Cell → Option ℕ) (p : Nonogram) (limit : ℕ) →
    report_by pick p limit (line_closure p) (trial_closure p) ≡ report_of pick p limit
report-is pick p limit = rw (ending-none p 0 limit (whole_search pick p), zero-add (guesses_of pick p limit)) refl

-- the solutions that the search from a grid finds, computed from how it ends
abbrev extensions_from : (List Cell → Option ℕ) → Nonogram → ℕ → Option (List Cell) → Extensions
extensions_from pick p limit start = record {
  verdict = verdict_by (end_from pick p limit start).found (end_from pick p limit start).cut;
  spent = (end_from pick p limit start).spent;
}

-- these are the solutions that extend a grid, if the search starts from the grid after trials
extensions-from-trials : (pick : List Cell → Option ℕ) (p : Nonogram) (given : List Cell) (limit : ℕ) →
    extensions_from pick p limit (trials (lines_of p) given) ≡ extensions_by pick p given limit
extensions-from-trials pick p given limit =
    let spent = zero-add (guesses_in (limited_extending pick p given limit)) in
    rw (ending-none p 0 limit (events_from pick (lines_of p) (trials (lines_of p) given)), spent) refl

pub extensions-found : (pick : List Cell → Option ℕ) (p : Nonogram) (given cells : List Cell) (limit : ℕ) (verdict : Verdict)
    (end : Ending) → end ≡ ending p [] 0 limit (events pick (lines_of p) cells) → Some cells ≡ trials (lines_of p) given →
    verdict ≡ verdict_by end.found end.cut → record { verdict = verdict; spent = end.spent } ≡ extensions_by pick p given limit
extensions-found pick p given cells limit verdict end ends tried is =
    let found : record { verdict = verdict; spent = end.spent } ≡ extensions_from pick p limit (Some cells) = rw (is, ends) refl in
    found ∙ ap (extensions_from pick p limit) tried ∙ extensions-from-trials pick p given limit

-- the report computed from the closure of the unknown grid, and from trials of that, is the defined report
pub report-of : (pick : List Cell → Option ℕ) (p : Nonogram) (limit : ℕ) (start : List Cell) (closed tried : Option (List Cell)) →
    start ≡ unknown_grid p → closed ≡ closure (lines_of p) start → tried ≡ option_and_then (trials (lines_of p)) closed →
    report_by pick p limit closed tried ≡ report_of pick p limit
report-of pick p limit start closed tried s c t =
    let lines : closed ≡ line_closure p = c ∙ ap (closure (lines_of p)) s in
    (λ i. report_by pick p limit (lines i) ((t ∙ ap (option_and_then (trials (lines_of p))) lines) i)) ∙ report-is pick p limit

-- a search with a final verdict was not cut short
ending-final : (p : Nonogram) (found : List PartialGrid) (spent left : ℕ) (es : List Event)
    → IsFinal (verdict_by (ending p found spent left es).found (ending p found spent left es).cut) →
    (ending p found spent left es).cut ≡ false
ending-final p (a ∷ b ∷ more) spent left es h = refl
ending-final p [] spent left (Solution c ∷ es) h = ending-final p (grid_of p c ∷ []) spent left es h
ending-final p found spent zero (Guess ∷ es) h = absurd h
ending-final p found spent (suc left) (Guess ∷ es) h = ending-final p found (suc spent) left es h
ending-final p _ spent left _ h = refl

-- a greater limit doesn't change how a search ends that was not cut short
ending-greater : (p : Nonogram) (found : List PartialGrid) (spent left greater : ℕ) (es : List Event) → left ≤ greater
    → (ending p found spent left es).cut ≡ false → ending p found spent greater es ≡ ending p found spent left es
ending-greater p (a ∷ b ∷ more) spent left greater es l h = refl
ending-greater p [] spent left greater (Solution c ∷ es) l h = ending-greater p (grid_of p c ∷ []) spent left greater es l h
ending-greater p found spent zero greater (Guess ∷ es) l h = absurd (true≢false h)
ending-greater p found spent (suc left) zero (Guess ∷ es) l h = absurd (omega arith)
ending-greater p found spent (suc left) (suc greater) (Guess ∷ es) l h = ending-greater p found (suc spent) left greater es (omega arith) h
ending-greater p _ spent left greater _ l h = refl

-- if the verdict is final, the report is the same for each greater limit
pub report-greater : (pick : List Cell → Option ℕ) (p : Nonogram) (limit greater : ℕ) → limit ≤ greater →
    IsFinal (report_of pick p limit).verdict → report_of pick p greater ≡ report_of pick p limit
report-greater pick p limit greater l h =
    let final : IsFinal (report_by pick p limit (line_closure p) (trial_closure p)).verdict =
    subst (λ (r : Findings). IsFinal r.verdict) (sym (report-is pick p limit)) h in
    let e = ending-greater p [] 0 limit greater (whole_search pick p) l (ending-final p [] 0 limit (whole_search pick p) final) in
    let same : report_by pick p greater (line_closure p) (trial_closure p) ≡ report_by pick p limit (line_closure p) (trial_closure p) =
    rw e refl in
    sym (report-is pick p greater) ∙ same ∙ report-is pick p limit

-- a guess that the limit allows is spent
ending-guess : (p : Nonogram) (found : List PartialGrid) (spent limit : ℕ) (es : List Event) → length found < 2 → spent < limit
    → ending p found spent (limit - spent) (Guess ∷ es) ≡ ending p found (spent + 1) (limit - (spent + 1)) es
ending-guess p found spent limit es l h = search (rules, add-one)

-- one turn of a search: a guess is spent, and with the events that follow it the search ends as before
pub ending-next : (p : Nonogram) (found more : List PartialGrid) (spent limit : ℕ) (whole : Ending) (before below after : List Event) →
    before ≡ Guess ∷ below → length found < 2 → spent < limit → ending p found spent (limit - spent) before ≡ whole →
    ((s l : ℕ) → ending p more s l after ≡ ending p found s l below) → ending p more (spent + 1) (limit - (spent + 1)) after ≡ whole
ending-next p found more spent limit whole before below after e few less given h =
    h (spent + 1) (limit - (spent + 1)) ∙ sym (ending-guess p found spent limit below few less) ∙
    ap (ending p found spent (limit - spent)) (sym e) ∙ given
