-- How long the answers on a puzzle are: two grids and a line at most.
use Rattle.std.proofs.Common.{◌≡◌, ℕ, zero, suc, ◌+◌, ◌*◌, ◌^◌, ◌<◌, ◌≤◌, Bool, true, false, List, [], ◌∷◌, Option, Some, None, Result, Ok, Err, arith, rules, subst, length, map, count_by, option_and_then, option_map, length-append}
use Rattle.std.specs.Prelude.{IfErr, IfOk, IfSome, Vec, decimal, min, nat_lt}
use Rattle.std.specs.declared.alloc.Global.{Global}
use Rattle.std.specs.List.{flat_map, range_with_len}
use Rattle.std.proofs.Math.ListN.{length-map}
use Rattle.std.proofs.Math.Nat.{mul-le-mul}
use Rattle.std.proofs.lemmas.Fmt.{length-decimal-le}
use Rattle.std.proofs.lemmas.List.{length-replicate}
use Rattle.std.proofs.lemmas.List.FromFn.{length-range_with_len}
use Rattle.std.proofs.lemmas.List.Sums.{count_by-le-length}
use Rattle.grid_core.specs.Cells.{is_known}
use Rattle.grid_core.specs.Nonogram.{GridLine, IsNonogram, Nonogram, lines_of}
use Rattle.grid_core.specs.PartialGrid.{IsSize, PartialGrid}
use Rattle.grid_core.specs.declared.cells.Cell.{Cell}
use Rattle.grid_core.specs.declared.cells.Cell.TheVariants.{Unknown}
use Rattle.grid_core.specs.declared.limits.TheConstants.{MAX_SIDE}
use Rattle.lane_core.specs.declared.jobs.TheConstants.{MAX_GUESSES}
use Rattle.solve_core.proofs.ClosureLaws.{closure-IsLeastClosed}
use Rattle.solve_core.proofs.Names.{AtMost, length-Extends}
use Rattle.solve_core.proofs.TrialLaws.{trials-IsLeastClosed}
use Rattle.solve_core.specs.Closure.{closure}
use Rattle.solve_core.specs.Extensions.{extending_search, extensions_of}
use Rattle.solve_core.specs.Picks.{picked}
use Rattle.solve_core.specs.Report.{findings_of, grid_of, guesses_in, known_in, limited_search, line_closure, search_of, solutions_in, trial_closure, unknown_grid, verdict_by, verdict_of, within_guesses}
use Rattle.solve_core.specs.Search.{Event, Guess, Solution}
use Rattle.solve_core.specs.Trials.{trials}
use Rattle.solve_core.specs.declared.extensions.Extensions.{Extensions}
use Rattle.solve_core.specs.declared.findings.Findings.{Findings}
use Rattle.solve_core.specs.declared.findings.Grade.{Grade}
use Rattle.solve_core.specs.declared.findings.Grade.TheVariants.{Lines, Trials, Search}
use Rattle.solve_core.specs.declared.findings.Verdict.{Verdict}
use Rattle.solve_core.specs.declared.findings.Verdict.TheVariants.{Nothing, One, Several, Unsettled}
use Rattle.solve_core.specs.declared.picks.Pick.{Pick}
use Rattle.grid_core.specs.declared.puzzles.GoalWord.{GoalWord}
use Rattle.grid_core.specs.declared.puzzles.GoalWord.TheVariants.{Absent, Meets, Misses}
use Rattle.survey_text.specs.Entries.{entry_line, grade_word, solution_text, solutions_of, verdict_word}
use Rattle.survey_text.specs.Goals.{goal_text, goal_word}
use Rattle.survey_text.specs.Grids.{grid_text, row_text}
use Rattle.reports.specs.Reports.{closed_text, closed_word, lines_text, solve_text}
use Rattle.puzzle_text.specs.declared.faults.TextFault.TheVariants as text
use Rattle.nonograde_c.specs.Calls.{Fills, fault_word, line_of}
use Rattle.nonograde_c.specs.Closing.{close_text}
use Rattle.nonograde_c.specs.Extending.{extend_text, extensions_line}
use Rattle.nonograde_c.specs.Lengths.{FitsIn, buffer_size, two_grids_length}
use Rattle.nonograde_c.specs.declared.faults.Fault.{Fault}
use Rattle.nonograde_c.specs.declared.faults.Fault.TheVariants.{Setting, Text, Ambiguous, Cells}
use Rattle.nonograde_c.specs.declared.replies.Reply.{Reply}
use Rattle.nonograde_c.specs.declared.settings.Closing.{Closing}
use Rattle.nonograde_c.specs.declared.settings.Closing.TheVariants.{ByLines, ByTrials}
use Rattle.nonograde_c.specs.steps.Answers.{shown}

-- the text of some rows of a grid
length-rows_text : (g : PartialGrid) (a n : ℕ) → length (flat_map (row_text g) (range_with_len a n)) ≡ n * (g.width + 1)
length-rows_text g a zero = omega arith
length-rows_text g a (suc n) =
    simp (length-append, length-map, length-range_with_len, length-rows_text g (a + 1) n) (omega arith)

-- the text of a grid
length-grid_text : (g : PartialGrid) → length (grid_text g) ≡ g.height * (g.width + 1)
length-grid_text g = length-rows_text g 0 g.height

-- the solutions of a verdict
length-solutions : (p : Nonogram) (found : List (List Cell)) (cut : Bool)
    → length (flat_map solution_text (solutions_of (verdict_by (map (grid_of p) found) cut))) ≤ two_grids_length p.width p.height
length-solutions p [] true = omega arith
length-solutions p [] false = omega arith
length-solutions p (a ∷ []) true = simp length-append (omega (arith, length-grid_text (grid_of p a)))
length-solutions p (a ∷ []) false = simp length-append (omega (arith, length-grid_text (grid_of p a)))
length-solutions p (a ∷ b ∷ more) cut =
    simp length-append (omega (arith, length-grid_text (grid_of p a), length-grid_text (grid_of p b)))

-- a grid above another one knows no more cells than there are
known-le : (g : List Cell) (o : Option (List Cell)) → AtMost (Some g) o → known_in o ≤ length g
known-le g None above = omega arith
known-le g (Some cells) above = omega (arith, count_by-le-length is_known cells, length-Extends g cells above)

known-le_after : (lines : List GridLine) (g : List Cell) (o : Option (List Cell)) → AtMost (Some g) o
    → known_in (option_and_then (trials lines) o) ≤ length g
known-le_after lines g None above = omega arith
known-le_after lines g (Some cells) above =
    omega (arith, known-le cells (trials lines cells) (trials-IsLeastClosed lines cells).above, length-Extends g cells above)

-- a puzzle has at most 65,536 cells
cells-le : (p : Nonogram) → IsNonogram p → length (unknown_grid p) ≤ 65536
cells-le p is =
    let most : p.width * p.height ≤ 256 * 256 = mul-le-mul is.size.width_to is.size.height_to in
    omega (arith, length-replicate (p.width * p.height) Unknown)

line_known-le : (p : Nonogram) → IsNonogram p → known_in (line_closure p) ≤ 65536
line_known-le p is =
    omega (arith, cells-le p is, known-le (unknown_grid p) (line_closure p) (closure-IsLeastClosed (lines_of p) (unknown_grid p)).above)

trial_known-le : (p : Nonogram) → IsNonogram p → known_in (trial_closure p) ≤ 65536
trial_known-le p is =
    let above = (closure-IsLeastClosed (lines_of p) (unknown_grid p)).above in
    omega (arith, cells-le p is, known-le_after (lines_of p) (unknown_grid p) (line_closure p) above)

-- a search within a limit spends no more guesses
spent-le : (limit : ℕ) (es : List Event) → guesses_in (within_guesses limit es) ≤ limit
spent-le limit [] = omega arith
spent-le limit (Solution cells ∷ es) = spent-le limit es
spent-le zero (Guess ∷ es) = omega arith
spent-le (suc limit) (Guess ∷ es) = omega (arith, spent-le limit es)

-- the numbers in the line of an entry
side-digits : (n : ℕ) → n ≤ 256 → length (decimal n) ≤ 3
side-digits n h = length-decimal-le 3 n (omega arith) (omega arith) (omega arith)

known-digits : (n : ℕ) → n ≤ 65536 → length (decimal n) ≤ 5
known-digits n h = length-decimal-le 5 n (omega arith) (omega arith) (omega arith)

guess-digits : (n : ℕ) → n ≤ 1000000 → length (decimal n) ≤ 7
guess-digits n h = length-decimal-le 7 n (omega arith) (omega arith) (omega arith)

line-digits : (n : ℕ) → n < 2 ^ 32 → length (decimal n) ≤ 10
line-digits n h = length-decimal-le 10 n (omega arith) (omega arith) (omega arith)

-- the words in the line of an entry
verdict_word-le : (verdict : Verdict) → length (verdict_word verdict) ≤ 9
verdict_word-le Nothing = omega arith
verdict_word-le (One _) = omega arith
verdict_word-le (Several _ _) = omega arith
verdict_word-le (Unsettled _) = omega arith

grade_word-le : (grade : Grade) → length (grade_word grade) ≤ 6
grade_word-le Lines = omega arith
grade_word-le Trials = omega arith
grade_word-le Search = omega arith

goal_text-le : (goal : GoalWord) → length (goal_text goal) ≤ 6
goal_text-le Absent = omega arith
goal_text-le Meets = omega arith
goal_text-le Misses = omega arith

-- the line of an entry without its name
line-le : (name : List ℕ) (p : Nonogram) (findings : Findings) → p.width ≤ 256 → p.height ≤ 256 → findings.line_known ≤ 65536
    → findings.trial_known ≤ 65536 → findings.spent ≤ 1000000
    → length (entry_line 1 (record { name = name; result = Ok (p, findings) })) ≤ 55 + length name
line-le name p findings wide high lines trials spent =
    simp (length-append, length-map)
    (omega (
      arith,
      side-digits p.width wide,
      side-digits p.height high,
      known-digits findings.line_known lines,
      known-digits findings.trial_known trials,
      guess-digits findings.spent spent,
      length-decimal-le 1 1 (omega arith) (omega arith) (omega arith),
      verdict_word-le findings.verdict,
      grade_word-le findings.grade,
      goal_text-le (goal_word p),
    ))

-- a larger size has a longer buffer
size-le : (p : Nonogram) (width height : ℕ) → IsNonogram p → p.width ≤ width → p.height ≤ height
    → two_grids_length p.width p.height ≤ two_grids_length (min width MAX_SIDE) (min height MAX_SIDE)
size-le p width height is wide high =
    let wide' : p.width + 1 ≤ min width MAX_SIDE + 1 = omega (arith, is.size.width_to) in
    let high' : p.height ≤ min height MAX_SIDE = omega (arith, is.size.height_to) in
    omega (arith, mul-le-mul high' wide')

-- the solutions of a report
solutions-le : (pick : List Cell → Option ℕ) (p : Nonogram) (limit : ℕ)
    → length (flat_map solution_text (solutions_of (verdict_of pick p limit))) ≤ two_grids_length p.width p.height
solutions-le pick p limit =
    let found = limited_search pick p limit in
    length-solutions p (solutions_in found) (nat_lt (length found) (length (search_of pick p)))

-- the answer to grading `p`
pub solve_text-le : (name : List ℕ) (limit : ℕ) (pick : Pick) (p : Nonogram) (width height : ℕ) → IsNonogram p → limit ≤ MAX_GUESSES
    → p.width ≤ width → p.height ≤ height → length (solve_text name limit pick p) ≤ buffer_size width height + length name
solve_text-le name limit pick p width height is within wide high =
    let found = findings_of pick p limit in
    let head = entry_line 1 (record { name = name; result = Ok (p, found) }) in
    let solutions = flat_map solution_text (solutions_of (verdict_of (picked pick p.width) p limit)) in
    let spent : found.spent ≤ 1000000 = omega (arith, spent-le limit (search_of (picked pick p.width) p), within) in
    let head-le = line-le name p found is.size.width_to is.size.height_to (line_known-le p is) (trial_known-le p is) spent in
    let both : length (solve_text name limit pick p) ≡ length head + length solutions = length-append head solutions in
    omega (arith, both, head-le, solutions-le (picked pick p.width) p limit, size-le p width height is wide high)

closed_word-le : (grid : PartialGrid) → length (closed_word grid) ≤ 4
closed_word-le grid = search rules

-- the report on a closed grid of `p`
closed_text-le : (p : Nonogram) (o : Option (List Cell)) → known_in o ≤ 65536
    → length (closed_text (option_map (grid_of p) o)) ≤ 55 + two_grids_length p.width p.height
closed_text-le p None known = omega arith
closed_text-le p (Some cells) known =
    simp length-append (omega (arith, closed_word-le (grid_of p cells), known-digits _ known, length-grid_text (grid_of p cells)))

-- the answer of line logic to `p`
pub lines_text-le : (p : Nonogram) → IsNonogram p → length (lines_text p) ≤ 55 + two_grids_length p.width p.height
lines_text-le p is = closed_text-le p (line_closure p) (line_known-le p is)

-- a grid has at most 65,536 cells
pub grid_cells-le : (g : PartialGrid) → IsSize g.width g.height → length g.cells ≡ g.width * g.height → length g.cells ≤ 65536
grid_cells-le g size count =
    let most : g.width * g.height ≤ 256 * 256 = mul-le-mul size.width_to size.height_to in omega (arith, count, most)

-- the answer to closing a grid of `p`
pub close_text-le : (by : Closing) (p : Nonogram) (cells : List Cell) → length cells ≤ 65536
    → length (close_text by p cells) ≤ 55 + two_grids_length p.width p.height
close_text-le ByLines p cells few =
    let closed = closure (lines_of p) cells in
    closed_text-le p closed (omega (arith, few, known-le cells closed (closure-IsLeastClosed (lines_of p) cells).above))
close_text-le ByTrials p cells few =
    let closed = trials (lines_of p) cells in
    closed_text-le p closed (omega (arith, few, known-le cells closed (trials-IsLeastClosed (lines_of p) cells).above))

-- the line on the solutions that extend a grid
extensions_line-le : (found : Extensions) → found.spent ≤ 1000000 → length (extensions_line found) ≤ 55
extensions_line-le found spent =
    simp length-append (omega (arith, verdict_word-le found.verdict, guess-digits found.spent spent))

-- the answer on the solutions of `p` that extend a grid
pub extend_text-le : (pick : Pick) (limit : ℕ) (p : Nonogram) (cells : List Cell) → limit ≤ MAX_GUESSES
    → length (extend_text pick limit p cells) ≤ 55 + two_grids_length p.width p.height
extend_text-le pick limit p cells within =
    let whole = extending_search (picked pick p.width) p cells in
    let limited = within_guesses limit whole in
    let found = extensions_of pick p cells limit in
    let spent : found.spent ≤ 1000000 = omega (arith, spent-le limit whole, within) in
    let solutions = flat_map solution_text (solutions_of found.verdict) in
    let solutions-le : length solutions ≤ two_grids_length p.width p.height =
    length-solutions p (solutions_in limited) (nat_lt (length limited) (length whole)) in
    let both : length (extend_text pick limit p cells) ≡ length (extensions_line found) + length solutions =
    length-append (extensions_line found) solutions in
    omega (arith, both, extensions_line-le found spent, solutions-le)

-- an answer of at most a line and two grids of the puzzle that was read fits into the buffer
pub within-buffer : (read : Result Nonogram Fault) (p : Nonogram) (text made : List ℕ) → read ≡ Ok p → IsNonogram p → text ≡ made
    → length made ≤ 55 + two_grids_length p.width p.height
    → (width height : ℕ) → FitsIn width height read → length text ≤ buffer_size width height
within-buffer read p text made is_read is is_made few width height fits =
    let fits' : FitsIn width height (Ok p) = subst (FitsIn width height) is_read fits in
    rw is_made (omega (arith, few, size-le p width height is fits'.0 fits'.1))

-- the answer to grading the puzzle that was read
pub solve_answer-le : (name : List ℕ) (limit : ℕ) (pick : Pick) (read : Result Nonogram Fault) (p : Nonogram) (text : List ℕ) → read ≡ Ok p
    → IsNonogram p → limit ≤ MAX_GUESSES → text ≡ solve_text name limit pick p
    → (width height : ℕ) → FitsIn width height read → length text ≤ buffer_size width height + length name
solve_answer-le name limit pick read p text is_read is within made width height fits =
    let fits' : FitsIn width height (Ok p) = subst (FitsIn width height) is_read fits in
    rw made (solve_text-le name limit pick p width height is within fits'.0 fits'.1)

-- the reply to an answer of which a text has at most `most` bytes, and `most` is enough for any fault word
pub reply-le : (answer : Result (Vec ℕ Global) Fault) (reply : Reply) (old new : List ℕ) (most : ℕ) → 20 ≤ most
    → IfOk answer (λ text. length text.items ≤ most) → Fills (shown answer) reply old new → IfErr answer (λ _. reply.length ≤ 20)
    → reply.length ≤ most
reply-le (Ok text) reply old new most least within fills short = omega (arith, fills.reported, within)
reply-le (Err fault) reply old new most least within fills short = omega (arith, short)

-- a fault word whose number has 10 digits at most
pub fault_word-le : (fault : Fault) → IfSome (line_of fault) (λ number. number < 2 ^ 32) → length (fault_word fault) ≤ 20
fault_word-le Setting few = omega arith
fault_word-le Ambiguous few = omega arith
fault_word-le Cells few = omega arith
fault_word-le (Text text.TooLong) few = omega arith
fault_word-le (Text text.NoSize) few = omega arith
fault_word-le (Text text.BadSize) few = omega arith
fault_word-le (Text text.NoSection) few = omega arith
fault_word-le (Text (text.BadLine n)) few = simp length-append (omega (arith, line-digits n few))
fault_word-le (Text (text.Twice n)) few = simp length-append (omega (arith, line-digits n few))
fault_word-le (Text text.BadCount) few = omega arith
fault_word-le (Text (text.BadNumber n)) few = simp length-append (omega (arith, line-digits n few))
fault_word-le (Text (text.BadGoal n)) few = simp length-append (omega (arith, line-digits n few))
fault_word-le (Text text.NoMemory) few = omega arith
