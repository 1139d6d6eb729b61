-- Lemmas on dealing jobs in turn, and on taking their answers back in turn.
use Rattle.std.proofs.Common.{◌≡◌, ◌+◌, ◌%◌, ◌<◌, ◌==◌, if◌then◌else◌, ℕ, zero, suc, Bool, true, false, List, [], ◌∷◌, ◌++◌, length, take, drop, get_or, set, refl, ap, sym, ◌∙◌, subst, map, arith, eq-eqb, get_or-set_other, append_assoc}
use Rattle.std.proofs.Math.Nat.{mod-lt}
use Rattle.std.proofs.lemmas.Bool.Decides.{nat_tests}
use Rattle.std.proofs.lemmas.Grind.{common_steps}
use Rattle.std.proofs.lemmas.List.{map-set, length-map, get_or-map}
use Rattle.lane_core.specs.Answers.{AreAnswersTo}
use Rattle.lane_core.specs.declared.jobs.Job.{Job}
use Rattle.lane_core.specs.declared.answers.Answer.{Answer}
use Rattle.lane_core.proofs.AnswersLemmas.{AreAnswersTo-push}
use Rattle.survey_core.specs.steps.Dealt.{dealt_from, dealt}

-- appending the next element to the queue whose turn it is keeps what each queue gets in all
deal_when : {T : Type 0} (xss : List (List T)) (i k : ℕ) (x : T) (own later all : List T) (b : Bool) → (i == k) ≡ b → i < length xss
    → own ≡ get_or xss i [] ++ x ∷ [] → get_or xss k [] ++ (if b then x ∷ later else later) ≡ all
    → get_or (set xss i own) k [] ++ later ≡ all
deal_when xss i k x own later all true e h content before = grind (arith, common_steps)
deal_when xss i k x own later all false e h content before = grind (arith, common_steps)

-- once the next job went to the queue whose turn it is, each queue lacks just its share of the jobs after it
pub deal_next : {Q T : Type 0} (f : Q → List T) (qs : List Q) (n place : ℕ) (q q' : Q) (job : T) (rest xs : List T) →
    0 < n → length qs ≡ n → q ≡ get_or qs (place % n) q → f q' ≡ f q ++ job ∷ [] →
    ((k : ℕ) → k < n → get_or (map f qs) k [] ++ dealt_from place (job ∷ rest) n k ≡ dealt xs n k) →
    (k : ℕ) → k < n → get_or (map f (set qs (place % n) q')) k [] ++ dealt_from (place + 1) rest n k ≡ dealt xs n k
deal_next f qs n place q q' job rest xs some len e pushed before k b =
    let within : place % n < n = mod-lt place some in
    let at = get_or-map f qs (place % n) q [] (omega arith) ∙ ap f (sym e) in
    rw (map-set f qs (place % n) q') (deal_when (map f qs) (place % n) k job (f q') _ _ (place % n == k) refl
    (omega (arith, length-map qs f)) (pushed ∙ ap (λ l. l ++ job ∷ []) (sym at)) (before k b))

-- a list has an element at each index below its length, between the elements before it and those after it
next_of : {T : Type 0} (xs : List T) (i : ℕ) → i < length xs → (x : T) × (drop i xs ≡ x ∷ drop (suc i) xs) ×
    (take (suc i) xs ≡ take i xs ++ x ∷ [])
next_of [] i h = absurd (omega arith)
next_of (x ∷ xs) zero h = (x, refl, refl)
next_of (x ∷ xs) (suc i) h = let r = next_of xs i (omega arith) in (r.0, r.1, ap (λ l. x ∷ l) r.2)

-- if the first `i` elements moved to the end of a list, and the next one moves there too, the first `i + 1` have
pub turned : {T : Type 0} (xs : List T) (i : ℕ) (x : T) (rest : List T) → i < length xs → x ∷ rest ≡ drop i xs ++ take i xs
    → rest ++ x ∷ [] ≡ drop (i + 1) xs ++ take (i + 1) xs
turned xs i x rest h e =
    let r = next_of xs i h in
    let next : i + 1 ≡ suc i = omega arith in
    let both : x ∷ rest ≡ r.0 ∷ (drop (suc i) xs ++ take i xs) = e ∙ ap (λ l. l ++ take i xs) r.1 in
    let first : x ≡ r.0 = ap (λ l. get_or l 0 x) both in
    let others : rest ≡ drop (suc i) xs ++ take i xs = ap (drop 1) both in
    rw (next, r.2, first, others, append_assoc) refl

-- each of the queues `xss` has the answers to its share of the jobs from index `place` on
abbrev pub AllLeft : List Job → ℕ → ℕ → List (List Answer) → Type 0
AllLeft jobs n place xss = (k : ℕ) → k < n → AreAnswersTo (dealt_from place (drop place jobs) n k) (get_or xss k [])

-- the queue whose turn it is has the answer to the next job, and then those to its share of the jobs after it
interleave_turn : {Q : Type 0} (f : Q → List Answer) (qs : List Q) (n place : ℕ) (q : Q) (job : Job) (rest jobs : List Job) → 0 < n
    → length qs ≡ n → q ≡ get_or qs (place % n) q → drop place jobs ≡ job ∷ rest → AllLeft jobs n place (map f qs)
    → AreAnswersTo (job ∷ dealt_from (place + 1) rest n (place % n)) (f q)
interleave_turn f qs n place q job rest jobs some len e next left =
    let within : place % n < n = mod-lt place some in
    let at : get_or (map f qs) (place % n) [] ≡ f q = get_or-map f qs (place % n) q [] (omega arith) ∙ ap f (sym e) in
    let later = dealt_from (place + 1) rest n (place % n) in
    subst (λ (b : Bool). AreAnswersTo (if b then job ∷ later else later) (f q)) (eq-eqb (place % n) (place % n) refl)
    (rw (next, at) at (left (place % n) within))

-- without its first answer, the queue whose turn it was has the answers to its share, and the others are unchanged
interleave_rest : (later : ℕ → List Job) (job : Job) (xss : List (List Answer)) (i k : ℕ) (own : List Answer) (b : Bool) → (i == k) ≡ b
    → i < length xss → AreAnswersTo (later i) own → AreAnswersTo (if b then job ∷ later k else later k) (get_or xss k [])
    → AreAnswersTo (later k) (get_or (set xss i own) k [])
interleave_rest later job xss i k own true e h now before =
    let same : k ≡ i = grind (arith, nat_tests) in
    let at : get_or (set xss i own) k [] ≡ own = grind (arith, common_steps) in
    rw (at, same) now
interleave_rest later job xss i k own false e h now before =
    rw (get_or-set_other xss i k own [] (λ same. grind (arith, nat_tests))) before

-- as long as jobs are left, the queue whose turn it is is not empty
pub interleave_some : {Q : Type 0} (f : Q → List Answer) (qs : List Q) (n place : ℕ) (q : Q) (jobs : List Job) →
    0 < n → length qs ≡ n → place < length jobs → q ≡ get_or qs (place % n) q → AllLeft jobs n place (map f qs) → f q ≡ [] → ⊥
interleave_some f qs n place q jobs some len h e left empty =
    let r = next_of jobs place h in
    rw empty at (interleave_turn f qs n place q r.0 (drop (suc place) jobs) jobs some len e r.1 left)

-- taking the first answer of the queue whose turn it is answers one more job, and leaves the answers to the jobs after it
pub interleave_next : {Q : Type 0} (f : Q → List Answer) (qs : List Q) (n place : ℕ) (q q' : Q) (jobs : List Job) (answer : Answer)
    (interleaved : List Answer) →
    0 < n → length qs ≡ n → place < length jobs → q ≡ get_or qs (place % n) q → f q ≡ answer ∷ f q' →
    AreAnswersTo (take place jobs) interleaved → AllLeft jobs n place (map f qs) →
    AreAnswersTo (take (place + 1) jobs) (interleaved ++ answer ∷ []) × AllLeft jobs n (place + 1) (map f (set qs (place % n) q'))
interleave_next f qs n place q q' jobs answer interleaved some len h e front before left =
    let r = next_of jobs place h in
    let next : place + 1 ≡ suc place = omega arith in
    let within : place % n < n = mod-lt place some in
    let turn = rw front at (interleave_turn f qs n place q r.0 (drop (suc place) jobs) jobs some len e r.1 left) in (
      rw (next, r.2) (AreAnswersTo-push (take place jobs) interleaved r.0 answer before turn.0),
      λ k b. rw (map-set f qs (place % n) q')
          (subst (λ (m : ℕ).
          AreAnswersTo (dealt_from (place + 1) (drop m jobs) n k) (get_or (set (map f qs) (place % n) (f q')) k [])) (sym next)
          (interleave_rest (dealt_from (place + 1) (drop (suc place) jobs) n) r.0 (map f qs) (place % n) k (f q') (place % n == k) refl
          (omega (arith, length-map qs f)) turn.1 (rw r.1 at (left k b)))),
    )
