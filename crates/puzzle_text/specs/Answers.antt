-- Results of checks that follow each other, and what a call may return in place of a result.
use Rattle.std.specs.Prelude.{◌≡◌, ◌≢◌, List, [], ◌∷◌, Option, Some, None, Result, Ok, Err, option_and_then}
use Rattle.std.specs.Option.{option_map}
use Rattle.puzzle_text.specs.declared.faults.TextFault.{TextFault}

-- the result of `f` on the value of the first result, or the fault of the first result
infixl 10 ◌>>=◌
abbrev pub ◌>>=◌ : {A B : Type 0} → Result A TextFault → (A → Result B TextFault)
    → Result B TextFault
(Ok x) >>= f = f x
(Err fault) >>= f = Err fault

-- the value of the option, or `fault` if there is none
abbrev pub or_fault : {A : Type 0} → TextFault → Option A → Result A TextFault
or_fault fault None = Err fault
or_fault fault (Some x) = Ok x

-- the values of `step` at each element, in order, or the first fault
abbrev pub each : {X Y : Type 0} → (X → Result Y TextFault) → List X → Result (List Y) TextFault
each step [] = Ok []
each step (x ∷ xs) = step x >>= λ y. each step xs >>= λ ys. Ok (y ∷ ys)

-- the values of `step` at each element, in order, if it has one at each
abbrev pub each_some : {X Y : Type 0} → (X → Option Y) → List X → Option (List Y)
each_some step [] = Some []
each_some step (x ∷ xs) =
    option_and_then (λ y. option_map (λ ys. y ∷ ys) (each_some step xs)) (step x)

-- The call's result, its value seen through `view`, is `answer`; or the call returns `no_memory`,
-- which is allowed in place of any answer.
abbrev pub Gives : {F X Y : Type 0} → F → (X → Y) → Result X F → Result Y F → Type 0
Gives no_memory view (Ok x) answer = answer ≡ Ok (view x)
Gives no_memory view (Err fault) answer = fault ≢ no_memory → answer ≡ Err fault
