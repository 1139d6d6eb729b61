-- What happens to an answer that is put into a ring, or held.
use Rattle.std.specs.Prelude.{◌≡◌, ℕ, ◌≤◌, List, [], ◌∷◌, ◌++◌, length, Option, Some, None}
use Rattle.lane_core.specs.declared.answers.Answer.{Answer}
use Rattle.lane_core.specs.declared.steps.Step.{Step}
use Rattle.lane_core.specs.declared.steps.Step.TheVariants.{Idle, Graded, Waiting, Done}

-- `answer` is put (`Graded`), and `old` becomes `new`; or it is held (`Waiting`), which needs that
-- at least as many answers were put as the ring holds
abbrev pub IsPutOrHeld : ℕ → Answer → Step → List Answer → List Answer → Option Answer → Type 0
IsPutOrHeld capacity answer Idle old new held = ⊥
IsPutOrHeld capacity answer Done old new held = ⊥
IsPutOrHeld capacity answer Graded old new held = (new ≡ old ++ answer ∷ []) × (held ≡ None)
IsPutOrHeld capacity answer Waiting old new held =
    (new ≡ old) × (held ≡ Some answer) × (capacity ≤ length old)
