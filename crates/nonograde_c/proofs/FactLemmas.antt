-- What is made of the answer to a job is made of the puzzle and the settings of the job.
use Rattle.std.proofs.Common.{◌≡◌, ℕ}
use Rattle.grid_core.specs.Nonogram.{Nonogram}
use Rattle.solve_core.specs.declared.findings.Findings.{Findings}
use Rattle.solve_core.specs.declared.picks.Pick.{Pick}

-- an answer has the puzzle and the settings of its job, and what `report` finds of these
pub of_job : {A : Type 0} (make : Nonogram → Findings → A) (report : Pick → Nonogram → ℕ → Findings)
    (pick : Pick) (p : Nonogram) (limit : ℕ) (pick' : Pick) (p' : Nonogram) (limit' : ℕ) (shown : Nonogram) (found : Findings)
    → pick' ≡ pick → p' ≡ p → limit' ≡ limit → shown ≡ p' → found ≡ report pick' p' limit'
    → make shown found ≡ make p (report pick p limit)
of_job make report pick p limit pick' p' limit' shown found rule puzzle guesses is_shown is_found = cc

-- what is made of the settings and the puzzle of an answer is made of those of its job
pub same_job : {A : Type 0} (make : Pick → Nonogram → ℕ → A) (pick : Pick) (p : Nonogram) (limit : ℕ) (pick' : Pick) (p' : Nonogram)
    (limit' : ℕ) → pick' ≡ pick → p' ≡ p → limit' ≡ limit → make pick' p' limit' ≡ make pick p limit
same_job make pick p limit pick' p' limit' rule puzzle guesses = cc
