-- What a call answers that checks a text.
use Rattle.std.proofs.Common.{◌≡◌, ℕ, List, Some, Ok, refl}
use Rattle.grid_core.specs.declared.limits.TheConstants.{MAX_SIDE}
use Rattle.puzzle_text.specs.Formats.{read_as}
use Rattle.puzzle_text.specs.declared.formats.Format.{Format}
use Rattle.solve_core.specs.declared.picks.Pick.{Pick}
use Rattle.nonograde_c.specs.Calls.{format_from_number, pick_within}
use Rattle.nonograde_c.specs.Checking.{check_answer, checked_text}

-- with a guess rule and a format, the answer is what is wrong with the text
pub check_answer-is : (guesses number format : ℕ) (name body : List ℕ) (pick : Pick) (kind : Format) (text : List ℕ)
    → Some pick ≡ pick_within guesses number → Some kind ≡ format_from_number format
    → text ≡ checked_text name guesses pick kind body (read_as kind MAX_SIDE body) → check_answer guesses number name format body ≡ Ok text
check_answer-is guesses number format name body pick kind text rule numbered is = rw (← rule, ← numbered, is) refl
