-- Lemmas on sequences of entries: what they list, and how many entries at most.
use Rattle.std.proofs.Common.{◌≡◌, ◌≤◌, List, [], ◌∷◌, length, map, arith, Option, None, Some, refl}
use Rattle.puzzle_text.specs.declared.collections.Entry.{Entry}
use Rattle.puzzle_text.specs.declared.faults.EntryFault.{EntryFault}
use Rattle.lane_core.specs.declared.answers.Answer.{Answer}
use Rattle.survey_text.specs.Forms.{FormEntry}
use Rattle.survey_text.specs.Listings.{answered}
use Rattle.survey_text.specs.steps.Listings.{in_hand, textless}
use Rattle.survey_text.specs.declared.outcomes.Outcome.{Outcome}

-- if no outcome is missing from the sequence, the entries listed are all outcomes
pub listed_in_hand : (outcomes : List Outcome) (all : List FormEntry) → in_hand outcomes ≡ map Some all → all ≡ map textless outcomes
listed_in_hand [] [] listed = refl
listed_in_hand (outcome ∷ outcomes) (entry ∷ all) listed = let others = listed_in_hand outcomes all (cc) in cc
listed_in_hand outcomes all listed = cc

-- no more are listed than there are entries
pub few_answered : (entries : List Entry) (faults : List (Option EntryFault)) (answers : List Answer)
    → length (answered entries faults answers) ≤ length entries
few_answered (entry ∷ entries) (Some fault ∷ faults) answers = omega (arith, few_answered entries faults answers)
few_answered (entry ∷ entries) (None ∷ faults) (answer ∷ answers) = omega (arith, few_answered entries faults answers)
few_answered entries faults answers = omega arith
