-- `push_tail`: what stands after the entries is the totals, escaped, and the tail of the page.
use Rattle.std.proofs.Common.{◌≡◌, ◌++◌, ℕ, List, OnOk, Result, append_assoc}
use Rattle.std.proofs.lemmas.Result.{on_ok_weaker}
use Rattle.survey_page.proofs.forms.HtmlFormSurveyForm.push_tail.Goals as goal

module _ {T E : Type 0} (r : Result T E) (old first new a b : List ℕ) where
  joined : first ≡ old ++ a → new ≡ first ++ b → new ≡ old ++ (a ++ b)
  joined p q = rw (q, p) (simp append_assoc)

  two_pieces : first ≡ old ++ a → OnOk r (new ≡ first ++ b) → OnOk r (new ≡ old ++ (a ++ b))
  two_pieces p q = on_ok_weaker r (joined p) q

pub returns : goal.returns
returns c = λ entries totals.
    two_pieces _ _ _ _ _ _ (c.in_ok-push_escaped_tail.ensures entries totals) c.push_bytes.ensures.ok
