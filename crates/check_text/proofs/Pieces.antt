-- Texts that are appended in pieces, the last by a call that may fail.
use Rattle.std.proofs.Common.{List, OnOk, Result, append_assoc, ◌++◌, ◌≡◌, ℕ}
use Rattle.std.proofs.lemmas.Result.{on_ok_weaker}

module _ {T E : Type 0} (r : Result T E) (old first new : List ℕ) (a b : List ℕ) where
  joined_two : first ≡ old ++ a → new ≡ first ++ b → new ≡ old ++ (a ++ b)
  joined_two p q = rw (q, p) (simp append_assoc)

  pub two_pieces : first ≡ old ++ a → OnOk r (new ≡ first ++ b) → OnOk r (new ≡ old ++ (a ++ b))
  two_pieces p q = on_ok_weaker r (joined_two p) q

module _ {T E : Type 0} (r : Result T E) (old first second new : List ℕ) (a b c : List ℕ) where
  joined_three : first ≡ old ++ a → second ≡ first ++ b → new ≡ second ++ c → new ≡ old ++ (a ++ b ++ c)
  joined_three p q s = rw (s, q, p) (simp append_assoc)

  pub three_pieces : first ≡ old ++ a → second ≡ first ++ b → OnOk r (new ≡ second ++ c) → OnOk r (new ≡ old ++ (a ++ b ++ c))
  three_pieces p q s = on_ok_weaker r (joined_three p q) s

module _ {T E : Type 0} (r : Result T E) (old first second third fourth new : List ℕ) (a b c d e : List ℕ) where
  joined_five : first ≡ old ++ a → second ≡ first ++ b → third ≡ second ++ c → fourth ≡ third ++ d → new ≡ fourth ++ e
      → new ≡ old ++ (a ++ b ++ c ++ d ++ e)
  joined_five p q s t u = rw (u, t, s, q, p) (simp append_assoc)

  pub five_pieces : first ≡ old ++ a → second ≡ first ++ b → third ≡ second ++ c → fourth ≡ third ++ d → OnOk r (new ≡ fourth ++ e)
      → OnOk r (new ≡ old ++ (a ++ b ++ c ++ d ++ e))
  five_pieces p q s t u = on_ok_weaker r (joined_five p q s t) u

module _ {T E : Type 0} (r : Result T E) (old first second third new : List ℕ) (a b c d : List ℕ) where
  joined_four : first ≡ old ++ a → second ≡ first ++ b → third ≡ second ++ c → new ≡ third ++ d → new ≡ old ++ (a ++ b ++ c ++ d)
  joined_four p q s t = rw (t, s, q, p) (simp append_assoc)

  pub four_pieces : first ≡ old ++ a → second ≡ first ++ b → third ≡ second ++ c → OnOk r (new ≡ third ++ d)
      → OnOk r (new ≡ old ++ (a ++ b ++ c ++ d))
  four_pieces p q s t = on_ok_weaker r (joined_four p q s) t

module _ {T E : Type 0} (r : Result T E) (old first second third fourth fifth new : List ℕ) (a b c d e f : List ℕ) where
  joined_six : first ≡ old ++ a → second ≡ first ++ b → third ≡ second ++ c → fourth ≡ third ++ d → fifth ≡ fourth ++ e
      → new ≡ fifth ++ f → new ≡ old ++ (a ++ b ++ c ++ d ++ e ++ f)
  joined_six p q s t u v = rw (v, u, t, s, q, p) (simp append_assoc)

  pub six_pieces : first ≡ old ++ a → second ≡ first ++ b → third ≡ second ++ c → fourth ≡ third ++ d → fifth ≡ fourth ++ e
      → OnOk r (new ≡ fifth ++ f) → OnOk r (new ≡ old ++ (a ++ b ++ c ++ d ++ e ++ f))
  six_pieces p q s t u v = on_ok_weaker r (joined_six p q s t u) v

module _ {T E : Type 0} (r : Result T E) (old first second third fourth fifth sixth new : List ℕ) (a b c d e f g : List ℕ) where
  joined_seven : first ≡ old ++ a → second ≡ first ++ b → third ≡ second ++ c → fourth ≡ third ++ d → fifth ≡ fourth ++ e
      → sixth ≡ fifth ++ f → new ≡ sixth ++ g → new ≡ old ++ (a ++ b ++ c ++ d ++ e ++ f ++ g)
  joined_seven p q s t u v w = rw (w, v, u, t, s, q, p) (simp append_assoc)

  pub seven_pieces : first ≡ old ++ a → second ≡ first ++ b → third ≡ second ++ c → fourth ≡ third ++ d → fifth ≡ fourth ++ e
      → sixth ≡ fifth ++ f → OnOk r (new ≡ sixth ++ g) → OnOk r (new ≡ old ++ (a ++ b ++ c ++ d ++ e ++ f ++ g))
  seven_pieces p q s t u v w = on_ok_weaker r (joined_seven p q s t u v) w
