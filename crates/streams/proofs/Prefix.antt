-- What a writer holds after several writes: prefixes of one text, and of texts one after another.
use Rattle.std.proofs.Common.{◌≡◌, ℕ, zero, suc, ◌+◌, ◌-◌, ◌<◌, ◌≤◌, List, [], ◌∷◌, ◌++◌, Vec, take, drop, get_or, length, ap, refl, subst, sym, ◌∙◌, append_assoc, append-nil, arith}
use Rattle.std.proofs.lemmas.Grind.{common_steps}
use Rattle.std.proofs.lemmas.List.{drop_at, length-append, take-append-le, take_all, take_at}
use Rattle.std.proofs.Math.Seq.{take-add}
use Rattle.std.specs.Prelude.{Option}
use Rattle.std.specs.Io.KnownBytes.{Appends}
use Rattle.std.specs.declared.alloc.Global.{Global}
use Rattle.streams.specs.Writing.{WritesPrefix, joined}
use Rattle.std.proofs.KnownBytes.{Appends-trans}

-- taking all that is left from index i on is dropping the first i elements
pub rest_of : {A : Type 0} (all : List A) (i : ℕ) → take (length all - i) (drop i all) ≡ drop i all
rest_of all i = grind (arith, common_steps)

-- a prefix, and then a prefix of the rest, is a prefix
pub appends_prefix : (a b c : Option (List ℕ)) (all : List ℕ) (i n : ℕ) → Appends a b (take i all)
    → Appends b c (take n (take (length all - i) (drop i all))) → Appends a c (take (i + n) all)
appends_prefix a b c all i n first second =
    let second' = subst (λ rest. Appends b c (take n rest)) (rest_of all i) second in
    subst (Appends a c) (sym (take-add i n all)) (Appends-trans a b c _ _ first second')

-- a text and then a prefix of the next one are a prefix of all texts
pub appends_after : (a b c : Option (List ℕ)) (before text after : List ℕ) (n : ℕ) → Appends a b before → n ≤ length text
    → Appends b c (take n text) → Appends a c (take (length before + n) (before ++ (text ++ after)))
appends_after a b c before text after n first within second =
    let all = before ++ (text ++ after) in
    let front : take (length before + n) all ≡ before ++ take n text = take-add (length before) n all
    ∙ ap (λ (xs : List ℕ). xs ++ take n (drop (length before) all)) (take_at before (text ++ after) (length before) refl)
    ∙ ap (λ (xs : List ℕ). before ++ take n xs) (drop_at before (text ++ after) (length before) refl)
    ∙ ap (λ (xs : List ℕ). before ++ xs) (take-append-le n text after within) in
    subst (Appends a c) (sym front) (Appends-trans a b c _ _ first second)

-- the joined texts are those before index i, the one at i, and those after it
pub text_among : (texts : List (Vec ℕ Global)) (last : List ℕ) (i : ℕ) (d : Vec ℕ Global) → i < length texts
    → joined texts ++ last ≡ joined (take i texts) ++ ((get_or texts i d).items ++ (joined (drop (suc i) texts) ++ last))
text_among [] last i d within = absurd (omega arith)
text_among (text ∷ texts) last zero d within = append_assoc text.items (joined texts) last
text_among (text ∷ texts) last (suc i) d within =
    append_assoc text.items (joined texts) last ∙ ap (λ others. text.items ++ others) (text_among texts last i d (omega arith))
    ∙ sym (append_assoc text.items (joined (take i texts)) _)

-- a text ends within all texts joined
pub among_within : (texts : List (Vec ℕ Global)) (last : List ℕ) (i : ℕ) (text : Vec ℕ Global) (x : List ℕ) → i < length texts
    → text ≡ get_or texts i text → x ≡ text.items → length (joined (take i texts)) + length x ≤ length (joined texts ++ last)
among_within texts last i text x within at same =
    let all = ap length (text_among texts last i text within) in
    let here : length x ≡ length (get_or texts i text).items = ap length same ∙ ap (λ (v : Vec ℕ Global). length v.items) at in
    let behind = joined (drop (suc i) texts) ++ last in
    omega (
      arith,
      all,
      here,
      length-append (joined (take i texts)) ((get_or texts i text).items ++ behind),
      length-append (get_or texts i text).items behind,
    )

-- all texts before index i and then a prefix of the one at i are a prefix of all
pub sent_among : (a b c : Option (List ℕ)) (texts : List (Vec ℕ Global)) (last : List ℕ) (i : ℕ) (text : Vec ℕ Global) (x : List ℕ)
    (before count sent : ℕ) → i < length texts → text ≡ get_or texts i text → x ≡ text.items → before ≡ length (joined (take i texts))
    → Appends a b (joined (take i texts)) → sent ≡ before + count → WritesPrefix x count b c → WritesPrefix (joined texts ++ last) sent a c
sent_among a b c texts last i text x before count sent within at same counted wrote number front =
    let all = text_among texts last i text within in
    let here : x ≡ (get_or texts i text).items = same ∙ ap (λ (v : Vec ℕ Global). v.items) at in
    let most = among_within texts last i text x within at same in
    let number' : length (joined (take i texts)) + count ≡ sent = omega (arith, counted, number) in (
      omega (arith, number', front.0, most),
      subst (λ (n : ℕ). Appends a c (take n (joined texts ++ last))) number'
          (subst (λ (text : List ℕ). Appends a c (take (length (joined (take i texts)) + count) text)) (sym all)
          (appends_after a b c (joined (take i texts)) (get_or texts i text).items (joined (drop (suc i) texts) ++ last) count wrote
          (subst (λ (y : List ℕ). count ≤ length y) here front.0) (subst (λ (y : List ℕ). Appends b c (take count y)) here front.1))),
    )

-- all texts but the last, and then a prefix of the last, are a prefix of all
pub sent_last : (a b c : Option (List ℕ)) (texts : List (Vec ℕ Global)) (last : List ℕ) (i n count sent : ℕ) → length texts ≤ i
    → n ≡ length (joined (take i texts)) → Appends a b (joined (take i texts)) → sent ≡ n + count → WritesPrefix last count b c
    → WritesPrefix (joined texts ++ last) sent a c
sent_last a b c texts last i n count sent passed counted wrote number front =
    let before = joined (take i texts) in
    let number' : length before + count ≡ sent = omega (arith, counted, number) in
    let sends : WritesPrefix (before ++ last) sent a c = (
      omega (arith, number', front.0, length-append before last),
      subst (λ (n : ℕ). Appends a c (take n (before ++ last))) number'
          (subst (λ (text : List ℕ). Appends a c (take (length before + count) (before ++ text))) (append-nil last)
          (appends_after a b c before last [] count wrote front.0 front.1)),
    ) in
    subst (λ (all : List (Vec ℕ Global)). WritesPrefix (joined all ++ last) sent a c) (take_all i texts passed) sends
