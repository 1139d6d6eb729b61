-- Entries made of files, and the first bytes of a reader.
use Rattle.std.proofs.Common.{◌≡◌, ◌<◌, ◌+◌, ◌∙◌, ℕ, zero, suc, List, [], ◌∷◌, ◌++◌, Option, Some, None, String, Vec, length, map, take, get_or, option_map, string_bytes, sym, ap, arith, add-one}
use Rattle.std.proofs.lemmas.List.{length-map, map-append}
use Rattle.std.specs.Prelude.{IfSome}
use Rattle.std.specs.Io.Take.{take_inner, take_limit, take_remaining}
use Rattle.std.specs.declared.alloc.Global.{Global}
use Rattle.std.specs.declared.io.traits.Take.{Take}
use Rattle.puzzle_text.specs.Collections.{Entry}
use Rattle.puzzle_text.specs.Shown.{shown_entry}
use Rattle.puzzle_text.specs.declared.collections.Entry.{Entry as KeptEntry}
use Rattle.program.specs.Printing.{named_texts}

-- the bytes that were read of a limited reader are the first ones of the reader below it
pub prefix_read : {R : Type 0} (remaining : R → Option (List ℕ)) (front : Take R) (file : R) (limit : ℕ) (before body : List ℕ) →
    take_limit front ≡ limit → take_inner front ≡ file → before ≡ []
    → IfSome (take_remaining remaining front) (λ bytes. body ≡ before ++ bytes)
    → IfSome (remaining file) (λ bytes. body ≡ take limit bytes)
prefix_read remaining front file limit before body at_limit of_file empty read =
    rw (← at_limit, ← of_file) (self (remaining front.inner) (rw empty at read))
  where
    self : (known : Option (List ℕ)) → IfSome (option_map (take front.limit) known) (λ bytes. body ≡ bytes)
        → IfSome known (λ bytes. body ≡ take front.limit bytes)
    self None is = tt
    self (Some bytes) is = is

-- the entries of one more name and text
pub named_more : (i : ℕ) (names texts : List (List ℕ)) (name text : List ℕ) → i < length names → i < length texts →
    get_or names i [] ≡ name → get_or texts i [] ≡ text
    → named_texts (take (suc i) names) (take (suc i) texts) ≡ named_texts (take i names) (take i texts) ++
    record { name = name; body = text } ∷ []
named_more i [] texts name text in_names in_texts is_name is_text = absurd (omega arith)
named_more i (x ∷ names) [] name text in_names in_texts is_name is_text = absurd (omega arith)
named_more zero (x ∷ names) (y ∷ texts) name text in_names in_texts is_name is_text = cc
named_more (suc i) (x ∷ names) (y ∷ texts) name text in_names in_texts is_name is_text =
    ap (λ (rest : List Entry). record { name = x; body = y } ∷ rest)
    (named_more i names texts name text (omega arith) (omega arith) is_name is_text)

-- an element of a mapped list
pub mapped_at : {X : Type 0} (f : X → List ℕ) (xs : List X) (i : ℕ) (x : X) → i < length xs → x ≡ get_or xs i x →
    get_or (map f xs) i [] ≡ f x
mapped_at f [] i x within is = absurd (omega arith)
mapped_at f (y ∷ xs) zero x within is = ap f (sym is)
mapped_at f (y ∷ xs) (suc i) x within is = mapped_at f xs i x (omega arith) is

-- a pushed entry is that of the next file
pub more_entries : (entries pushed : List KeptEntry) (entry : KeptEntry) (paths : List (String Global)) (bodies : List (Vec ℕ Global))
    (i : ℕ) (path : String Global) (body : Vec ℕ Global)
    → i < length paths → i < length bodies → path ≡ get_or paths i path → body ≡ get_or bodies i body →
    entry.name.now ≡ string_bytes path → entry.body.now ≡ body.items
    → pushed ≡ entries ++ entry ∷ []
    → map shown_entry entries ≡ named_texts (take i (map string_bytes paths)) (take i (map (λ (b : Vec ℕ Global). b.items) bodies))
    → map shown_entry pushed ≡ named_texts (take (i + 1) (map string_bytes paths))
    (take (i + 1) (map (λ (b : Vec ℕ Global). b.items) bodies))
more_entries entries pushed entry paths bodies i path body in_paths in_bodies is_path is_body name text added before =
    let names = map string_bytes paths in
    let texts = map (λ (b : Vec ℕ Global). b.items) bodies in
    let more = named_more i names texts (entry.name.now) (entry.body.now) (simp length-map in_paths) (simp length-map in_bodies)
    (mapped_at string_bytes paths i path in_paths is_path ∙ sym name)
    (mapped_at (λ (b : Vec ℕ Global). b.items) bodies i body in_bodies is_body ∙ sym text) in
    ap (map shown_entry) added ∙ map-append shown_entry entries (entry ∷ []) ∙
    ap (λ (es : List Entry). es ++ shown_entry entry ∷ []) before ∙ sym (rw add-one more)
