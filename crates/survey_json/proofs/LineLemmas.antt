-- The line of an entry's object, member by member.
use Rattle.std.proofs.Common.{◌≡◌, ℕ, ◌≤◌, List, [], ◌∷◌, ◌++◌, drop, true, Option, Some, Result, Ok, Err, option_and_then, option_map, refl, sym, ap, ◌∙◌, subst, codes, append_assoc}
use Rattle.json.specs.Print.{quoted}
use Rattle.json.specs.Tree.{MembersHaveNumbers}
use Rattle.serde_json.specs.Data.{Data, Members, depth, member, no_members, object, put}
use Rattle.serde_json.specs.Read.{max_depth, of_members}
use Rattle.serde_json.specs.Written.{compact_text, members_outline, members_text}
use Rattle.grid_core.specs.Nonogram.{Nonogram}
use Rattle.puzzle_text.specs.declared.faults.EntryFault.{EntryFault}
use Rattle.solve_core.specs.declared.findings.Findings.{Findings}
use Rattle.survey_text.specs.Forms.{FormEntry, found_in}
use Rattle.check_text.specs.EntryMessages.{entry_message}
use Rattle.survey_json.specs.Entries.{entry_object, if_any, object_of}
use Rattle.survey_json.specs.Keys.{key_word, value_under}
use Rattle.survey_json.specs.Lines.{ReadsBack, line_of, member_text}
use Rattle.survey_json.specs.declared.keys.GradedKey.TheVariants.{By}
use Rattle.survey_json.specs.declared.keys.Key.{Key}
use Rattle.survey_json.specs.declared.keys.Key.TheVariants.{Graded}
use Rattle.survey_json.specs.declared.keys.TheConstants.{KEYS}
use Rattle.survey_json.proofs.ReadingLemmas.{IsReadable, reads_back}

-- what `d` has under each of some keys
abbrev members_under : Data → List Key → Members
members_under d [] = no_members
members_under d (key ∷ keys) = member (key_word key) (value_under d key) (members_under d keys)

-- the object `d` has all keys, in their order
abbrev pub HasAllKeys : Data → Type 0
HasAllKeys d = d ≡ object (members_under d KEYS)

-- the object of an entry has all keys
has_all_keys : (k : ℕ) (name : List ℕ) (result : Result (Nonogram × Findings) EntryFault) (message : Option (List ℕ))
    → HasAllKeys (entry_object k name result message)
has_all_keys k name (Ok found) message = refl
has_all_keys k name (Err fault) message = refl

pub object_has_all_keys : (k : ℕ) (entry : FormEntry) → HasAllKeys (object_of k entry)
object_has_all_keys k entry = has_all_keys k entry.name (found_in entry.result) (if_any (entry_message entry))

-- what `d` has under each of some keys is readable
abbrev AreReadable : Data → List Key → Type 0
AreReadable d [] = Unit {0}
AreReadable d (key ∷ keys) = IsReadable (value_under d key) × AreReadable d keys

have_numbers : (d : Data) (keys : List Key) → AreReadable d keys → MembersHaveNumbers (members_outline (members_under d keys))
have_numbers d [] all = tt
have_numbers d (key ∷ keys) all = (all.0.numbers, have_numbers d keys all.1)

-- the members `old` with what `d` has under some keys, put in one after another
abbrev with_keys : Data → List Key → Members → Members
with_keys d [] old = old
with_keys d (key ∷ keys) old = with_keys d keys (put (key_word key) (value_under d key) old)

members_read : (d : Data) (keys : List Key) (old : Members) → AreReadable d keys
    → of_members (members_outline (members_under d keys)) old ≡ Some (with_keys d keys old)
members_read d [] old all = refl
members_read d (key ∷ keys) old all =
    ap (option_and_then (λ value. of_members (members_outline (members_under d keys)) (put (key_word key) value old))) all.0.reads
    ∙ members_read d keys (put (key_word key) (value_under d key) old) all.1

keys_in_order : (d : Data) → with_keys d KEYS no_members ≡ members_under d KEYS
keys_in_order d = refl

-- the text of what `d` has under some keys, each with a byte before it: `before`, and then commas
abbrev text_under : ℕ → Data → List Key → List ℕ
text_under before d [] = codes "}"
text_under before d (key ∷ keys) = before ∷ (quoted (key_word key) ++ 58 ∷ (compact_text (value_under d key) ++ text_under 44 d keys))

members_text-under : (d : Data) (keys : List Key) → members_text true (members_under d keys) ≡ text_under 44 d keys
members_text-under d [] = refl
members_text-under d (key ∷ keys) =
    ap (λ text. 44 ∷ (quoted (key_word key) ++ 58 ∷ (compact_text (value_under d key) ++ text))) (members_text-under d keys)

object_text : (d : Data) → HasAllKeys d → compact_text d ≡ text_under 123 d KEYS
object_text d all =
    let others = members_text-under d (drop 1 KEYS) in
    ap compact_text all ∙ ap (λ text. 123 ∷ (quoted (codes "by") ++ 58 ∷ (compact_text (value_under d (Graded By)) ++ text))) others

-- `line` is the text of `d` up to what it has under the last keys, which are left
pub record IsWritten (line : List ℕ) (before : ℕ) (d : Data) (left : List Key) : Type 0 where
  pub text : line ++ text_under before d left ≡ text_under 123 d KEYS
  pub values : AreReadable d left → AreReadable d KEYS

pub none_written : (d : Data) → IsWritten [] 123 d KEYS
none_written d = record { text = refl; values = λ all. all }

-- one member more
pub written_more : (line : List ℕ) (before : ℕ) (d : Data) (key : Key) (left : List Key) → IsReadable (value_under d key)
    → IsWritten line before d (key ∷ left) → IsWritten (line ++ before ∷ member_text (key_word key) (value_under d key)) 44 d left
written_more line before d key left can written =
    let rest = text_under 44 d left in
    let member = member_text (key_word key) (value_under d key) in
    let joined = ap (λ text. line ++ before ∷ text) (append_assoc (quoted (key_word key)) _ rest) in
    record {
      text = append_assoc line (before ∷ member) rest ∙ joined ∙ written.text;
      values = λ all. written.values (can, all);
    }

-- the line of `d`, once no key is left
pub written_line : (line : List ℕ) (before : ℕ) (d : Data) → HasAllKeys d → IsWritten line before d [] → line ++ codes "}\n" ≡ line_of d
written_line line before d all written =
    sym (append_assoc line (codes "}") (codes "\n")) ∙ ap (λ text. text ++ codes "\n") (written.text ∙ sym (object_text d all))

-- `d` is read back from its text
pub written_reads_back : (line : List ℕ) (before : ℕ) (d : Data) → HasAllKeys d → depth d ≤ max_depth → IsWritten line before d []
    → ReadsBack d
written_reads_back line before d all shallow written =
    let values = written.values tt in
    subst ReadsBack (sym all) (
    reads_back (object (members_under d KEYS)) (subst (λ e. depth e ≤ max_depth) all shallow) (record {
      numbers = have_numbers d KEYS values;
      reads = ap (option_map object) (members_read d KEYS no_members values ∙ ap Some (keys_in_order d));
    })
    )
