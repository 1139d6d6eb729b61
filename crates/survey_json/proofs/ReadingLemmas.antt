-- Values that are read back from their text.
use Rattle.std.proofs.Common.{◌≡◌, ℕ, ◌≤◌, List, [], ◌++◌, Some, false, option_and_then, refl, sym, ap, ◌∙◌, subst, append_assoc, append-nil, arith}
use Rattle.json.specs.Token.{Token}
use Rattle.json.specs.Lex.{tokens}
use Rattle.json.specs.Json as json
use Rattle.json.specs.Print.{ArePrintableOrBad}
use Rattle.json.specs.Tree as tree
use Rattle.json.specs.Tree.{HasNumbers, ItemsHaveNumbers, MembersHaveNumbers, items_tokens, json_tokens, members_tokens}
use Rattle.json.proofs.Numbered.{ArePrintableOrBad-tokens}
use Rattle.json.proofs.Printed.Tokens.{tokens-print}
use Rattle.json.proofs.Printed.Trees.{ArePrintable-json_tokens, value-json_tokens}
use Rattle.serde_json.specs.Data.{Data, Items, Members, array, boolean, depth, item, items_depth, member, members_depth, no_items, no_members, null, number, object, string}
use Rattle.serde_json.specs.Read.{max_depth, of_json, read}
use Rattle.serde_json.specs.Written.{IsInOrder, compact_text, has_float, items_outline, members_outline, outline}
use Rattle.serde_json.proofs.Texts.{print-outline, tokens_from_order}
use Rattle.survey_json.specs.Lines.{ReadsBack}

-- a value whose numbers are those of JSON, and which its outline stands for
pub record IsReadable (d : Data) : Type 0 where
  pub numbers : HasNumbers (outline d)
  pub reads : of_json (outline d) ≡ Some d

-- tokens of a text that are those of a value have its numbers as JSON has them
mutual
  numbers : (j : json.Json) (rest : List Token) → ArePrintableOrBad (json_tokens j ++ rest) → HasNumbers j × ArePrintableOrBad rest
  numbers json.null rest all = (tt, all.1)
  numbers (json.boolean b) rest all = (tt, all.1)
  numbers (json.number s) rest all = all
  numbers (json.string s) rest all = (tt, all.1)
  numbers (json.array js) rest all = item_numbers js rest all.1
  numbers (json.object ms) rest all = member_numbers ms rest all.1

  item_numbers : (js : json.Items) (rest : List Token) → ArePrintableOrBad (items_tokens js ++ rest)
      → ItemsHaveNumbers js × ArePrintableOrBad rest
  item_numbers json.no_items rest all = (tt, all.1)
  item_numbers (json.item j js) rest all =
      let apart = append_assoc (json_tokens j) (items_tokens js) rest in
      let first = numbers j (items_tokens js ++ rest) (subst ArePrintableOrBad apart all) in
      let others = item_numbers js rest first.1 in
      ((first.0, others.0), others.1)

  member_numbers : (ms : json.Members) (rest : List Token) → ArePrintableOrBad (members_tokens ms ++ rest)
      → MembersHaveNumbers ms × ArePrintableOrBad rest
  member_numbers json.no_members rest all = (tt, all.1)
  member_numbers (json.member k j ms) rest all =
      let apart = append_assoc (json_tokens j) (members_tokens ms) rest in
      let first = numbers j (members_tokens ms ++ rest) (subst ArePrintableOrBad apart all.1) in
      let others = member_numbers ms rest first.1 in
      ((first.0, others.0), others.1)

-- the outline of a value nests as deep as the value
mutual
  outline_depth : (d : Data) → tree.depth (outline d) ≡ depth d
  outline_depth null = refl
  outline_depth (boolean b) = refl
  outline_depth (number n) = refl
  outline_depth (string s) = refl
  outline_depth (array ds) = rw (items_outline_depth ds) refl
  outline_depth (object ms) = rw (members_outline_depth ms) refl

  items_outline_depth : (ds : Items) → tree.items_depth (items_outline ds) ≡ items_depth ds
  items_outline_depth no_items = refl
  items_outline_depth (item d ds) = rw (outline_depth d, items_outline_depth ds) refl

  members_outline_depth : (ms : Members) → tree.members_depth (members_outline ms) ≡ members_depth ms
  members_outline_depth no_members = refl
  members_outline_depth (member k d ms) = rw (outline_depth d, members_outline_depth ms) refl

-- what is read from the tokens of a value
read_tokens : (d : Data) (text : List ℕ) → tokens text ≡ json_tokens (outline d) → depth d ≤ max_depth → read text ≡ of_json (outline d)
read_tokens d text same shallow =
    let parsed = value-json_tokens (outline d) max_depth [] (omega (arith, outline_depth d, shallow)) in
    let whole = ap (json.value max_depth) (same ∙ sym (append-nil (json_tokens (outline d)))) ∙ parsed in
    ap (λ o. option_and_then of_json (option_and_then (λ p. json.if_last p.0 p.1) o)) whole

-- a value that is read back from its text is readable
pub readable : (d : Data) → has_float d ≡ false → depth d ≤ max_depth → IsInOrder (compact_text d) d → ReadsBack d → IsReadable d
readable d whole shallow order back =
    let text = compact_text d in
    let same = tokens_from_order text d order whole in
    let ended = same ∙ sym (append-nil (json_tokens (outline d))) in
    record {
      numbers = (numbers (outline d) [] (subst ArePrintableOrBad ended (ArePrintableOrBad-tokens text))).0;
      reads = sym (read_tokens d text same shallow) ∙ back;
    }

-- a readable value is read back from its text
pub reads_back : (d : Data) → depth d ≤ max_depth → IsReadable d → ReadsBack d
reads_back d shallow can =
    let ts = json_tokens (outline d) in
    let same = ap tokens (sym (print-outline d)) ∙ tokens-print ts (ArePrintable-json_tokens (outline d) can.numbers) in
    read_tokens d (compact_text d) same shallow ∙ can.reads
