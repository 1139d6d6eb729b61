-- The data of a page: the survey in JSON, escaped.
use Rattle.std.proofs.Common.{◌≡◌, ◌==◌, ◌+◌, ◌∙◌, ℕ, List, [], ◌∷◌, ◌++◌, false, map, refl, sym, ap, append_assoc}
use Rattle.std.specs.List.{flat_map, list_any}
use Rattle.survey_json.specs.Escaping.{escaped, escaped_byte}
use Rattle.survey_json.specs.Forms.{json_form}
use Rattle.survey_json.proofs.EscapingLemmas.{escaped_lacks}
use Rattle.survey_page.specs.Forms.{html_form, page_data}
use Rattle.survey_page.specs.declared.page.TheConstants.{PAGE_HEAD, PAGE_TAIL}
use Rattle.survey_text.specs.Forms.{FormEntry, entries_in, text_in, without_text}

-- two texts are escaped one after the other
escaped-append : (first second : List ℕ) → escaped (first ++ second) ≡ escaped first ++ escaped second
escaped-append [] second = refl
escaped-append (byte ∷ first) second =
    ap (λ (rest : List ℕ). escaped_byte byte ++ rest) (escaped-append first second)
    ∙ sym (append_assoc (escaped_byte byte) (escaped first) (escaped second))

-- the entries of a page are those of JSON, escaped
entries_are_escaped : (first : ℕ) (entries : List FormEntry)
    → entries_in html_form first entries ≡ escaped (entries_in json_form first entries)
entries_are_escaped first [] = refl
entries_are_escaped first (entry ∷ entries) =
    ap (λ (rest : List ℕ). escaped (json_form.entry first entry) ++ rest) (entries_are_escaped (first + 1) entries)
    ∙ sym (escaped-append (json_form.entry first entry) (entries_in json_form (first + 1) entries))

-- a page is its head, its data and its tail
pub page_is_three_parts : (entries : List FormEntry) → text_in html_form entries ≡ PAGE_HEAD.now ++ (page_data entries ++ PAGE_TAIL.now)
page_is_three_parts entries =
    let tail = json_form.tail (map without_text entries) in
    ap (λ (middle : List ℕ). PAGE_HEAD.now ++ middle) (
    ap (λ (data_of_entries : List ℕ). data_of_entries ++ (escaped tail ++ PAGE_TAIL.now)) (entries_are_escaped 1 entries)
    ∙ sym (append_assoc (escaped (entries_in json_form 1 entries)) (escaped tail) PAGE_TAIL.now)
    ∙ ap (λ (both : List ℕ). both ++ PAGE_TAIL.now) (sym (escaped-append (entries_in json_form 1 entries) tail))
    )

-- no byte of the data is `<`
pub data_lacks : (entries : List FormEntry) → list_any (λ byte. byte == 60) (page_data entries) ≡ false
data_lacks entries = escaped_lacks (text_in json_form entries)
