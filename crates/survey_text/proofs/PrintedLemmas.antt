-- Lemmas on printed texts: what one more row, one more entry or one more chunk appends.
use Rattle.std.proofs.Common.{◌≡◌, ℕ, zero, suc, ◌+◌, List, [], ◌∷◌, ◌++◌, length, map, ap, ◌∙◌, append-nil, append_assoc, add-one, arith}
use Rattle.std.specs.List.{flat_map, range_with_len}
use Rattle.std.proofs.lemmas.Grind.{flat_map-append}
use Rattle.grid_core.specs.PartialGrid.{PartialGrid}
use Rattle.survey_text.proofs.NumberedLemmas.{numbered-append, numbered-push}
use Rattle.survey_text.specs.Forms.{Form, FormEntry, entries_in, without_text}
use Rattle.survey_text.specs.Grids.{row_text, rows_text}
use Rattle.survey_text.specs.Chunks.{AreChunks, IsTotals}
use Rattle.survey_text.specs.declared.texts.ChunkTexts.{ChunkTexts}

-- a range that is longer by one ends with the number `j` that comes next
range-more : (a n j : ℕ) → a + n ≡ j → range_with_len a (suc n) ≡ range_with_len a n ++ j ∷ []
range-more a zero j e = let start : a ≡ j = omega arith in ap (λ (k : ℕ). k ∷ []) start
range-more a (suc n) j e = ap (λ (others : List ℕ). a ∷ others) (range-more (a + 1) n j (omega arith))

-- one more row appends its text
pub rows_text_more : (grid : PartialGrid) (count : ℕ) → rows_text grid (count + 1) ≡ rows_text grid count ++ row_text grid count
rows_text_more grid count =
    ap (flat_map (row_text grid)) (ap (range_with_len 0) (add-one count) ∙ range-more 0 count count (omega arith))
    ∙ rw (flat_map-append (row_text grid) (range_with_len 0 count) (count ∷ []), append-nil (row_text grid count))

-- the texts of entries with one more at the end are theirs, followed by that of the new one
pub entries_in-push : (form : Form) (first : ℕ) (entries : List FormEntry) (entry : FormEntry)
    → entries_in form first (entries ++ entry ∷ []) ≡ entries_in form first entries ++ form.entry (first + length entries) entry
entries_in-push form first entries entry =
    numbered-push (λ (numbered : ℕ × FormEntry). form.entry numbered.0 numbered.1) first entries entry

-- the texts of two lists of entries, the second numbered on, are those of the first, followed by those of the second
pub entries_in-append : (form : Form) (first : ℕ) (entries behind : List FormEntry)
    → entries_in form first (entries ++ behind) ≡ entries_in form first entries ++ entries_in form (first + length entries) behind
entries_in-append form first entries behind =
    numbered-append (λ (numbered : ℕ × FormEntry). form.entry numbered.0 numbered.1) first entries behind

-- chunks of `entries`, followed by chunks of the entries that come next, are chunks of all of them
pub both_chunks : (form : Form) (first : ℕ) (entries behind : List FormEntry) (these those both : ChunkTexts)
    → AreChunks form first these entries → AreChunks form (first + length entries) those behind
    → both.front.items ≡ (these.front.items ++ these.last ∷ []) ++ those.front.items → both.last ≡ those.last
    → IsTotals both.totals (map without_text (entries ++ behind)) → AreChunks form first both (entries ++ behind)
both_chunks form first entries behind these those both are_these are_those front last totals = record {
  text = rw (front, last, entries_in-append form first entries behind, ← are_these.text, ← are_those.text)
      (simp (flat_map-append, append_assoc, append-nil));
  totals = totals;
}
