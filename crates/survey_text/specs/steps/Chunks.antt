-- What one chunk of a survey holds.
use Rattle.std.specs.Prelude.{◌≡◌, ℕ, List, map}
use Rattle.survey_text.specs.Forms.{Form, FormEntry, entries_in, without_text}
use Rattle.survey_text.specs.Chunks.{IsTotals}
use Rattle.survey_text.specs.declared.printing.Chunk.{Chunk}

-- `chunk` is the chunk of `entries`, numbered from `first`: it has their texts in `form`, and their
-- totals
pub record IsChunk (form : Form) (first : ℕ) (chunk : Chunk) (entries : List FormEntry)
    : Type 0 where
  pub text : chunk.text.items ≡ entries_in form first entries
  pub totals : IsTotals chunk.totals (map without_text entries)
