-- The invariant of the loop of `Chunk::of`: the entries listed so far are those of the chunk.
use Rattle.std.proofs.Common.{◌≡◌, ◌++◌, List, Some, length, map}
use Rattle.survey_text.specs.Forms.{FormEntry}
use Rattle.survey_text.specs.steps.Chunks.{IsChunk}
use Rattle.survey_text.proofs.printing.Chunk.of.Given as goal

abbrev pub invariant-listing : goal.invariant-listing
invariant-listing g l = (entries : List FormEntry)
    × (g.L.Listing.remaining l.fn.listing ≡ map Some entries ++ g.L.Listing.remaining l.listing)
    × IsChunk (g.F.SurveyForm.form l.form) l.first l.chunk entries

abbrev pub decreases-listing : goal.decreases-listing
decreases-listing g l = length (g.L.Listing.remaining l.listing)
