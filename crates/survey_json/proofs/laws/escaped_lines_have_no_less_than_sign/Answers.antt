-- An escaped line has no `<`, by induction over its bytes.
use Rattle.survey_json.proofs.EscapingLemmas.{escaped_lacks}
use Rattle.survey_json.proofs.laws.escaped_lines_have_no_less_than_sign.Goals as goal

pub returns : goal.returns
returns c = escaped_lacks
