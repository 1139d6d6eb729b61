-- A page is its head, its data and its tail, by induction over its entries.
use Rattle.survey_page.proofs.DataLemmas.{page_is_three_parts}
use Rattle.survey_page.proofs.laws.page_is_head_data_and_tail.Goals as goal

pub returns : goal.returns
returns c = page_is_three_parts
