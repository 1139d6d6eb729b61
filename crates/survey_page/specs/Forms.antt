-- The form of a page, and its data.
use Rattle.std.specs.Prelude.{ℕ, List, ◌++◌}
use Rattle.survey_json.specs.Escaping.{escaped}
use Rattle.survey_json.specs.Forms.{json_form}
use Rattle.survey_page.specs.declared.page.TheConstants.{PAGE_HEAD, PAGE_TAIL}
use Rattle.survey_text.specs.Forms.{Form, FormEntry, text_in}

-- the form of a page: what JSON prints, escaped, between the two parts of the page
abbrev pub html_form : Form
html_form = record {
  head = PAGE_HEAD.now;
  entry = λ number entry. escaped (json_form.entry number entry);
  tail = λ entries. escaped (json_form.tail entries) ++ PAGE_TAIL.now;
}

-- the data of the page of `entries`: their survey in JSON, escaped
abbrev pub page_data : List FormEntry → List ℕ
page_data entries = escaped (text_in json_form entries)
