-- The forms in which the program prints surveys.
use Rattle.std.specs.Prelude.{Bool}
use Rattle.survey_text.specs.Forms.{Form, text_form}
use Rattle.survey_csv.specs.Forms.{csv_form}
use Rattle.survey_json.specs.Forms.{json_form}
use Rattle.survey_page.specs.Forms.{html_form}
use Rattle.command_line.specs.declared.surveys.SurveyFormat.{SurveyFormat}
use Rattle.command_line.specs.declared.surveys.SurveyFormat.TheVariants as format
use Rattle.program.specs.declared.forms.AnyForm.{AnyForm}
use Rattle.program.specs.declared.forms.AnyForm.TheVariants as any

-- the form of surveys in a format; in text they have the solutions if `show` is set
abbrev pub form_of : SurveyFormat → Bool → Form
form_of format.Text show = text_form show
form_of format.Csv show = csv_form
form_of format.Json show = json_form
form_of format.Html show = html_form

-- the form as which `AnyForm` prints
abbrev pub form_in : AnyForm → Form
form_in (any.Text text) = text_form text.show
form_in (any.Csv _) = csv_form
form_in (any.Json _) = json_form
form_in (any.Html _) = html_form
