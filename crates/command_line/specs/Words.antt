-- The command line: the commands as `clap` knows them, and what the values that it parsed ask for.
use Rattle.std.specs.Prelude.{◌≡◌, ◌≤◌, ◌⊎◌, ℕ, pos, Bool, true, false, List, [], ◌∷◌, ◌++◌, map, codes, decimal, Option, Some, None, Result, Ok, Err, unwrap_or, if◌then◌else◌, string_bytes}
use Rattle.std.specs.Borrow.{Bor}
use Rattle.std.specs.List.{find}
use Rattle.std.specs.Str.{bytes_eq}
use Rattle.std.specs.Str.Parse.{IsNumeral, digits_value, without_leading_plus}
use Rattle.clap.specs.Lexer.{usize_max}
use Rattle.clap.specs.Walk.{Row, Rule, Text, all_of, first_of, one_of}
use Rattle.clap.specs.Simple.{App, new_app, new_rule, subcommand_of}
use Rattle.clap.specs.Words.{IsAmong, fault_of, kind_of}
use Rattle.clap.specs.declared.builder.action.ArgAction.TheVariants.{Append, SetTrue}
use Rattle.clap.specs.declared.builder.value_parser.ValueParser.{ValueParser}
use Rattle.clap.specs.declared.builder.value_parser.ValueParser.TheVariants.{Names, Signed}
use Rattle.puzzle_text.specs.Formats.{formats as all_formats, word}
use Rattle.solve_core.specs.declared.findings.Grade.{Grade}
use Rattle.solve_core.specs.declared.findings.Grade.TheVariants.{Lines as line_grade, Trials}
use Rattle.solve_core.specs.declared.picks.Pick.{Pick}
use Rattle.solve_core.specs.declared.picks.Pick.TheVariants.{First, Most}
use Rattle.survey_core.specs.declared.settings.Settings.{Settings}
use Rattle.lane_core.specs.declared.jobs.TheConstants.{MAX_GUESSES}
use Rattle.survey_core.specs.declared.settings.TheConstants.{DEFAULT_GUESSES, DEFAULT_LANES, DEFAULT_RING, MAX_RING, MAX_LANES}
use Rattle.command_line.specs.declared.command.CommandFault.{CommandFault}
use Rattle.command_line.specs.declared.command.CommandFault.TheVariants.{Words, NoMemory}
use Rattle.command_line.specs.declared.checks.CheckRequest.{CheckRequest}
use Rattle.command_line.specs.declared.command.Request.{Request}
use Rattle.command_line.specs.declared.command.Request.TheVariants.{Survey, Check, Solve, Convert, Lines}
use Rattle.command_line.specs.declared.surveys.SurveyFormat.{SurveyFormat}
use Rattle.command_line.specs.declared.surveys.SurveyFormat.TheVariants as form
use Rattle.command_line.specs.declared.surveys.SurveyRequest.{SurveyRequest}

-- the words that an option takes as its value
abbrev pub Choices : Type 0
Choices = Bor (List (Bor Text))

-- an option with one value, whose long name is its id
abbrev pub option_rule : Text → ValueParser → Rule
option_rule name parser =
    record (new_rule name) { long = Some name; value_names = 1; parser = Some parser }

-- an option with a number from `least` to `most`; `default` stands for it if it isn't given
abbrev pub number_rule : Text → ℕ → ℕ → Text → Rule
number_rule name least most default =
    record (option_rule name (Signed (pos least) (pos most))) { defaults = default ∷ [] }

-- an option without a value, whose long name is its id
abbrev pub flag_rule : Text → Rule
flag_rule name = record (new_rule name) { long = Some name; action = Some SetTrue }

-- the options and arguments of the commands
abbrev pub guesses_rule : Rule
guesses_rule = number_rule (codes "guesses") 0 MAX_GUESSES (decimal DEFAULT_GUESSES)

abbrev pub lanes_rule : Rule
lanes_rule = number_rule (codes "lanes") 1 MAX_LANES (decimal DEFAULT_LANES)

abbrev pub ring_rule : Rule
ring_rule = number_rule (codes "ring") 1 MAX_RING (decimal DEFAULT_RING)

abbrev pub pick_rule : Choices → Rule
pick_rule picks =
    record (option_rule (codes "pick") (Names picks)) { defaults = codes "first" ∷ [] }

abbrev pub form_rule : Choices → Rule
form_rule forms =
    record (option_rule (codes "format") (Names forms)) { defaults = codes "text" ∷ [] }

abbrev pub grade_rule : Choices → Rule
grade_rule grades = option_rule (codes "grade") (Names grades)

abbrev pub to_rule : Choices → Rule
to_rule formats = record (option_rule (codes "to") (Names formats)) { required = true }

abbrev pub file_rule : Rule
file_rule = record (new_rule (codes "file")) { value_names = 1; required = true }

abbrev pub files_rule : Rule
files_rule = record (new_rule (codes "file")) {
  value_names = 1;
  range = Some (record { start_inclusive = 0; end_inclusive = usize_max });
  action = Some Append;
}

-- a command with these options and arguments
abbrev pub command_app : Text → List Rule → App
command_app name rules =
    record (new_app name) { top = record (new_app name).top { rules = rules } }

-- the options that say how entries are graded, and on how many lanes
abbrev pub grading_rules : Choices → List Rule
grading_rules picks = lanes_rule ∷ ring_rule ∷ guesses_rule ∷ pick_rule picks ∷ []

abbrev pub survey_app : Choices → Choices → App
survey_app forms picks =
    command_app (codes "survey")
    (grading_rules picks ++ form_rule forms ∷ flag_rule (codes "show")
    ∷ flag_rule (codes "progress") ∷ files_rule ∷ [])

abbrev pub check_app : Choices → Choices → App
check_app grades picks =
    command_app (codes "check")
    (grading_rules picks ++ grade_rule grades ∷ flag_rule (codes "all")
    ∷ flag_rule (codes "strict") ∷ flag_rule (codes "progress") ∷ files_rule ∷ [])

abbrev pub solve_app : Choices → App
solve_app picks =
    command_app (codes "solve") (guesses_rule ∷ pick_rule picks ∷ file_rule ∷ [])

abbrev pub convert_app : Choices → App
convert_app formats = command_app (codes "convert") (to_rule formats ∷ file_rule ∷ [])

abbrev pub lines_app : App
lines_app = command_app (codes "lines") (file_rule ∷ [])

-- the program, with its five commands
abbrev pub program_app : Choices → Choices → Choices → Choices → App
program_app forms formats grades picks = record {
  top = record (new_app (codes "nonograde")).top {
    no_binary_name = true;
    has_version = true;
    arg_required_else_help = true;
    subcommand_required = true;
    is_leaf = false;
  };
  subs = (survey_app forms picks).top ∷ (check_app grades picks).top ∷ (solve_app picks).top
      ∷ (convert_app formats).top ∷ lines_app.top ∷ [];
}

-- if `text` is a numeral from `least` to `most`, n is its number
abbrev pub IsNumberIn : ℕ → ℕ → Option Text → ℕ → Type 0
IsNumberIn least most None n = Unit {0}
IsNumberIn least most (Some text) n =
    let digits = without_leading_plus text in
    IsNumeral 10 digits → least ≤ digits_value 10 digits → digits_value 10 digits ≤ most
    → n ≡ digits_value 10 digits

-- `flag` is whether an option without a value was given
abbrev pub IsFlagIn : Option Text → Bool → Type 0
IsFlagIn text flag =
    (text ≡ Some (codes "true") → flag ≡ true) × (text ≡ Some (codes "false") → flag ≡ false)

-- the first value of the argument `id`, or an empty text
abbrev pub text_in : Text → List Row → Text
text_in id rows = unwrap_or (first_of id rows) []

-- all values of the argument `id`
abbrev pub texts_in : Text → List Row → List Text
texts_in id rows = unwrap_or (all_of id rows) []

-- the guess rule that a word names, if it names one
abbrev pub pick_of_word : Text → Option Pick
pick_of_word text =
    if bytes_eq text (codes "first") then Some First
    else if bytes_eq text (codes "most") then Some Most else None

-- the format of a survey that a word names, if it names one
abbrev pub form_of_word : Text → Option SurveyFormat
form_of_word text =
    if bytes_eq text (codes "text") then Some form.Text
    else if bytes_eq text (codes "csv") then Some form.Csv
    else if bytes_eq text (codes "json") then Some form.Json
    else if bytes_eq text (codes "html") then Some form.Html else None

-- the greatest grade that a word names, if it names one
abbrev pub grade_of_word : Text → Option Grade
grade_of_word text =
    if bytes_eq text (codes "line") then Some line_grade
    else if bytes_eq text (codes "trials") then Some Trials else None

-- the settings are those that the parsed values ask for
pub record AreSettingsIn (rows : List Row) (settings : Settings) : Type 0 where
  pub lanes : IsNumberIn 1 MAX_LANES (one_of (codes "lanes") rows) settings.lanes
  pub ring : IsNumberIn 1 MAX_RING (one_of (codes "ring") rows) settings.ring
  pub guesses : IsNumberIn 0 MAX_GUESSES (one_of (codes "guesses") rows) settings.guesses
  pub pick : pick_of_word (text_in (codes "pick") rows) ≡ Some settings.pick

-- the parsed values ask for this survey; its solutions are shown in text alone
pub record AsksSurvey (rows : List Row) (survey : SurveyRequest) : Type 0 where
  pub settings : AreSettingsIn rows survey.settings
  pub format : form_of_word (text_in (codes "format") rows) ≡ Some survey.format
  pub show : IsFlagIn (one_of (codes "show") rows) survey.settings.show
  pub shown : survey.settings.show ≡ true → survey.format ≡ form.Text
  pub progress : IsFlagIn (one_of (codes "progress") rows) survey.progress
  pub files : map string_bytes survey.files.items ≡ texts_in (codes "file") rows

-- the parsed values ask for this check
pub record AsksCheck (rows : List Row) (check : CheckRequest) : Type 0 where
  pub settings : AreSettingsIn rows check.settings
  pub grade : check.grade ≡ grade_of_word (text_in (codes "grade") rows)
  pub all : IsFlagIn (one_of (codes "all") rows) check.all
  pub strict : IsFlagIn (one_of (codes "strict") rows) check.strict
  pub progress : IsFlagIn (one_of (codes "progress") rows) check.progress
  pub files : map string_bytes check.files.items ≡ texts_in (codes "file") rows

-- the command `name` with these parsed values asks for this request
abbrev pub Asks : Text → List Row → Request → Type 0
Asks name rows (Survey survey) = (name ≡ codes "survey") × AsksSurvey rows survey
Asks name rows (Check check) = (name ≡ codes "check") × AsksCheck rows check
Asks name rows (Solve guesses pick file) =
    (name ≡ codes "solve") × IsNumberIn 0 MAX_GUESSES (one_of (codes "guesses") rows) guesses ×
    (pick_of_word (text_in (codes "pick") rows) ≡ Some pick)
    × (string_bytes file ≡ text_in (codes "file") rows)
Asks name rows (Convert format file) =
    (name ≡ codes "convert")
    × (find (λ format. bytes_eq (word format) (text_in (codes "to") rows)) all_formats
    ≡ Some format)
    × (string_bytes file ≡ text_in (codes "file") rows)
Asks name rows (Lines file) =
    (name ≡ codes "lines") × (string_bytes file ≡ text_in (codes "file") rows)

-- the command that `clap` found, with its parsed values, asks for this request
abbrev pub AsksIn : Option (Text × List Row) → Request → Type 0
AsksIn None request = ⊥
AsksIn (Some (command, rows)) request = Asks command rows request

-- the request, if there is one, is asked for; if there is none, no request is
abbrev pub IsAsked : (Request → Type 0) → Option Request → Type 0
IsAsked asks None = (request : Request) → asks request → ⊥
IsAsked asks (Some request) = asks request

-- `app` is the program, with the words of all formats of surveys and of puzzles, grades to ask for,
-- and guess rules
pub record IsProgram (app : App) : Type 0 where
  pub forms : Choices
  pub formats : Choices
  pub grades : Choices
  pub picks : Choices
  pub form_words : map (λ s. s.now) forms.now
      ≡ codes "text" ∷ codes "csv" ∷ codes "json" ∷ codes "html" ∷ []
  pub format_words : map (λ s. s.now) formats.now ≡ map word all_formats
  pub grade_words : map (λ s. s.now) grades.now ≡ codes "line" ∷ codes "trials" ∷ []
  pub pick_words : map (λ s. s.now) picks.now ≡ codes "first" ∷ codes "most" ∷ []
  pub is : app ≡ program_app forms formats grades picks

-- the words after the program's name ask for this request, as `clap` parses them for the program's
-- commands
abbrev pub WordsAsk : List Text → Request → Type 0
WordsAsk words request = (app : App) × IsProgram app × AsksIn (subcommand_of app words) request

-- why the words after the program's name give no request: an allocation failed, `clap` refuses them
-- for the program's commands by an error of this kind, or what it accepts asks for no request
abbrev pub AreRefused : List Text → CommandFault → Type 0
AreRefused words (Words error) = (app : App) × IsProgram app
    × (IsAmong (kind_of error) (fault_of app words)
    ⊎ IsAsked (AsksIn (subcommand_of app words)) None)
AreRefused words NoMemory = Unit {0}

-- what the words after the program's name give: a request that they ask for, or why there is none
abbrev pub WordsGive : List Text → Result Request CommandFault → Type 0
WordsGive words (Ok request) = WordsAsk words request
WordsGive words (Err fault) = AreRefused words fault
