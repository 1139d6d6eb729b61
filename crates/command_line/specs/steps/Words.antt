-- Commands and arguments as values of `clap`, and what parsing by them results in.
use Rattle.std.specs.Prelude.{◌≡◌, false, true, List, [], codes, Option, Result, Ok, Err}
use Rattle.clap.specs.Walk.{Rule, Text, rule_of}
use Rattle.clap.specs.Simple.{App, app_of, new_app, subcommand_of, with_subcommand}
use Rattle.clap.specs.Words.{IsAmong, fault_of, kind_of}
use Rattle.clap.specs.declared.builder.arg.Arg.{Arg}
use Rattle.clap.specs.declared.builder.command.Command.{Command}
use Rattle.clap.specs.declared.builder.command.Command.TheViews.{out-Command}
use Rattle.command_line.specs.Words.{AsksIn, Choices, IsAsked, check_app, convert_app, solve_app, survey_app}
use Rattle.command_line.specs.declared.command.CommandFault.{CommandFault}
use Rattle.command_line.specs.declared.command.CommandFault.TheVariants.{Words, NoMemory}
use Rattle.command_line.specs.declared.command.Request.{Request}

-- the command has the definition `app`, and no argument of it applies to other commands
pub record IsCommand (app : App) (command : Command) : Type 0 where
  pub shape : app_of command ≡ app
  pub local : (out-Command command).has_globals ≡ false

-- the argument has the definition `rule`, and applies to its own command alone
pub record IsArgument (rule : Rule) (arg : Arg) : Type 0 where
  pub follows : rule_of arg ≡ rule
  pub local : arg.global ≡ false

-- the program without its commands
abbrev pub bare_app : App
bare_app = record {
  top = record (new_app (codes "nonograde")).top {
    no_binary_name = true;
    has_version = true;
    arg_required_else_help = true;
    subcommand_required = true;
  };
  subs = [];
}

-- the program with the commands that grade many puzzles
abbrev pub surveying_app : Choices → Choices → Choices → App
surveying_app forms grades picks =
    with_subcommand (with_subcommand bare_app (survey_app forms picks).top)
    (check_app grades picks).top

-- the program with the commands that grade puzzles
abbrev pub grading_app : Choices → Choices → Choices → App
grading_app forms grades picks =
    with_subcommand (surveying_app forms grades picks) (solve_app picks).top

-- the program with the commands that grade puzzles and the command `convert`
abbrev pub converting_app : Choices → Choices → Choices → Choices → App
converting_app forms formats grades picks =
    with_subcommand (grading_app forms grades picks) (convert_app formats).top

-- what parsing the words by `clap` results in: a request that they ask for, none if they ask for
-- none, or the fault for which `clap` refuses them
abbrev pub Parses : App → List Text → Result (Option Request) CommandFault → Type 0
Parses app words (Ok asked) = IsAsked (AsksIn (subcommand_of app words)) asked
Parses app words (Err (Words error)) = IsAmong (kind_of error) (fault_of app words)
Parses app words (Err NoMemory) = Unit {0}
