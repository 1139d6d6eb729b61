-- The values that `clap` parsed, the definitions of commands, and words that give no request.
use Rattle.std.proofs.Common.{◌≡◌, ◌∙◌, ◌≤◌, ◌<◌, ◌^◌, ℕ, Bool, List, [], Option, Some, None, Result, Ok, Err, IfOk, IsErrAnd, ◌||◌, ◌≢◌, ◌↔◌, inl, inr, true, false, codes, refl, sym, ap, arith, option_map, subst}
use Rattle.std.specs.Prelude.{unwrap_or}
use Rattle.std.specs.Borrow.{Bor}
use Rattle.std.specs.Str.Parse.{ExplainsUnsignedError, HasUnsignedDigitsIfOk, ParsesBool, ParsesUnsigned, digits_value, without_leading_plus}
use Rattle.std.specs.declared.num.ParseIntError.{ParseIntError}
use Rattle.std.proofs.Common.{length, map, max, min, take}
use Rattle.std.proofs.Math.Seq.{take-length}
use Rattle.clap.specs.Matches.{ReadsOne, first_value, matched_of, one_text, raw_values}
use Rattle.clap.specs.Walk.{Rule, Text, one_of, rows_of, rule_of}
use Rattle.clap.specs.Words.{AddsArg, AddsSubcommand, shape_of, with_rule, with_subcommand}
use Rattle.clap.specs.declared.builder.arg.Arg.{Arg}
use Rattle.clap.specs.Simple.{App}
use Rattle.clap.specs.declared.builder.command.Command.{Command}
use Rattle.clap.specs.declared.builder.command.Command.TheViews.{out-Command}
use Rattle.clap.specs.declared.parser.matches.Found.{Found}
use Rattle.clap.proofs.WalkLemmas.{first_value-rows, one_text-rows, raw_values-rows}
use Rattle.clap.specs.Words.{HasKind, HasMatchesOf, IsAmong, app_of, fault_of, is_simple, is_simple_and_free, kind_of, subcommand_rows_of}
use Rattle.clap.specs.declared.parser.matches.ArgMatches.{ArgMatches}
use Rattle.clap.specs.declared.error.Error.{Error}
use Rattle.clap.specs.declared.error.kind.ErrorKind.TheVariants.{OutOfMemory}
use Rattle.command_line.specs.Words.{AreRefused, AsksIn, Choices, IsAsked, IsFlagIn, IsNumberIn, IsProgram, WordsGive, program_app, text_in, texts_in}
use Rattle.command_line.specs.declared.command.CommandFault.{CommandFault}
use Rattle.command_line.specs.declared.command.CommandFault.TheVariants.{Words, NoMemory}
use Rattle.command_line.specs.declared.command.Request.{Request}
use Rattle.command_line.specs.steps.Words.{IsArgument, IsCommand, Parses}
use Rattle.std.specs.declared.alloc.AllocError.{AllocError}

-- what `from_str` of an unsigned number returns
abbrev Gives : ℕ → Text → Result ℕ ParseIntError → Type 0
Gives bits text r = ParsesUnsigned bits 10 text r × ExplainsUnsignedError 10 text r × HasUnsignedDigitsIfOk text r

-- what a typed getter returned, as a caller uses it
number_of_text : (bits least most n : ℕ) (text : Option Text) (given : Option ℕ) →
    ((t : Text) → text ≡ Some t → ReadsOne (Gives bits) t given) → most < 2 ^ bits
    → ((v : ℕ) → given ≡ Some v → least ≤ v → v ≤ most → n ≡ v) → IsNumberIn least most text n
number_of_text bits least most n None given reads small kept = tt
number_of_text bits least most n (Some t) None reads small kept = λ numeral low high. absurd ((reads t refl).1.0 (numeral, omega arith))
number_of_text bits least most n (Some t) (Some v) reads small kept = λ numeral low high.
    let is : v ≡ digits_value 10 (without_leading_plus t) = (reads t refl).0.1 in
    kept v refl (omega arith) (omega arith) ∙ is

-- if a typed getter returned a number, and n is it if it is in range, n is the number that the value writes
pub number_of_entry : (bits least most n : ℕ) (f : Found) (id : Text) (given : Option ℕ) →
    ((t : Text) → one_text f id ≡ Some t → ReadsOne (Gives bits) t given)
    → most < 2 ^ bits → ((v : ℕ) → given ≡ Some v → least ≤ v → v ≤ most → n ≡ v) → IsNumberIn least most (one_of id (rows_of f)) n
number_of_entry bits least most n f id given reads small kept =
    number_of_text bits least most n (one_of id (rows_of f)) given (λ t is. reads t (one_text-rows f id ∙ is)) small kept

-- bounding the number given changes nothing if it is at most `most`
pub kept_below : (n v most other : ℕ) (given : Option ℕ) → n ≡ min (unwrap_or given other) most → given ≡ Some v → v ≤ most → n ≡ v
kept_below n v most other None is same below = cc
kept_below n v most other (Some w) is same below =
    let e : w ≡ v = cc in
    omega arith

-- clamping the number given changes nothing if it is from `least` to `most`
pub kept_within : (n v least most other : ℕ) (given : Option ℕ) → n ≡ max least (min (unwrap_or given other) most) → given ≡ Some v →
    least ≤ v → v ≤ most → n ≡ v
kept_within n v least most other None is same above below = cc
kept_within n v least most other (Some w) is same above below =
    let e : w ≡ v = cc in
    omega arith

-- the text that a getter returned, or else the empty one, is the argument's value
pub text_of_entry : (f : Found) (id : Text) (given : Option (Bor Text)) (d : Bor Text) →
    option_map (λ s. s.now) given ≡ first_value f id → d.now ≡ []
    → (unwrap_or given d).now ≡ text_in id (rows_of f)
text_of_entry f id None d reads empty = empty ∙ ap (λ o. unwrap_or o []) (reads ∙ first_value-rows f id)
text_of_entry f id (Some x) d reads empty = ap (λ o. unwrap_or o []) (reads ∙ first_value-rows f id)

-- the texts that a getter returned, or else none, are the argument's values
pub texts_of_entry : (f : Found) (id : Text) (given : Option (Bor (List (Bor Text)))) (d : Bor (List (Bor Text)))
    → option_map (λ s. map (λ v. v.now) s.now) given ≡ option_map raw_values (matched_of f id) → d.now ≡ []
    → map (λ v. v.now) (unwrap_or given d).now ≡ texts_in id (rows_of f)
texts_of_entry f id None d reads empty = ap (map (λ v. v.now)) empty ∙ ap (λ o. unwrap_or o []) (reads ∙ raw_values-rows f id)
texts_of_entry f id (Some x) d reads empty = ap (λ o. unwrap_or o []) (reads ∙ raw_values-rows f id)

-- if a flag has a value for a word, and the argument has this word, the flag has that value
pub flag_of_entry : (f : Found) (id word : Text) (flag value : Bool) → (one_text f id ≡ Some word → flag ≡ value) →
    one_of id (rows_of f) ≡ Some word → flag ≡ value
flag_of_entry f id word flag value reads is = reads (one_text-rows f id ∙ is)

-- a flag that a typed getter read is set exactly if its text is `true`
true_of_text : (E : Type 0) (text : Option Text) (given : Option Bool) → (text ≡ None → given ≡ None)
    → ((t : Text) → text ≡ Some t → ReadsOne (ParsesBool {E = E}) t given)
    → (unwrap_or given false ≡ true) ↔ (text ≡ Some (codes "true"))
true_of_text E None given none reads =
    let is : given ≡ None = none refl in
    (λ set. absurd (let bad : false ≡ true = ap (λ g. unwrap_or g false) (sym is) ∙ set in cc), λ bad. absurd cc)
true_of_text E (Some t) None none reads = (
  λ bad. absurd cc,
  λ is. absurd ((reads t refl).1.0 (let same : t ≡ codes "true" = cc in same)),
)
true_of_text E (Some t) (Some true) none reads = (λ set. ap (λ (w : Text). Some w) (reads t refl), λ is. refl)
true_of_text E (Some t) (Some false) none reads = (
  λ bad. absurd cc,
  λ is. absurd (let other : t ≡ codes "false" = reads t refl in let same : t ≡ codes "true" = cc in cc),
)

-- a flag read from a command's values is set exactly if its text there is `true`
pub true_of_entry : (E : Type 0) (f : Found) (id : Text) (given : Option Bool) → (one_text f id ≡ None → given ≡ None)
    → ((t : Text) → one_text f id ≡ Some t → ReadsOne (ParsesBool {E = E}) t given)
    → (unwrap_or given false ≡ true) ↔ (one_of id (rows_of f) ≡ Some (codes "true"))
true_of_entry E f id given none reads =
    true_of_text E (one_of id (rows_of f)) given (λ is. none (one_text-rows f id ∙ is)) (λ t is. reads t (one_text-rows f id ∙ is))

-- a flag that is set exactly if its text is `true` has the value of its text
pub flag_of_text : (flag : Bool) (text : Option Text) → ((flag ≡ true) ↔ (text ≡ Some (codes "true"))) → IsFlagIn text flag
flag_of_text true text is = (λ _. refl, λ other. let set : text ≡ Some (codes "true") = is.0 refl in absurd cc)
flag_of_text false text is = (is.1, λ _. refl)

-- the first n elements of a list of n elements are all of it
pub take_end : (n : ℕ) (xs : List (Bor Text)) → length xs ≤ n → n ≤ length xs → take n xs ≡ xs
take_end n xs past within =
    let e : n ≡ length xs = omega arith in
    rw e (take-length xs)

-- adding an argument to a command adds its rule to the definition
pub added : (app : App) (rule : Rule) (old new : Command) (arg : Arg) →
    IsCommand app old → IsArgument rule arg → AddsArg old arg new → IsCommand (with_rule app rule) new
added app rule old new arg command argument adds = record {
  shape = adds.shape argument.local ∙ ap (λ a. with_rule a (rule_of arg)) command.shape ∙ ap (with_rule app) argument.follows;
  local = adds.globals ∙ ap (λ b. b || arg.global) command.local ∙ argument.local;
}

-- adding an argument to a command, which can fail, adds its rule to the definition
pub added_if_ok : (app : App) (rule : Rule) (old : Command) (arg : Arg) (result : Result Command AllocError) →
    IsCommand app old → IsArgument rule arg → IfOk result (AddsArg old arg) → IfOk result (IsCommand (with_rule app rule))
added_if_ok app rule old arg (Ok new) command argument adds = added app rule old new arg command argument adds
added_if_ok app rule old arg (Err _) command argument adds = tt

-- adding a command to another adds its definition
pub joined : (app sub : App) (old command new : Command) → IsCommand app old → IsCommand sub command → AddsSubcommand old command new
    → IsCommand (with_subcommand app sub.top) new
joined app sub old command new whole part adds = record {
  shape = adds.shape part.local ∙ ap (λ a. with_subcommand a (shape_of command)) whole.shape
      ∙ ap (λ (a : App). with_subcommand app a.top) part.shape;
  local = adds.globals ∙ ap (λ b. b || (out-Command command).has_globals) whole.local ∙ part.local;
}

-- adding a command to another, which can fail, adds its definition
pub joined_if_ok : (app sub : App) (old command : Command) (result : Result Command AllocError) →
    IsCommand app old → IsCommand sub command → IfOk result (AddsSubcommand old command)
    → IfOk result (IsCommand (with_subcommand app sub.top))
joined_if_ok app sub old command (Ok new) whole part adds = joined app sub old command new whole part adds
joined_if_ok app sub old command (Err _) whole part adds = tt

-- `clap`'s definitions say what it makes of all words for the program
pub program_is_simple : (forms formats grades picks : Choices) → (is_simple (program_app forms formats grades picks) ≡ true)
    × (is_simple_and_free (program_app forms formats grades picks) ≡ true)
program_is_simple forms formats grades picks = (refl, refl)

-- what the entries that `clap` found ask for, the words ask for
pub request_parses : (app : App) (program : Command) (words : List Text) (found : ArgMatches) (asked : Option Request)
    → IsCommand app program → is_simple app ≡ true → HasMatchesOf (app_of program) words found
    → IsAsked (AsksIn (subcommand_rows_of found)) asked → Parses app words (Ok asked)
request_parses app program words found asked command simple matches is =
    let rows = (subst (λ a. HasMatchesOf a words found) command.shape matches simple).1 in
    subst (λ r. IsAsked (AsksIn r) asked) rows is

-- what an error of `clap` becomes is a fault for which it refuses the words
pub fault_parses : (app : App) (program : Command) (words : List Text) (error : Error) (result : Result (Option Request) CommandFault)
    → IsCommand app program → is_simple_and_free app ≡ true
    → (is_simple_and_free (app_of program) ≡ true → HasKind (fault_of (app_of program) words) error)
    → IsErrAnd result (λ fault. (kind_of error ≡ OutOfMemory → fault ≡ NoMemory) × (kind_of error ≢ OutOfMemory → fault ≡ Words error))
    → Parses app words result
fault_parses app program words error result command simple kinds becomes =
    by_kind result (subst (λ a. is_simple_and_free a ≡ true → HasKind (fault_of a words) error) command.shape kinds simple) becomes
  where
    by_kind : (result : Result (Option Request) CommandFault) → HasKind (fault_of app words) error
        → IsErrAnd result (λ fault. (kind_of error ≡ OutOfMemory → fault ≡ NoMemory) × (kind_of error ≢ OutOfMemory → fault ≡ Words error))
        → Parses app words result
    by_kind (Ok asked) kind becomes = absurd becomes
    by_kind (Err NoMemory) kind becomes = tt
    by_kind (Err (Words other)) (inl memory) becomes =
        let is : Words other ≡ NoMemory = becomes.0 memory in cc
    by_kind (Err (Words other)) (inr among) becomes =
        let is : Words other ≡ Words error = becomes.1 (λ memory. let never : Words other ≡ NoMemory = becomes.0 memory in cc) in
        let same : error ≡ other = cc in
        subst (λ e. IsAmong (kind_of e) (fault_of app words)) same among

-- words that `clap` refuses for the program are refused
pub refused_by_clap : (app : App) (parsed words : List Text) (fault : CommandFault) (result : Result Request CommandFault) → IsProgram app
    → parsed ≡ words → Parses app parsed (Err fault) → IsErrAnd result (λ returned. returned ≡ fault) → WordsGive words result
refused_by_clap app parsed words fault (Ok request) program same parses is = absurd is
refused_by_clap app parsed words (Words error) (Err returned) program same parses is =
    rw is (app, program, inl (subst (λ w. IsAmong (kind_of error) (fault_of app w)) same parses))
refused_by_clap app parsed words NoMemory (Err returned) program same parses is = rw is tt

-- words that ask the program for no request are refused
pub refused_without_request : (app : App) (words : List Text) (fault : CommandFault) → IsProgram app
    → Parses app words (Ok None) → AreRefused words fault
refused_without_request app words (Words error) program parses = (app, program, inr parses)
refused_without_request app words NoMemory program parses = tt
