-- The meaning of the command-line arguments, as clap reads them.
use Rattle.std.specs.Prelude.{◌≡◌, ◌⊎◌, ◌≤◌, ℕ, ⊤, Bool as Truth, true, false, List, [], ◌∷◌, Option, None, Some, IfSome, codes, length}
use Rattle.std.specs.Prelude.{filter, map, option_map, unwrap_or}
use Rattle.std.specs.Str.{bytes_eq}
use Rattle.std.specs.Str.Parse.{digits_value, without_leading_plus}
use Rattle.clap.specs.Words.{Accepts, App, IsUnsignedIn, Row, Rule, Text, built, fault_of, first_of, found_of, matches_of}
use Rattle.clap.specs.Words.{kind_of, new_app, new_rule, one_of, one_text, reading_of, with_rule}
use Rattle.clap.specs.Simple.{on_top}
use Rattle.clap.specs.declared.builder.value_parser.ValueParser.{ValueParser}
use Rattle.clap.specs.declared.builder.value_parser.ValueParser.TheVariants.{Bool, NonEmptyString, Unsigned}
use Rattle.clap.specs.declared.builder.value_parser.Reading.TheVariants.{AsWritten}
use Rattle.clap.specs.declared.builder.action.ArgAction.TheVariants.{SetTrue}
use Rattle.clap.specs.declared.error.kind.ErrorKind.TheVariants.{ValueValidation}
use Rattle.clap.specs.declared.parser.matches.ArgMatches.{ArgMatches}
use Rattle.spool_runtime.specs.declared.options.WordsFault.{WordsFault}
use Rattle.spool_runtime.specs.declared.options.WordsFault.TheVariants.{Refused, Memory}

-- ---- the command: its name and its options

-- A number from 4,096 to 1,073,741,824.
abbrev pub sizes : ValueParser
sizes = Unsigned 4096 1073741824

-- An option `--NAME` with one value.
abbrev pub option_of : Text → ValueParser → Rule
option_of name parser =
    record (new_rule name) { long = Some name; value_names = 1; parser = Some parser }

-- An option `--NAME` with a number from `least` to `most`.
abbrev pub option_in : ℕ → ℕ → Text → Rule
option_in least most name = option_of name (Unsigned least most)

-- An option `--NAME` whose value is not empty.
abbrev pub text_option : Text → Rule
text_option name = option_of name NonEmptyString

-- A flag `--NAME` without a value.
abbrev pub flag_of : Text → Rule
flag_of name = record (new_rule name) { long = Some name; action = Some SetTrue; parser = Some Bool }

-- The command `NAME [--version]`.
abbrev pub versioned_app : Text → App
versioned_app name = on_top (λ s. record s { has_version = true }) (new_app name)

-- The command `NAME [--version] [--root DIR] [--types FILE] [--convs FILE] [--programs FILE] [--size BYTES]`.
abbrev pub spool_app : Text → App
spool_app name =
    with_rule (with_rule (with_rule (with_rule (with_rule (versioned_app name) (text_option (codes "root"))) (text_option (codes "types")))
    (text_option (codes "convs"))) (text_option (codes "programs"))) (option_of (codes "size") sizes)

-- `spool_shell`, with these options and `[--reserve] [--devices]`.
abbrev pub shell_app : App
shell_app = with_rule (with_rule (spool_app (codes "spool_shell")) (flag_of (codes "reserve"))) (flag_of (codes "devices"))

-- ---- what clap finds in the arguments, which begin with the program's name

-- DIR, if it is given.
abbrev pub root_of : List Row → Option Text
root_of found = first_of (codes "root") found

-- The FILE of types, if it is given.
abbrev pub types_of : List Row → Option Text
types_of found = first_of (codes "types") found

-- The FILE of conversions, if it is given.
abbrev pub convs_of : List Row → Option Text
convs_of found = first_of (codes "convs") found

-- The FILE of programs, if it is given.
abbrev pub programs_of : List Row → Option Text
programs_of found = first_of (codes "programs") found

-- The number that a text of digits represents.
abbrev pub number_of : Text → ℕ
number_of text = digits_value 10 (without_leading_plus text)

-- The number of an option, or `usual` if it is not given.
abbrev pub number_or : ℕ → Option Text → ℕ
number_or usual given = unwrap_or (option_map number_of given) usual

-- BYTES, or 4,194,304 if they are not given.
abbrev pub size_of : List Row → ℕ
size_of found = number_or 4194304 (one_of (codes "size") found)

-- A flag that is given is `true`.
abbrev pub is_told : Option Text → Truth
is_told None = false
is_told (Some text) = bytes_eq text (codes "true")

-- Whether the flag `--reserve` is given.
abbrev pub reserve_of : List Row → Truth
reserve_of found = is_told (one_of (codes "reserve") found)

-- Whether the flag `--devices` is given.
abbrev pub devices_of : List Row → Truth
devices_of found = is_told (one_of (codes "devices") found)

abbrev pub root_in : List Text → Option Text
root_in words = root_of (matches_of shell_app words)

abbrev pub types_in : List Text → Option Text
types_in words = types_of (matches_of shell_app words)

abbrev pub convs_in : List Text → Option Text
convs_in words = convs_of (matches_of shell_app words)

abbrev pub programs_in : List Text → Option Text
programs_in words = programs_of (matches_of shell_app words)

abbrev pub size_in : List Text → ℕ
size_in words = size_of (matches_of shell_app words)

abbrev pub reserve_in : List Text → Truth
reserve_in words = reserve_of (matches_of shell_app words)

abbrev pub devices_in : List Text → Truth
devices_in words = devices_of (matches_of shell_app words)

-- clap finds no error in the arguments of a program with this command.
abbrev pub AreFaultlessFor : App → List Text → Type 0
AreFaultlessFor app words = fault_of app words ≡ []

abbrev pub AreFaultless : List Text → Type 0
AreFaultless words = AreFaultlessFor shell_app words

-- clap finds no error in the arguments, and DIR has at most 64 bytes.
abbrev pub AreTaken : List Text → Type 0
AreTaken words = AreFaultless words × IfSome (root_in words) (λ dir. length dir ≤ 64)

-- The arguments are refused only if this is false. Memory may run out in any case.
abbrev pub RefusesOnly : Type 0 → WordsFault → Type 0
RefusesOnly p (Refused text) = p → ⊥
RefusesOnly p Memory = ⊤

-- The arguments are refused for an invalid value, so with status 2, or memory ran out.
abbrev pub IsMistake : WordsFault → Type 0
IsMistake (Refused error) = kind_of error ≡ ValueValidation
IsMistake Memory = ⊤

-- ---- between the steps of reading the arguments

-- The parsers of the arguments with this name.
abbrev pub parsers_of : Text → List Rule → List (Option ValueParser)
parsers_of name rules = map (λ (r : Rule). r.parser) (filter (λ (r : Rule). bytes_eq r.id name) rules)

-- One option has this name, and its values pass this parser. The same is true in the command that clap builds from this
-- one.
abbrev pub HasOption : App → Text → ValueParser → Type 0
HasOption app name parser =
    (parsers_of name app.top.rules ≡ Some parser ∷ []) × (parsers_of name (built app).top.rules ≡ Some parser ∷ [])

-- A text that was found for an option passes the option's parser, if the parser does not change it.
abbrev pub PassParsers : App → ArgMatches → Type 0
PassParsers app m =
    (name text : Text) (parser : ValueParser) → ¬ (name ≡ []) → reading_of parser ≡ AsWritten → HasOption app name parser
    → one_text (found_of m) name ≡ Some text → (any_case : Truth) × Accepts any_case parser text

-- The number of an option, if it is given, is in this range.
abbrev pub HasNumberIn : ℕ → ℕ → Text → ArgMatches → Type 0
HasNumberIn least most name m = (text : Text) → one_text (found_of m) name ≡ Some text → IsUnsignedIn least most text

-- The value of a flag is one of the two values.
abbrev pub HasFlag : Text → ArgMatches → Type 0
HasFlag name m = (text : Text) → one_text (found_of m) name ≡ Some text → (text ≡ codes "true") ⊎ (text ≡ codes "false")
