-- The options and arguments of a command, as clap reads them.
use Rattle.std.specs.Prelude.{◌≡◌, ℕ, true, List, [], ◌∷◌, Some, codes}
use Rattle.clap.specs.Words.{App, Rule, Text, fault_of, new_app, new_rule, with_rule}
use Rattle.clap.specs.Simple.{on_top}
use Rattle.clap.specs.declared.builder.value_parser.ValueParser.TheVariants as parser
use Rattle.clap.specs.declared.builder.action.ArgAction.TheVariants.{Append, Help, SetTrue}

-- An optional, non-empty positional argument.
abbrev pub word_rule : Text → Rule
word_rule name = record (new_rule name) { value_names = 1; parser = Some parser.NonEmptyString }

-- An option `--NAME` with a non-empty value.
abbrev pub text_rule : Text → Rule
text_rule name = record (word_rule name) { long = Some name }

-- An option of one letter with a non-empty value.
abbrev pub letter_rule : ℕ → Text → Rule
letter_rule letter name = record (word_rule name) { short = Some letter }

-- A flag `--NAME`.
abbrev pub flag_rule : Text → Rule
flag_rule name = record (new_rule name) { long = Some name; action = Some SetTrue }

-- A flag of one letter.
abbrev pub letter_flag_rule : ℕ → Text → Rule
letter_flag_rule letter name = record (new_rule name) { short = Some letter; action = Some SetTrue }

-- A required option or argument.
abbrev pub needed : Rule → Rule
needed rule = record rule { required = true }

-- An option or argument that can be repeated.
abbrev pub several : Rule → Rule
several rule = record rule { action = Some Append }

-- An option whose value can be omitted and is then empty.
abbrev pub listed : Rule → Rule
listed rule = record rule {
  range = Some (record { start_inclusive = 0; end_inclusive = 1 });
  missing = [] ∷ [];
  parser = Some parser.String;
}

-- `--help` without `-h`.
abbrev pub help_rule : Rule
help_rule = record (new_rule (codes "help")) { long = Some (codes "help"); action = Some Help }

abbrev pub socket_rule : Rule
socket_rule = several (text_rule (codes "socket"))

-- A task of `spool`: `[--socket SOCKET]..`
abbrev pub task_app : Text → App
task_app name = with_rule (new_app name) socket_rule

-- A program with its own name: `[--help] [--socket SOCKET]..`
abbrev pub named_app : Text → App
named_app name =
    with_rule (with_rule (on_top (λ s. record s { disable_help_flag = true }) (new_app name)) help_rule) socket_rule

-- Clap finds no error in the arguments of a program with this command.
abbrev pub AreFaultlessFor : App → List Text → Type 0
AreFaultlessFor app words = fault_of app words ≡ []
