-- The parameters of a command, as clap reads them.
use Rattle.std.specs.Prelude.{List, [], ◌∷◌}
use Rattle.clap.specs.Words.{App, Rule, with_rule}
use Rattle.front_words.specs.CommandOptions.{flag_rule, letter_flag_rule, letter_rule, listed, needed, several, text_rule, word_rule}
use Rattle.front_words.specs.declared.parameters.Parameter.{Parameter}
use Rattle.front_words.specs.declared.parameters.Parameter.TheVariants.{Word, NeededWord, Words, NeededWords, Text, Letter, ThreeLetters, Letters, List as Listed, Flag, LetterFlag}

abbrev pub rule_for : Parameter → Rule
rule_for (Word name value help) = word_rule name.now
rule_for (NeededWord name value help) = needed (word_rule name.now)
rule_for (Words name value help) = several (word_rule name.now)
rule_for (NeededWords name value help) = needed (several (word_rule name.now))
rule_for (Text name value help) = text_rule name.now
rule_for (Letter letter name value help) = letter_rule letter name.now
rule_for (ThreeLetters letter second third name value help) = record (letter_rule letter name.now) { short_aliases = second ∷ third ∷ [] }
rule_for (Letters letter name value help) = several (letter_rule letter name.now)
rule_for (Listed letter name help) = listed (letter_rule letter name.now)
rule_for (Flag name help) = flag_rule name.now
rule_for (LetterFlag letter name help) = letter_flag_rule letter name.now

-- A command with these parameters, in their order.
abbrev pub with_parameters : App → List Parameter → App
with_parameters app [] = app
with_parameters app (parameter ∷ rest) = with_parameters (with_rule app (rule_for parameter)) rest
