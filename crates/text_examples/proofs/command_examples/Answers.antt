use Rattle.std.proofs.Common.{refl}
use Rattle.std.specs.Char.{encode_utf8}
use Rattle.std.specs.Str.{is_utf8, chars}
use Rattle.command_lines.specs.CommandWords.{words_of, words_within}
use Rattle.command_lines.specs.CommandGrammar.{kind_of}
use Rattle.command_lines.specs.Text.{commands_of, commands_within}
use Rattle.text_examples.proofs.command_examples.Goals as goal

pub returns-clause-script : goal.returns-clause-script
unfolding encode_utf8 is_utf8 chars words_of words_within kind_of commands_of commands_within
returns-clause-script c = refl

pub returns-clause-queue : goal.returns-clause-queue
unfolding encode_utf8 is_utf8 chars words_of words_within kind_of commands_of commands_within
returns-clause-queue c = refl

pub returns-clause-quoted : goal.returns-clause-quoted
unfolding encode_utf8 is_utf8 chars words_of words_within kind_of commands_of commands_within
returns-clause-quoted c = refl

pub returns-clause-blank : goal.returns-clause-blank
unfolding encode_utf8 is_utf8 chars words_of words_within kind_of commands_of commands_within
returns-clause-blank c = refl

pub returns-clause-byte : goal.returns-clause-byte
unfolding encode_utf8 is_utf8 chars words_of words_within kind_of commands_of commands_within
returns-clause-byte c = refl

pub returns-clause-number : goal.returns-clause-number
unfolding encode_utf8 is_utf8 chars words_of words_within kind_of commands_of commands_within
returns-clause-number c = refl

pub returns-clause-moment : goal.returns-clause-moment
unfolding encode_utf8 is_utf8 chars words_of words_within kind_of commands_of commands_within
returns-clause-moment c = refl

pub returns-clause-note : goal.returns-clause-note
unfolding encode_utf8 is_utf8 chars words_of words_within kind_of commands_of commands_within
returns-clause-note c = refl

pub returns-clause-accept : goal.returns-clause-accept
unfolding encode_utf8 is_utf8 chars words_of words_within kind_of commands_of commands_within
returns-clause-accept c = refl

pub returns-clause-stop : goal.returns-clause-stop
unfolding encode_utf8 is_utf8 chars words_of words_within kind_of commands_of commands_within
returns-clause-stop c = refl

pub returns-clause-hold : goal.returns-clause-hold
unfolding encode_utf8 is_utf8 chars words_of words_within kind_of commands_of commands_within
returns-clause-hold c = refl

pub returns-clause-release : goal.returns-clause-release
unfolding encode_utf8 is_utf8 chars words_of words_within kind_of commands_of commands_within
returns-clause-release c = refl

pub returns-clause-purge : goal.returns-clause-purge
unfolding encode_utf8 is_utf8 chars words_of words_within kind_of commands_of commands_within
returns-clause-purge c = refl

pub returns-clause-listing : goal.returns-clause-listing
unfolding encode_utf8 is_utf8 chars words_of words_within kind_of commands_of commands_within
returns-clause-listing c = refl

pub returns-clause-drain : goal.returns-clause-drain
unfolding encode_utf8 is_utf8 chars words_of words_within kind_of commands_of commands_within
returns-clause-drain c = refl

pub returns-clause-checkpoint : goal.returns-clause-checkpoint
unfolding encode_utf8 is_utf8 chars words_of words_within kind_of commands_of commands_within
returns-clause-checkpoint c = refl

pub returns-clause-creation : goal.returns-clause-creation
unfolding encode_utf8 is_utf8 chars words_of words_within kind_of commands_of commands_within
returns-clause-creation c = refl

pub returns-clause-creation_by : goal.returns-clause-creation_by
unfolding encode_utf8 is_utf8 chars words_of words_within kind_of commands_of commands_within
returns-clause-creation_by c = refl

pub returns-clause-cut_send : goal.returns-clause-cut_send
unfolding encode_utf8 is_utf8 chars words_of words_within kind_of commands_of commands_within
returns-clause-cut_send c = refl

pub returns-clause-empty_send : goal.returns-clause-empty_send
unfolding encode_utf8 is_utf8 chars words_of words_within kind_of commands_of commands_within
returns-clause-empty_send c = refl

pub returns-clause-longest_note : goal.returns-clause-longest_note
unfolding encode_utf8 is_utf8 chars words_of words_within kind_of commands_of commands_within
returns-clause-longest_note c = refl

pub returns-clause-long_note : goal.returns-clause-long_note
unfolding encode_utf8 is_utf8 chars words_of words_within kind_of commands_of commands_within
returns-clause-long_note c = refl

pub returns-clause-long_line : goal.returns-clause-long_line
unfolding encode_utf8 is_utf8 chars words_of words_within kind_of commands_of commands_within
returns-clause-long_line c = refl

pub returns-clause-oversized : goal.returns-clause-oversized
unfolding encode_utf8 is_utf8 chars words_of words_within kind_of commands_of commands_within
returns-clause-oversized c = refl

pub returns-clause-oversized_cut : goal.returns-clause-oversized_cut
unfolding encode_utf8 is_utf8 chars words_of words_within kind_of commands_of commands_within
returns-clause-oversized_cut c = refl
