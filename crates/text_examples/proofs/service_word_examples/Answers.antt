use Rattle.std.proofs.Common.{refl}
use Rattle.std.specs.Char.{encode_utf8}
use Rattle.std.specs.Str.{is_utf8, chars}
use Rattle.command_lines.specs.CommandWords.{words_of, words_within}
use Rattle.text_examples.proofs.service_word_examples.Goals as goal

pub returns-clause-lone : goal.returns-clause-lone
unfolding encode_utf8 is_utf8 chars words_of words_within
returns-clause-lone c = refl

pub returns-clause-number : goal.returns-clause-number
unfolding encode_utf8 is_utf8 chars words_of words_within
returns-clause-number c = refl

pub returns-clause-name : goal.returns-clause-name
unfolding encode_utf8 is_utf8 chars words_of words_within
returns-clause-name c = refl

pub returns-clause-close_at : goal.returns-clause-close_at
unfolding encode_utf8 is_utf8 chars words_of words_within
returns-clause-close_at c = refl

pub returns-clause-list : goal.returns-clause-list
unfolding encode_utf8 is_utf8 chars words_of words_within
returns-clause-list c = refl

pub returns-clause-find : goal.returns-clause-find
unfolding encode_utf8 is_utf8 chars words_of words_within
returns-clause-find c = refl

pub returns-clause-token : goal.returns-clause-token
unfolding encode_utf8 is_utf8 chars words_of words_within
returns-clause-token c = refl
