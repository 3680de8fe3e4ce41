use Rattle.std.proofs.Common.{refl}
use Rattle.std.specs.Char.{encode_utf8}
use Rattle.std.specs.Str.{is_utf8, chars}
use Rattle.mime_rules.specs.Tokens.{tokens_of, tokens_within}
use Rattle.mime_rules.specs.RuleGrammar.{list_of, list_within, item_within, factor_within}
use Rattle.text_examples.proofs.fault_examples.Goals as goal

pub returns-clause-kind : goal.returns-clause-kind
unfolding encode_utf8 is_utf8 chars tokens_of tokens_within list_of list_within item_within factor_within
returns-clause-kind c = refl

pub returns-clause-first_fault : goal.returns-clause-first_fault
unfolding encode_utf8 is_utf8 chars tokens_of tokens_within list_of list_within item_within factor_within
returns-clause-first_fault c = refl

pub returns-clause-operator : goal.returns-clause-operator
unfolding encode_utf8 is_utf8 chars tokens_of tokens_within list_of list_within item_within factor_within
returns-clause-operator c = refl

pub returns-clause-separator : goal.returns-clause-separator
unfolding encode_utf8 is_utf8 chars tokens_of tokens_within list_of list_within item_within factor_within
returns-clause-separator c = refl

pub returns-clause-argument : goal.returns-clause-argument
unfolding encode_utf8 is_utf8 chars tokens_of tokens_within list_of list_within item_within factor_within
returns-clause-argument c = refl

pub returns-clause-wanted_separator : goal.returns-clause-wanted_separator
unfolding encode_utf8 is_utf8 chars tokens_of tokens_within list_of list_within item_within factor_within
returns-clause-wanted_separator c = refl

pub returns-clause-bad_group : goal.returns-clause-bad_group
unfolding encode_utf8 is_utf8 chars tokens_of tokens_within list_of list_within item_within factor_within
returns-clause-bad_group c = refl

pub returns-clause-bad_last_priority : goal.returns-clause-bad_last_priority
unfolding encode_utf8 is_utf8 chars tokens_of tokens_within list_of list_within item_within factor_within
returns-clause-bad_last_priority c = refl

pub returns-clause-bad_set : goal.returns-clause-bad_set
unfolding encode_utf8 is_utf8 chars tokens_of tokens_within list_of list_within item_within factor_within
returns-clause-bad_set c = refl

pub returns-clause-bad_value : goal.returns-clause-bad_value
unfolding encode_utf8 is_utf8 chars tokens_of tokens_within list_of list_within item_within factor_within
returns-clause-bad_value c = refl
