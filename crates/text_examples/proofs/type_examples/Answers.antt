use Rattle.std.proofs.Common.{refl}
use Rattle.std.specs.Char.{encode_utf8}
use Rattle.std.specs.Str.{is_utf8, chars}
use Rattle.mime_rules.specs.Tokens.{tokens_of, tokens_within}
use Rattle.mime_rules.specs.RuleGrammar.{list_of, list_within, item_within, factor_within}
use Rattle.text_examples.proofs.type_examples.Goals as goal

pub returns-clause-jpeg : goal.returns-clause-jpeg
unfolding encode_utf8 is_utf8 chars tokens_of tokens_within list_of list_within item_within factor_within
returns-clause-jpeg c = refl

pub returns-clause-priority : goal.returns-clause-priority
unfolding encode_utf8 is_utf8 chars tokens_of tokens_within list_of list_within item_within factor_within
returns-clause-priority c = refl

pub returns-clause-name : goal.returns-clause-name
unfolding encode_utf8 is_utf8 chars tokens_of tokens_within list_of list_within item_within factor_within
returns-clause-name c = refl

pub returns-clause-joined : goal.returns-clause-joined
unfolding encode_utf8 is_utf8 chars tokens_of tokens_within list_of list_within item_within factor_within
returns-clause-joined c = refl

pub returns-clause-item : goal.returns-clause-item
unfolding encode_utf8 is_utf8 chars tokens_of tokens_within list_of list_within item_within factor_within
returns-clause-item c = refl

pub returns-clause-negation : goal.returns-clause-negation
unfolding encode_utf8 is_utf8 chars tokens_of tokens_within list_of list_within item_within factor_within
returns-clause-negation c = refl

pub returns-clause-group : goal.returns-clause-group
unfolding encode_utf8 is_utf8 chars tokens_of tokens_within list_of list_within item_within factor_within
returns-clause-group c = refl

pub returns-clause-last_priority : goal.returns-clause-last_priority
unfolding encode_utf8 is_utf8 chars tokens_of tokens_within list_of list_within item_within factor_within
returns-clause-last_priority c = refl

pub returns-clause-capital : goal.returns-clause-capital
unfolding encode_utf8 is_utf8 chars tokens_of tokens_within list_of list_within item_within factor_within
returns-clause-capital c = refl
