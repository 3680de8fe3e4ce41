use Rattle.std.proofs.Common.{refl}
use Rattle.std.specs.Char.{encode_utf8}
use Rattle.std.specs.Str.{is_utf8, chars}
use Rattle.mime_rules.specs.Tokens.{tokens_of, tokens_within}
use Rattle.mime_rules.specs.RuleGrammar.{list_of, list_within, item_within, factor_within}
use Rattle.text_examples.proofs.rule_examples.Goals as goal

pub returns-clause-pattern : goal.returns-clause-pattern
unfolding encode_utf8 is_utf8 chars tokens_of tokens_within list_of list_within item_within factor_within
returns-clause-pattern c = refl

pub returns-clause-set : goal.returns-clause-set
unfolding encode_utf8 is_utf8 chars tokens_of tokens_within list_of list_within item_within factor_within
returns-clause-set c = refl

pub returns-clause-special_byte : goal.returns-clause-special_byte
unfolding encode_utf8 is_utf8 chars tokens_of tokens_within list_of list_within item_within factor_within
returns-clause-special_byte c = refl

pub returns-clause-text_byte : goal.returns-clause-text_byte
unfolding encode_utf8 is_utf8 chars tokens_of tokens_within list_of list_within item_within factor_within
returns-clause-text_byte c = refl

pub returns-clause-text : goal.returns-clause-text
unfolding encode_utf8 is_utf8 chars tokens_of tokens_within list_of list_within item_within factor_within
returns-clause-text c = refl

pub returns-clause-value : goal.returns-clause-value
unfolding encode_utf8 is_utf8 chars tokens_of tokens_within list_of list_within item_within factor_within
returns-clause-value c = refl

pub returns-clause-contained : goal.returns-clause-contained
unfolding encode_utf8 is_utf8 chars tokens_of tokens_within list_of list_within item_within factor_within
returns-clause-contained c = refl

pub returns-clause-locale : goal.returns-clause-locale
unfolding encode_utf8 is_utf8 chars tokens_of tokens_within list_of list_within item_within factor_within
returns-clause-locale c = refl
