use Rattle.std.proofs.Common.{map}
use Rattle.mime_rules.specs.RuleFields.{token_of, meaning_of}
use Rattle.mime_rules.proofs.GrammarLaws.{line_stops, line_left, line_good}
use Rattle.mime_rules.proofs.grammar.list_of.Goals as goal

pub returns-in-Err : goal.returns-in-Err
returns-in-Err c = record { value = line_stops c.in-Err.stop (map token_of c.args.tokens.items) c.in-Err.ensures.reads }

pub returns-in-Err-end_line : goal.returns-in-Err-end_line
returns-in-Err-end_line c = record { value = line_left c.in-Err-end_line.stop (map token_of c.args.tokens.items) (map token_of c.list.new.tokens.items) (meaning_of c.in-Ok.rule) c.in-Ok.ensures.reads c.in-Err-end_line.ensures }

pub returns : goal.returns
returns c = record { value = line_good (map token_of c.args.tokens.items) (map token_of c.list.new.tokens.items) (meaning_of c.in-Ok.rule) c.in-Ok.ensures.reads c.in-Ok-end_line.ensures }
