use Rattle.std.proofs.Common.{List, ◌++◌, length, map}
use Rattle.mime_rules.specs.Tokens.{Token}
use Rattle.mime_rules.specs.RuleFields.{token_of}
use Rattle.mime_rules.proofs.TokenLaws.{TokensSay}
use Rattle.mime_rules.proofs.tokens.tokens_of.Given as goal

abbrev pub invariant-loop-rest : goal.invariant-loop-rest
invariant-loop-rest l = (ts : List Token) → TokensSay l.rest ts → TokensSay l.line (map token_of l.tokens.items ++ ts)

abbrev pub decreases-loop-rest : goal.decreases-loop-rest
decreases-loop-rest l = length l.rest
