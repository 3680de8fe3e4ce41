-- The bytes are a token.
use Rattle.std.proofs.Common.{sym, ◌∙◌}
use Rattle.service_texts.proofs.TokenLaws.{no_token, some_token}
use Rattle.service_texts.proofs.tokens.token_text.Goals as goal

pub returns-in_default-clause-value : goal.returns-in_default-clause-value
returns-in_default-clause-value c = no_token c.args.bytes.now c.in_default.ensures.cases.0

pub returns-then-allows-clause-value : goal.returns-then-allows-clause-value
returns-then-allows-clause-value c = some_token c.args.bytes.now c.in-Ok.text.now c.in-Ok.ensures.cases (sym c.allows.ensures ∙ c.if-allows.true)
