-- The entry was removed.
use Rattle.std.proofs.Common.{None, sym, ◌∙◌}
use Rattle.service_texts.proofs.TokenLaws.{forgot, put_from}
use Rattle.service_texts.proofs.tokens.Tokens.forget.Goals as goal

pub returns-then-is_entry : goal.returns-then-is_entry
returns-then-is_entry c =
    forgot c.args.self.now (record { jobs = c.remove.new.self }) c.args.token.now c.args.job (sym c.is_entry.ensures ∙ c.if-is_entry.true)
    (put_from c.args.self.now (record { jobs = c.remove.new.self }) c.args.token.now None c.remove.ensures.updates.0)
