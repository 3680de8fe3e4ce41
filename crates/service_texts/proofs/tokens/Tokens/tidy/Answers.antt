-- The place had no job.
use Rattle.std.proofs.Common.{None, sym, ◌∙◌}
use Rattle.service_texts.proofs.TokenLaws.{put_from, put_same}
use Rattle.service_texts.proofs.tokens.Tokens.tidy.Goals as goal

pub returns-in-None : goal.returns-in-None
returns-in-None c = record {
  same =
      put_same c.args.self.now (record { jobs = c.remove.new.self }) c.args.token.now (sym c.entry.ensures ∙ c.in-None.is)
      (put_from c.args.self.now (record { jobs = c.remove.new.self }) c.args.token.now None c.remove.ensures.updates.0);
}
