-- The job was written to the place of the token.
use Rattle.std.proofs.Common.{Some}
use Rattle.service_texts.proofs.TokenLaws.{put_from}
use Rattle.service_texts.proofs.tokens.Tokens.note.Goals as goal

pub returns-in-Some : goal.returns-in-Some
returns-in-Some c = record {
  noted = λ place.
      put_from c.args.self.now (record { jobs = c.get_mut.follows.lender (Some c.args.job) }) c.args.token.now (Some (Some c.args.job)) ((c.get_mut.follows.holds (Some c.args.job)).3 place).0;
}
