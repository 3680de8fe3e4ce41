-- The job was noted.
use Rattle.std.proofs.Common.{Some, sym, ◌∙◌}
use Rattle.service_texts.proofs.TokenLaws.{noted, put_from}
use Rattle.service_texts.proofs.tokens.Tokens.note_row.Goals as goal
use Rattle.service_texts.proofs.tokens.Tokens.note_row.Goals.{in-Ok, in-Err}

pub returns : goal.returns
returns c = elim c.match-insert.branch [
  | in-Ok w ↦ rw w.result-is
      (noted c.args.self.now (record { jobs = c.insert.new.self }) c.in-Some.token c.args.job.now (sym c.in_ok-token.ensures ∙ c.in-Some.is)
      (put_from c.args.self.now (record { jobs = c.insert.new.self }) c.in-Some.token (Some (Some c.args.job.now.id)) w.in-Ok.ensures.updates.0))
  | in-Err w ↦ rw w.result-is tt
]
