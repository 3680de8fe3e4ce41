-- A place without a job was made, or the map is as it was.
use Rattle.std.proofs.Common.{None, Some, refl, sym, ◌∙◌}
use Rattle.std.specs.BTreeMap.{get}
use Rattle.std.specs.Cmp.Lexicographic.{slice_cmp}
use Rattle.std.specs.Ordering.{nat_cmp}
use Rattle.service_texts.proofs.TokenLaws.{no_place, put_from, put_same}
use Rattle.service_texts.proofs.tokens.Tokens.prepare.Goals as goal
use Rattle.service_texts.proofs.tokens.Tokens.prepare.Goals.{in-Ok, in-Err}

pub returns-clause-same : goal.returns-clause-same
returns-clause-same c = elim c.match-insert.branch [
  | in-Ok w ↦
      put_same c.args.self.now (record { jobs = c.insert.new.self }) c.args.token (no_place (get (slice_cmp nat_cmp) c.args.self.now.jobs c.args.token) (sym c.contains_key.ensures ∙ c.if-contains_key.false))
      (put_from c.args.self.now (record { jobs = c.insert.new.self }) c.args.token (Some None) w.in-Ok.ensures.updates.0)
  | in-Err w ↦ λ token. (rw w.in-Err.ensures.err refl)
]
