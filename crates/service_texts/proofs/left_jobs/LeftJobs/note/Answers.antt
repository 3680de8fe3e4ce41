-- The job is not incoming, was left before, or is added.
use Rattle.std.proofs.Common.{rules, ap, sym, ◌∙◌}
use Rattle.service_texts.specs.LeftJobs.{still_incoming}
use Rattle.service_texts.proofs.LeftLaws.{left_before, left_now, not_incoming}
use Rattle.service_texts.proofs.left_jobs.LeftJobs.note.Goals as goal
use Rattle.service_texts.proofs.left_jobs.LeftJobs.note.Goals.{then-not-is_incoming_at-via-then-not-is_incoming_at, then-not-is_incoming_at-via-else-not-is_incoming_at+then-has}

pub returns-then-not-is_incoming_at-clause-ok : goal.returns-then-not-is_incoming_at-clause-ok
returns-then-not-is_incoming_at-clause-ok c = elim c.then-not-is_incoming_at.branch [
  | then-not-is_incoming_at-via-then-not-is_incoming_at w ↦ not_incoming c.args.table.now.state c.args.self.now c.args.job c.args.since (search rules)
  | then-not-is_incoming_at-via-else-not-is_incoming_at+then-has w ↦ left_before c.args.table.now.state c.args.self.now c.args.job c.args.since (search rules) (sym w.has.ensures ∙ w.if-has.true)
]

pub returns-clause-ok : goal.returns-clause-ok
returns-clause-ok c =
    ap (still_incoming c.args.table.now.state) (search rules)
    ∙ left_now c.args.table.now.state c.args.self.now c.args.job c.args.since c.make_room.new.self c.make_room.ensures (search rules) (sym c.has.ensures ∙ c.if-has.false)
