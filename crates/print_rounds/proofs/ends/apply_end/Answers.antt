use Rattle.std.proofs.Common.{subst}
use Rattle.spool_types.specs.declared.event.Event.{Event}
use Rattle.print_rounds.specs.RunStates.{IsApplied}
use Rattle.print_rounds.proofs.ends.apply_end.Goals as goal

pub returns : goal.returns
returns g c = subst (λ (e : Event). IsApplied g.D.Disk.device c.args.spool.now e c.apply.result c.apply.new.self) c.stage.ensures (record {
  cause = c.apply.ensures.answer;
  counted = c.apply.ensures.later;
  told = c.apply.ensures.told;
  crash = c.apply.ensures.any_moment;
  whole = c.apply.ensures.documents;
  sent = c.apply.ensures.sent;
  settled = c.apply.ensures.settled;
})
