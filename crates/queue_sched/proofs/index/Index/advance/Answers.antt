-- Before the due moment nothing changes.
use Rattle.std.proofs.Common.{◌≤◌, sym, subst, ◌∙◌}
use Rattle.queue_sched.specs.Lists.{IsBefore}
use Rattle.queue_sched.proofs.Due.{same_later, until_later}
use Rattle.queue_sched.proofs.index.Index.advance.Goals as goal

pub invariant_of-self-else-not-is_before : goal.invariant_of-self-else-not-is_before
invariant_of-self-else-not-is_before c =
    let a = c.self.inside in
    let le = subst (λ w. w.moment ≤ c.args.moment) (sym c.self.view_is) c.requires in
    let before : IsBefore c.args.moment a.due = c.is_before.ensures.0 c.if-not-is_before.false in
    record {
      order = c.self.invariant.order;
      ready = c.self.invariant.ready ∙ same_later a.entries.items a.moment c.args.moment a.due c.self.invariant.due le before;
      fits = c.self.invariant.fits;
      room_of_entries = c.self.invariant.room_of_entries;
      room_of_ready = c.self.invariant.room_of_ready;
      due = until_later a.entries.items a.moment c.args.moment a.due c.self.invariant.due le before;
    }
