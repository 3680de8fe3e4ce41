-- The first of the startable entries.
use Rattle.std.proofs.Common.{◌≡◌, ◌<◌, length, get_or, refl, subst, ap, arith}
use Rattle.std.specs.List.{filter}
use Rattle.queue_sched.specs.WaitingIndex.{is_startable, IsFirstStartable, NoneIsStartable}
use Rattle.queue_sched.specs.Lists.{waits_of}
use Rattle.queue_sched.proofs.Indexed.{first_of, head_is, no_head, none_of}
use Rattle.queue_sched.proofs.index.Index.next.Goals as goal

pub returns-clause-chosen : goal.returns-clause-chosen
returns-clause-chosen c =
    let a = c.self.inside in
    let e = c.in_ok-entry.entry.now in
    let found = head_is a.ready.items e c.in_ok-entry.ensures in (
      e,
      refl,
      subst (λ w. IsFirstStartable w e) c.self.view_is
          (first_of (waits_of a) e c.self.invariant.order (subst (λ l. 0 < length l) c.self.invariant.ready found.0) (subst (λ l. get_or l 0 e ≡ e) c.self.invariant.ready found.1)),
    )

pub returns-in_err-entry-clause-none : goal.returns-in_err-entry-clause-none
returns-in_err-entry-clause-none c = λ _.
    let a = c.self.inside in
    let empty : length (filter (is_startable a.moment) a.entries.items) ≡ 0 = omega (arith, no_head a.ready.items c.in_err-entry.ensures, ap length c.self.invariant.ready) in
    subst NoneIsStartable c.self.view_is (none_of (waits_of a) empty)
