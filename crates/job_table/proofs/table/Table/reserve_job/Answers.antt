-- Each lane has its jobs as before, and room for one more if no allocation failed.
use Rattle.std.proofs.Common.{◌≡◌, ℕ, ◌+◌, ◌<◌, ◌≤◌, List, [], length, get_or, sym, ap, subst, ◌∙◌, arith}
use Rattle.std.specs.Vec.{with_items}
use Rattle.std.proofs.lemmas.List.{with_items_is}
use Rattle.spool_types.specs.State.{State, job_at}
use Rattle.job_table.specs.TableInvariant.{IsInLanes}
use Rattle.job_table.specs.Lanes.{AreLanes, IsSameLane}
use Rattle.job_table.specs.declared.lane.Lane.{Lane}
use Rattle.job_table.specs.declared.table.Table.TheInside.{Inside}
use Rattle.job_table.proofs.Held.{held_same}
use Rattle.job_table.proofs.Seats.{lanes_kept}
use Rattle.job_table.proofs.table.Table.reserve_job.Goals as goal

same_before : (old was new : List Lane) → was ≡ old → ((i : ℕ) (d : Lane) → i < length new → IsSameLane (get_or was i d) (get_or new i d)) → (i : ℕ) (d : Lane) → i < length new → IsSameLane (get_or old i d) (get_or new i d)
same_before old was new same each i d lt = subst (λ ls. IsSameLane (get_or ls i d) (get_or new i d)) same (each i d lt)

-- The spare room of the lanes is not smaller than before.
still_spare : (s : State) (v : ℕ) (old new : List Lane) → AreLanes s v old → length new ≡ length old → ((i : ℕ) (d : Lane) → i < length new → IsSameLane (get_or old i d) (get_or new i d))
    → (i : ℕ) (d : Lane) → i < length new → (get_or new i d).live + v ≤ (get_or new i d).reserved
still_spare s v old new are count each i d lt =
    let was = are.each i [] d (subst (λ n. i < n) count lt) in
    let now = each i d lt in
    omega (arith, was.spare, now.live, now.reserved)

-- The lanes after some of them have more room.
module _ (a : Inside) (is : IsInLanes a) (seen new : List Lane) (value : seen ≡ a.lanes.items) (same : length new ≡ length seen) (each : (i : ℕ) (d : Lane) → i < length new → IsSameLane (get_or seen i d) (get_or new i d)) where
  count : length new ≡ length a.lanes.items
  count = same ∙ ap length value

  each_too : (i : ℕ) (d : Lane) → i < length new → IsSameLane (get_or a.lanes.items i d) (get_or new i d)
  each_too = same_before a.lanes.items seen new value each

  roomier : (w : ℕ) → ((i : ℕ) (d : Lane) → i < length new → (get_or new i d).live + w ≤ (get_or new i d).reserved) → AreLanes a.store.state w (with_items a.lanes new).items
  roomier w spare = subst (AreLanes a.store.state w) (sym (with_items_is a.lanes new (count ∙ sym a.lanes.ok.0))) (lanes_kept a.store.state a.vacant a.lanes.items new is.lanes count w each_too spare)

  as_roomy : AreLanes a.store.state a.vacant (with_items a.lanes new).items
  as_roomy = roomier a.vacant (still_spare a.store.state a.vacant a.lanes.items new is.lanes count each_too)

pub invariant_of-self-in_err-reserve_each : goal.invariant_of-self-in_err-reserve_each
invariant_of-self-in_err-reserve_each c =
    let held = held_same c.self.inside c.reserve_job.new.self c.reserve_job.ensures.same c.self.invariant in
    record {
      legal = held.legal;
      lanes = as_roomy (record c.self.inside { store = c.reserve_job.new.self }) held c.deref_mut.result.now c.reserve_each.new.lanes c.deref_mut.ensures.value c.reserve_each.ensures.count c.reserve_each.ensures.each;
      timely = held.timely;
      spare = held.spare;
      agenda = held.agenda;
      vacancies = held.vacancies;
    }

pub invariant_of-self-in_err-reserve : goal.invariant_of-self-in_err-reserve
invariant_of-self-in_err-reserve c =
    let held = held_same c.self.inside c.reserve_job.new.self c.reserve_job.ensures.same c.self.invariant in
    let timely = c.reserve.ensures.timely (job_at c.reserve_job.new.self.state) held.timely in
    record {
      legal = held.legal;
      lanes = as_roomy (record c.self.inside { store = c.reserve_job.new.self }) held c.deref_mut.result.now c.reserve_each.new.lanes c.deref_mut.ensures.value c.reserve_each.ensures.count c.reserve_each.ensures.each;
      timely = timely;
      spare = omega (arith, timely.room, c.if-self-eq0.true);
      agenda = held.agenda;
      vacancies = held.vacancies;
    }

pub invariant_of-self-in_err-make_room : goal.invariant_of-self-in_err-make_room
invariant_of-self-in_err-make_room c =
    let held = held_same c.self.inside c.reserve_job.new.self c.reserve_job.ensures.same c.self.invariant in
    let timely = c.reserve.ensures.timely (job_at c.reserve_job.new.self.state) held.timely in
    let agenda = c.make_room.ensures.agenda (job_at c.reserve_job.new.self.state) held.agenda in
    record {
      legal = held.legal;
      lanes = as_roomy (record c.self.inside { store = c.reserve_job.new.self }) held c.deref_mut.result.now c.reserve_each.new.lanes c.deref_mut.ensures.value c.reserve_each.ensures.count c.reserve_each.ensures.each;
      timely = timely;
      spare = omega (arith, timely.room, c.if-self-eq0.true);
      agenda = agenda;
      vacancies = omega (arith, agenda.fits, c.if-self-eq0.true);
    }

pub invariant_of-self-then-self-eq0 : goal.invariant_of-self-then-self-eq0
invariant_of-self-then-self-eq0 c =
    let held = held_same c.self.inside c.reserve_job.new.self c.reserve_job.ensures.same c.self.invariant in
    record {
      legal = held.legal;
      lanes = roomier (record c.self.inside { store = c.reserve_job.new.self }) held c.deref_mut.result.now c.reserve_each.new.lanes c.deref_mut.ensures.value c.reserve_each.ensures.count c.reserve_each.ensures.each 1 c.in_ok-reserve_each.ensures.room;
      timely = c.reserve.ensures.timely (job_at c.reserve_job.new.self.state) held.timely;
      spare = omega (arith, c.in_ok-reserve.ensures.room, c.reserve.ensures.timed);
      agenda = c.make_room.ensures.agenda (job_at c.reserve_job.new.self.state) held.agenda;
      vacancies = omega (arith, c.in_ok-make_room.ensures.room, c.make_room.ensures.jobs);
    }
