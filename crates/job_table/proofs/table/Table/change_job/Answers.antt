-- The job gets its new lane state and its new deadline. No other lane state changes.
use Rattle.std.proofs.Common.{◌≡◌, ◌<◌, None, length, sym, ap, subst, ◌∙◌, arith}
use Rattle.std.specs.Prelude.{is_some}
use Rattle.std.proofs.lemmas.Bool.{both_ways}
use Rattle.spool_types.specs.Sent.{sent_by, with_placed}
use Rattle.spool_types.specs.State.{job_at}
use Rattle.job_table.specs.Agendas.{dates_found}
use Rattle.job_table.specs.Contents.{Contents, places_at}
use Rattle.job_table.specs.Lanes.{lane_state_of, is_live}
use Rattle.job_table.specs.Step.{refusal_of}
use Rattle.job_table.specs.Timely.{deadline_found, IsRetimed, MayRetime}
use Rattle.job_table.specs.declared.agenda.Dates.{Dates}
use Rattle.job_table.proofs.Gathered.{one_if}
use Rattle.job_table.proofs.Held.{stepped}
use Rattle.job_table.proofs.Retimed.{moved_may, moved_retimed}
use Rattle.job_table.proofs.Seats.{Goes, goes, gone, gone_there, goes_from, goes_alone, goes_lanes, goes_number, place_within, IsReseatedLane}
use Rattle.job_table.proofs.table.Table.change_job.Goals as goal
use Rattle.job_table.proofs.table.Table.change_job.Goals.{After-commit-reply}

-- The effect of the event on the rows.
rows : (c : After-commit-reply) → Goes c.self.inside.store.state c.commit-reply.new.self.state c.args.job
rows c =
    let s = c.self.inside.store.state in
    let accepted : refusal_of s c.args.event ≡ None = ap (λ v. refusal_of v.state c.args.event) c.self.view_is ∙ c.requires.prepared.accepted in
    goes c.queues_stay_in_order.ensures.stays s c.commit-reply.new.self.state c.self.invariant.legal c.args.job c.args.event c.requires.about accepted
    (stepped s c.args.event c.commit-reply.new.self.state c.commit-reply.result accepted c.commit-reply.ensures.step).0

pub deadline-after-requires : goal.deadline-after-requires
deadline-after-requires c =
    let g = rows (goal.at.deadline-after-requires c).After-commit-reply in
    ap is_some (gone_there _ _ _ g)

pub seat-to-requires : goal.seat-to-requires
seat-to-requires c =
    let g = rows (goal.at.seat-to-requires c).After-commit-reply in
    ap is_some (gone_there _ _ _ g)

pub reseat-requires-clause-there : goal.reseat-requires-clause-there
reseat-requires-clause-there c =
    let g = rows (goal.at.reseat-requires-clause-there c).After-commit-reply in
    goes_from _ _ _ g c.self.inside.vacant c.self.inside.lanes.items c.self.invariant.lanes c.seat-place.result.0 (c.seat-place.ensures.place g.row g.there)
    c.index_mut.result.now c.index_mut.ensures.value c.seat-place.result.1 (c.seat-place.ensures.lane_state g.row g.there)

pub reseat-requires-clause-own : goal.reseat-requires-clause-own
reseat-requires-clause-own c = λ e waits.
    let g = rows (goal.at.reseat-requires-clause-own c).After-commit-reply in
    goes_number _ _ _ g e (sym (c.seat-to.ensures.lane_state (gone _ _ _ g) (gone_there _ _ _ g)) ∙ waits)

-- The job had not ended before.
pub reseat-requires-clause-room : goal.reseat-requires-clause-room
reseat-requires-clause-room c = λ live dead.
    let g = rows (goal.at.reseat-requires-clause-room c).After-commit-reply in
    absurd (g.alive (ap is_live (sym (c.seat-place.ensures.lane_state g.row g.there)) ∙ dead))

pub reseat-requires-clause-alone : goal.reseat-requires-clause-alone
reseat-requires-clause-alone c = λ busy.
    let g = rows (goal.at.reseat-requires-clause-alone c).After-commit-reply in
    goes_alone _ _ _ g c.self.inside.vacant c.self.inside.lanes.items c.self.invariant.lanes c.seat-place.result.0 (c.seat-place.ensures.place g.row g.there)
    c.index_mut.result.now c.index_mut.ensures.value (sym (c.seat-to.ensures.lane_state (gone _ _ _ g) (gone_there _ _ _ g)) ∙ busy)

-- The deadline is removed, added or unchanged.
pub change-requires : goal.change-requires
change-requires c =
    let g = rows (goal.at.change-requires c).After-commit-reply in
    let s = c.self.inside.store.state in
    let t = c.commit-reply.new.self.state in
    subst (λ from. MayRetime c.self.inside.timetable c.args.job from c.deadline-after.result) (sym c.deadline-before.ensures)
    (subst (MayRetime c.self.inside.timetable c.args.job (deadline_found (job_at s c.args.job))) (sym c.deadline-after.ensures)
    (moved_may s t g.legal c.args.job g.moves g.row g.there c.self.invariant.legal c.self.inside.timetable c.self.invariant.timely))

pub dates-dates_after-requires : goal.dates-dates_after-requires
dates-dates_after-requires c =
    let g = rows (goal.at.dates-dates_after-requires c).After-commit-reply in
    ap is_some (gone_there _ _ _ g)

pub index_mut-requires : goal.index_mut-requires
index_mut-requires c =
    let g = rows (goal.at.index_mut-requires c).After-commit-reply in
    let lt : c.seat-place.result.0 < length c.self.inside.lanes.items =
    place_within c.self.inside.store.state c.commit-reply.new.self.state c.self.inside.vacant c.self.inside.lanes.items c.self.invariant.lanes (g.row).queue c.seat-place.result.0 (c.seat-place.ensures.place g.row g.there) in
    omega (arith, lt, c.self.inside.lanes.ok.0)

-- The job exists before and after the event.
pub redate-requires : goal.redate-requires
redate-requires c =
    let g = rows (goal.at.redate-requires c).After-commit-reply in
    let s = c.self.inside.store.state in
    record {
      jobs = job_at s;
      agenda = c.self.invariant.agenda;
      own = sym c.dates-dates_before.ensures;
      next = job_at c.commit-reply.new.self.state c.args.job;
      later = sym c.dates-dates_after.ensures;
      number = λ r at. (g.legal.jobs c.args.job r at).id;
      room = λ absent. absurd (both_ways c.dates-dates_before.result.exists absent (ap (λ (d : Dates). d.exists) (c.dates-dates_before.ensures ∙ ap dates_found g.there)));
    }

pub invariant_of-self : goal.invariant_of-self
invariant_of-self c =
    let g = rows (goal.at.invariant_of-self c).After-commit-reply in
    let s = c.self.inside.store.state in
    let new = c.reseat.new.self in
    let from = c.seat-place.ensures.lane_state g.row g.there in
    let to = c.seat-to.ensures.lane_state (gone _ _ _ g) (gone_there _ _ _ g) in
    let changed : IsReseatedLane c.args.job c.seat-place.result.1 c.seat-to.result.1 c.index_mut.result.now new = record {
      lane = c.reseat.ensures.lane;
      live = c.reseat.ensures.live;
      moment = c.reseat.ensures.moment;
      reserved = c.reseat.ensures.reserved;
    } in
    let t = c.commit-reply.new.self.state in
    let retimed : IsRetimed (job_at s) (job_at t) c.args.job c.deadline-after.result =
    subst (IsRetimed (job_at s) (job_at t) c.args.job) (sym c.deadline-after.ensures) (moved_retimed s t g.legal c.args.job g.moves g.row g.there) in
    record {
      legal = g.legal;
      timely = c.change.ensures.timely (job_at s) (job_at t) c.self.invariant.timely (sym c.deadline-before.ensures) retimed;
      spare = omega (arith, c.self.invariant.spare, c.change.ensures.timed, c.change.ensures.room);
      agenda = c.redate.ensures.agenda (job_at s) (job_at t) c.self.invariant.agenda (sym c.dates-dates_before.ensures) (record { own = sym c.dates-dates_after.ensures; others = g.moves.others });
      vacancies = omega (
        arith,
        c.self.invariant.vacancies,
        c.redate.ensures.jobs,
        c.redate.ensures.room,
        ap (λ (d : Dates). one_if d.exists) (c.dates-dates_before.ensures ∙ ap dates_found g.there),
        ap (λ (d : Dates). one_if d.exists) (c.dates-dates_after.ensures ∙ ap dates_found (gone_there _ _ _ g)),
      );
      lanes =
          goes_lanes _ _ _ g c.self.inside.vacant c.self.inside.lanes.items c.self.invariant.lanes c.seat-place.result.0 (c.seat-place.ensures.place g.row g.there)
          c.index_mut.result.now c.index_mut.ensures.value new
          (subst (λ x. IsReseatedLane c.args.job x (lane_state_of (gone _ _ _ g)) c.index_mut.result.now new) from
          (subst (λ x. IsReseatedLane c.args.job c.seat-place.result.1 x c.index_mut.result.now new) to changed));
    }

pub returns-clause-places : goal.returns-clause-places
returns-clause-places c = λ j lives. c.commit-reply.ensures.places j lives ∙ ap (λ (v : Contents). with_placed (places_at v j) c.args.at j (sent_by c.args.event)) c.self.view_is
