-- The row is changed at its position.
use Rattle.std.proofs.Common.{◌≡◌, Some, refl, sym, ap, ◌∙◌}
use Rattle.std.specs.FinMap as finite
use Rattle.spool_types.specs.declared.event.Event.TheVariants.{Start}
use Rattle.spool_types.specs.declared.event.Reply.TheVariants.{Phase}
use Rattle.job_table.specs.Contents.{Contents, places_at}
use Rattle.job_table.specs.Attempts.{started}
use Rattle.spool_types.specs.State.{Job, job_of, job_at}
use Rattle.spool_types.specs.Phases.{is_waiting}
use Rattle.job_table.specs.Step.{after, refusal_of, phase_found}
use Rattle.job_table.specs.TableFields.{contents_of}
use Rattle.job_table.proofs.Accepted.{job_there, job_must}
use Rattle.job_table.proofs.Legal.{legal_after}
use Rattle.job_table.proofs.Rules.{few_attempts, waiting_alive}
use Rattle.job_table.proofs.Steps.{change_state, change_ordered, change_room, change_places}
use Rattle.job_table.proofs.Changes.{changed_there}
use Rattle.job_table.proofs.Rooms.{room_seen}
use Rattle.job_rows.specs.NumberedRows.{position_in}
use Rattle.job_table.proofs.Numbered.{has_number, row_place, row_there}
use Rattle.job_table.proofs.store.Store.start.Goals as goal

pub row_mut-requires : goal.row_mut-requires
row_mut-requires c =
    let there = job_there c.args.self.now.state (Start c.args.job) c.args.job _ refl c.requires in
    has_number c.self.inside.jobs c.self.invariant.own c.self.invariant.jobs c.args.job there.0
    (ap (λ v. finite.get v.state.jobs c.args.job) c.self.view_is ∙ there.1)

pub start_row-requires-clause-more : goal.start_row-requires-clause-more
start_row-requires-clause-more c =
    let there : job_at (contents_of c.self.inside).state c.args.job ≡ Some (job_of c.row_mut.result.now) =
    row_there c.self.inside.jobs c.self.invariant.own c.self.invariant.jobs c.args.job c.row_mut.result.now c.row_mut.ensures.found in
    few_attempts (contents_of c.self.inside).state.queues c.args.job (job_of c.row_mut.result.now)
    (job_must (contents_of c.self.inside).state (Start c.args.job) c.args.job (λ r. is_waiting r.phase) _ _ (job_of c.row_mut.result.now) refl there (ap (λ v. refusal_of v.state (Start c.args.job)) c.self.view_is ∙ c.requires))
    (c.self.invariant.legal.jobs c.args.job (job_of c.row_mut.result.now) there)

pub start_row-requires-clause-live : goal.start_row-requires-clause-live
start_row-requires-clause-live c =
    let there : job_at (contents_of c.self.inside).state c.args.job ≡ Some (job_of c.row_mut.result.now) =
    row_there c.self.inside.jobs c.self.invariant.own c.self.invariant.jobs c.args.job c.row_mut.result.now c.row_mut.ensures.found in
    waiting_alive c.row_mut.result.now.job.phase
    (job_must (contents_of c.self.inside).state (Start c.args.job) c.args.job (λ r. is_waiting r.phase) _ _ (job_of c.row_mut.result.now) refl there (ap (λ v. refusal_of v.state (Start c.args.job)) c.self.view_is ∙ c.requires))

pub invariant_of-self : goal.invariant_of-self
invariant_of-self c = change_ordered c.self.inside c.self.invariant c.args.job (position_in c.self.inside.jobs.numbers c.args.job) c.row_mut.result.now c.start_row.new.row (sym c.row_mut.ensures.found.is)
    (row_place c.self.inside.jobs c.self.invariant.own c.self.invariant.jobs c.args.job c.row_mut.result.now c.row_mut.ensures.found) started (λ x. refl)
    c.start_row.ensures.row c.start_row.ensures.memory
    (legal_after (contents_of c.self.inside).state (Start c.args.job) tt (ap (λ v. refusal_of v.state (Start c.args.job)) c.self.view_is ∙ c.requires) c.self.invariant.legal)

pub returns-clause-state : goal.returns-clause-state
returns-clause-state c =
    change_state c.self.inside c.self.invariant c.args.job (position_in c.self.inside.jobs.numbers c.args.job) c.row_mut.result.now c.start_row.new.row (sym c.row_mut.ensures.found.is)
    (row_place c.self.inside.jobs c.self.invariant.own c.self.invariant.jobs c.args.job c.row_mut.result.now c.row_mut.ensures.found) started (λ x. refl)
    c.start_row.ensures.row c.start_row.ensures.memory
    ∙ ap (λ v. after v.state (Start c.args.job)) c.self.view_is

pub returns-clause-room : goal.returns-clause-room
returns-clause-room c = room_seen c.self.view_is
    (change_room c.self.inside c.self.invariant c.args.job (position_in c.self.inside.jobs.numbers c.args.job) c.row_mut.result.now c.start_row.new.row (sym c.row_mut.ensures.found.is)
    (row_place c.self.inside.jobs c.self.invariant.own c.self.invariant.jobs c.args.job c.row_mut.result.now c.row_mut.ensures.found) started (λ x. refl)
    c.start_row.ensures.row c.start_row.ensures.memory)

pub returns-clause-reply : goal.returns-clause-reply
returns-clause-reply c =
    let there : job_at c.args.self.now.state c.args.job ≡ Some (job_of c.row_mut.result.now) =
    ap (λ v. finite.get v.state.jobs c.args.job) (sym c.self.view_is)
    ∙ row_there c.self.inside.jobs c.self.invariant.own c.self.invariant.jobs c.args.job c.row_mut.result.now c.row_mut.ensures.found in
    ap Phase (
    c.start_row.ensures.phase
    ∙ ap (λ (x : Job). x.phase) c.start_row.ensures.row
    ∙ sym (ap phase_found (changed_there c.args.self.now.state c.args.job started (job_of c.row_mut.result.now) there)))

pub returns-clause-places : goal.returns-clause-places
returns-clause-places c = λ j lives.
    change_places c.self.inside c.self.invariant c.args.job (position_in c.self.inside.jobs.numbers c.args.job) c.row_mut.result.now c.start_row.new.row (sym c.row_mut.ensures.found.is)
    (row_place c.self.inside.jobs c.self.invariant.own c.self.invariant.jobs c.args.job c.row_mut.result.now c.row_mut.ensures.found) started (λ x. refl)
    c.start_row.ensures.row c.start_row.ensures.memory
    (λ lives. ap (λ d. d.items) c.start_row.ensures.document) j lives
    ∙ ap (λ (v : Contents). places_at v j) c.self.view_is
