-- The row is changed at its position.
use Rattle.std.proofs.Common.{◌≡◌, ◌+◌, ◌≤◌, length, Some, refl, sym, ap, subst, ◌∙◌, arith}
use Rattle.std.specs.FinMap as finite
use Rattle.spool_types.specs.declared.event.Event.TheVariants.{Send}
use Rattle.spool_types.specs.declared.event.Reply.TheVariants.{Size}
use Rattle.spool_types.specs.Phases.{is_incoming}
use Rattle.spool_types.specs.State.{job_of, job_at}
use Rattle.spool_types.specs.Sent.{with_placed}
use Rattle.job_table.specs.Contents.{document_room, Contents, places_at}
use Rattle.job_table.specs.EventChanges.{with_bytes}
use Rattle.job_table.specs.Step.{after, refusal_of, size_found}
use Rattle.job_table.proofs.Rooms.{room_seen}
use Rattle.job_rows.specs.NumberedRows.{position_in}
use Rattle.job_table.proofs.Numbered.{has_number, row_place, row_there}
use Rattle.job_table.proofs.Accepted.{job_there, job_must, accepted_short}
use Rattle.job_table.specs.TableFields.{contents_of}
use Rattle.job_table.proofs.Legal.{legal_after, not_ended}
use Rattle.job_table.proofs.Steps.{change_state, change_ordered, change_room, document_fits, more_places}
use Rattle.job_table.proofs.store.Store.send.Goals as goal

pub row_mut-requires : goal.row_mut-requires
row_mut-requires c =
    let there = job_there c.args.self.now.state (Send c.args.job c.args.bytes) c.args.job _ refl c.requires.accepted in
    has_number c.self.inside.jobs c.self.invariant.own c.self.invariant.jobs c.args.job there.0
    (ap (λ v. finite.get v.state.jobs c.args.job) c.self.view_is ∙ there.1)

pub add_bytes-requires-clause-room : goal.add_bytes-requires-clause-room
add_bytes-requires-clause-room c =
    let fits = document_fits c.self.inside c.self.invariant c.args.job (position_in c.self.inside.jobs.numbers c.args.job) c.row_mut.result.now (row_place c.self.inside.jobs c.self.invariant.own c.self.invariant.jobs c.args.job c.row_mut.result.now c.row_mut.ensures.found) 1
    (subst (λ v. 1 ≤ document_room v.room c.args.job) (sym c.self.view_is) c.requires.room)
    c.row_mut.result.now (sym c.row_mut.ensures.found.is) in
    omega (arith, fits)

pub add_bytes-requires-clause-live : goal.add_bytes-requires-clause-live
add_bytes-requires-clause-live c =
    let there : job_at c.args.self.now.state c.args.job ≡ Some (job_of c.row_mut.result.now) =
    ap (λ v. finite.get v.state.jobs c.args.job) (sym c.self.view_is)
    ∙ row_there c.self.inside.jobs c.self.invariant.own c.self.invariant.jobs c.args.job c.row_mut.result.now c.row_mut.ensures.found in
    not_ended c.row_mut.result.now.job.phase
    (job_must c.args.self.now.state (Send c.args.job c.args.bytes) c.args.job (λ r. is_incoming r.phase) _ _ (job_of c.row_mut.result.now) refl there c.requires.accepted)

pub add_bytes-requires-clause-short : goal.add_bytes-requires-clause-short
add_bytes-requires-clause-short c =
    accepted_short c.args.self.now.state c.args.job c.args.bytes (job_of c.row_mut.result.now)
    (ap (λ v. finite.get v.state.jobs c.args.job) (sym c.self.view_is)
    ∙ row_there c.self.inside.jobs c.self.invariant.own c.self.invariant.jobs c.args.job c.row_mut.result.now c.row_mut.ensures.found)
    c.requires.accepted

pub invariant_of-self : goal.invariant_of-self
invariant_of-self c = change_ordered c.self.inside c.self.invariant c.args.job (position_in c.self.inside.jobs.numbers c.args.job) c.row_mut.result.now c.add_bytes.new.row (sym c.row_mut.ensures.found.is)
    (row_place c.self.inside.jobs c.self.invariant.own c.self.invariant.jobs c.args.job c.row_mut.result.now c.row_mut.ensures.found) (with_bytes c.args.bytes) (λ x. refl)
    c.add_bytes.ensures.row c.add_bytes.ensures.memory
    (legal_after (contents_of c.self.inside).state (Send c.args.job c.args.bytes) tt (ap (λ v. refusal_of v.state (Send c.args.job c.args.bytes)) c.self.view_is ∙ c.requires.accepted) c.self.invariant.legal)

pub returns-clause-state : goal.returns-clause-state
returns-clause-state c =
    change_state c.self.inside c.self.invariant c.args.job (position_in c.self.inside.jobs.numbers c.args.job) c.row_mut.result.now c.add_bytes.new.row (sym c.row_mut.ensures.found.is)
    (row_place c.self.inside.jobs c.self.invariant.own c.self.invariant.jobs c.args.job c.row_mut.result.now c.row_mut.ensures.found) (with_bytes c.args.bytes) (λ x. refl)
    c.add_bytes.ensures.row c.add_bytes.ensures.memory
    ∙ ap (λ v. after v.state (Send c.args.job c.args.bytes)) c.self.view_is

pub returns-clause-room : goal.returns-clause-room
returns-clause-room c = room_seen c.self.view_is
    (change_room c.self.inside c.self.invariant c.args.job (position_in c.self.inside.jobs.numbers c.args.job) c.row_mut.result.now c.add_bytes.new.row (sym c.row_mut.ensures.found.is)
    (row_place c.self.inside.jobs c.self.invariant.own c.self.invariant.jobs c.args.job c.row_mut.result.now c.row_mut.ensures.found) (with_bytes c.args.bytes) (λ x. refl)
    c.add_bytes.ensures.row c.add_bytes.ensures.memory)

pub returns-clause-reply : goal.returns-clause-reply
returns-clause-reply c =
    ap Size (c.add_bytes.ensures.size ∙ ap (λ o. size_found o + length c.args.bytes) (sym (
    ap (λ v. finite.get v.state.jobs c.args.job) (sym c.self.view_is)
    ∙ row_there c.self.inside.jobs c.self.invariant.own c.self.invariant.jobs c.args.job c.row_mut.result.now c.row_mut.ensures.found)))

pub returns-clause-places : goal.returns-clause-places
returns-clause-places c = λ j lives.
    more_places c.self.inside c.self.invariant c.args.job (position_in c.self.inside.jobs.numbers c.args.job) c.row_mut.result.now c.add_bytes.new.row (sym c.row_mut.ensures.found.is)
    (row_place c.self.inside.jobs c.self.invariant.own c.self.invariant.jobs c.args.job c.row_mut.result.now c.row_mut.ensures.found) (with_bytes c.args.bytes) (λ x. refl)
    c.add_bytes.ensures.row c.add_bytes.ensures.memory c.args.at c.args.bytes c.add_bytes.ensures.document j lives
    ∙ ap (λ (v : Contents). with_placed (places_at v j) c.args.at j (Some (c.args.job, c.args.bytes))) c.self.view_is
