-- The job and its queue are changed at their positions.
use Rattle.std.proofs.Common.{◌≡◌, Some, IsSome, sym, ap, subst, ◌∙◌}
use Rattle.std.specs.FinMap as finite
use Rattle.job_rows.specs.NumberedRows.{position_in}
use Rattle.job_table.specs.Contents.{Contents, places_at}
use Rattle.job_table.specs.Attempts.{is_processing_at, rule_at}
use Rattle.job_table.specs.Legal.{IsLegal}
use Rattle.spool_types.specs.State.{job_of, job_at}
use Rattle.job_table.specs.Step.{phase_found}
use Rattle.job_table.specs.TableFields.{contents_of}
use Rattle.job_table.proofs.Rooms.{room_seen}
use Rattle.job_table.proofs.Steps.{next_needed, rule_state, rule_ordered, rule_room, rule_places, ruled_there}
use Rattle.job_table.proofs.Numbered.{needs_number, row_place, row_there}
use Rattle.job_table.proofs.Tables.{get_no_queue, needed_and_not}
use Rattle.job_table.proofs.store.Store.rule.Goals as goal

pub row_mut-row-requires : goal.row_mut-row-requires
row_mut-row-requires c = needs_number c.self.inside.jobs c.self.invariant.own c.self.invariant.jobs c.args.job
    (subst (λ v. IsSome (finite.get v.state.jobs c.args.job)) (sym c.self.view_is) c.requires.there)

pub unreachable-requires : goal.unreachable-requires
unreachable-requires c =
    let there : job_at (contents_of c.self.inside).state c.args.job ≡ Some (job_of c.row_mut-row.result.now) =
    row_there c.self.inside.jobs c.self.invariant.own c.self.invariant.jobs c.args.job c.row_mut-row.result.now c.row_mut-row.ensures.found in
    let none = get_no_queue c.self.inside.queues.items c.self.invariant.queues c.row_mut-row.result.now.job.queue c.in_default.field-0 (rw c.deref.ensures.value at c.in_default.ensures.absent) in
    needed_and_not _ _ (c.self.invariant.legal.jobs c.args.job (job_of c.row_mut-row.result.now) there).queue none (λ i. finite.get (contents_of c.self.inside).state.queues c.row_mut-row.result.now.job.queue)

pub rule_row-requires-clause-next : goal.rule_row-requires-clause-next
rule_row-requires-clause-next c = next_needed c.self.inside c.self.invariant c.args.job (position_in c.self.inside.jobs.numbers c.args.job) c.row_mut-row.result.now (sym c.row_mut-row.ensures.found.is)
    (row_place c.self.inside.jobs c.self.invariant.own c.self.invariant.jobs c.args.job c.row_mut-row.result.now c.row_mut-row.ensures.found) c.in-Ok.queue_at c.index.result.now c.index_mut.result.now c.index.ensures c.index_mut.ensures.value
    (rw c.deref.ensures.value at c.in-Ok.ensures.found) c.args.verdict
    (subst (λ v. IsLegal v.state → IsLegal (rule_at v.state c.args.job (λ r q. c.args.verdict))) (sym c.self.view_is) c.requires.legal c.self.invariant.legal)

pub rule_row-requires-clause-live : goal.rule_row-requires-clause-live
rule_row-requires-clause-live c =
    let there : job_at (contents_of c.self.inside).state c.args.job ≡ Some (job_of c.row_mut-row.result.now) =
    row_there c.self.inside.jobs c.self.invariant.own c.self.invariant.jobs c.args.job c.row_mut-row.result.now c.row_mut-row.ensures.found in
    ap is_processing_at (sym there) ∙ ap (λ v. is_processing_at (job_at v.state c.args.job)) c.self.view_is ∙ c.requires.busy

pub invariant_of-self : goal.invariant_of-self
invariant_of-self c = rule_ordered c.self.inside c.self.invariant c.args.job (position_in c.self.inside.jobs.numbers c.args.job) c.row_mut-row.result.now (sym c.row_mut-row.ensures.found.is)
    (row_place c.self.inside.jobs c.self.invariant.own c.self.invariant.jobs c.args.job c.row_mut-row.result.now c.row_mut-row.ensures.found) c.in-Ok.queue_at c.index.result.now c.index_mut.result.now c.index.ensures c.index_mut.ensures.value
    (rw c.deref.ensures.value at c.in-Ok.ensures.found) c.args.verdict
    c.rule_row.new.row c.rule_queue_row.new.row c.rule_row.ensures.row c.rule_row.ensures.memory c.rule_queue_row.ensures
    (subst (λ v. IsLegal v.state → IsLegal (rule_at v.state c.args.job (λ r q. c.args.verdict))) (sym c.self.view_is) c.requires.legal c.self.invariant.legal)

pub returns-clause-state : goal.returns-clause-state
returns-clause-state c =
    rule_state c.self.inside c.self.invariant c.args.job (position_in c.self.inside.jobs.numbers c.args.job) c.row_mut-row.result.now (sym c.row_mut-row.ensures.found.is)
    (row_place c.self.inside.jobs c.self.invariant.own c.self.invariant.jobs c.args.job c.row_mut-row.result.now c.row_mut-row.ensures.found) c.in-Ok.queue_at c.index.result.now c.index_mut.result.now c.index.ensures c.index_mut.ensures.value
    (rw c.deref.ensures.value at c.in-Ok.ensures.found) c.args.verdict
    c.rule_row.new.row c.rule_queue_row.new.row c.rule_row.ensures.row c.rule_row.ensures.memory c.rule_queue_row.ensures
    ∙ ap (λ v. rule_at v.state c.args.job (λ r q. c.args.verdict)) c.self.view_is

pub returns-clause-phase : goal.returns-clause-phase
returns-clause-phase c =
    let there = ruled_there c.self.inside c.self.invariant c.args.job (position_in c.self.inside.jobs.numbers c.args.job) c.row_mut-row.result.now (sym c.row_mut-row.ensures.found.is)
    (row_place c.self.inside.jobs c.self.invariant.own c.self.invariant.jobs c.args.job c.row_mut-row.result.now c.row_mut-row.ensures.found) c.in-Ok.queue_at c.index.result.now c.index_mut.result.now c.index.ensures c.index_mut.ensures.value
    (rw c.deref.ensures.value at c.in-Ok.ensures.found) c.args.verdict
    c.rule_row.new.row c.rule_queue_row.new.row c.rule_row.ensures.row c.rule_row.ensures.memory c.rule_queue_row.ensures in
    c.rule_row.ensures.phase ∙ sym (ap phase_found there)

pub returns-clause-room : goal.returns-clause-room
returns-clause-room c = room_seen c.self.view_is
    (rule_room c.self.inside c.self.invariant c.args.job (position_in c.self.inside.jobs.numbers c.args.job) c.row_mut-row.result.now (sym c.row_mut-row.ensures.found.is)
    (row_place c.self.inside.jobs c.self.invariant.own c.self.invariant.jobs c.args.job c.row_mut-row.result.now c.row_mut-row.ensures.found) c.in-Ok.queue_at c.index.result.now c.index_mut.result.now c.index.ensures c.index_mut.ensures.value
    (rw c.deref.ensures.value at c.in-Ok.ensures.found) c.args.verdict
    c.rule_row.new.row c.rule_queue_row.new.row c.rule_row.ensures.row c.rule_row.ensures.memory c.rule_queue_row.ensures)

pub returns-clause-places : goal.returns-clause-places
returns-clause-places c = λ j lives.
    rule_places c.self.inside c.self.invariant c.args.job (position_in c.self.inside.jobs.numbers c.args.job) c.row_mut-row.result.now (sym c.row_mut-row.ensures.found.is)
    (row_place c.self.inside.jobs c.self.invariant.own c.self.invariant.jobs c.args.job c.row_mut-row.result.now c.row_mut-row.ensures.found) c.in-Ok.queue_at c.index.result.now c.index_mut.result.now c.index.ensures c.index_mut.ensures.value
    (rw c.deref.ensures.value at c.in-Ok.ensures.found) c.args.verdict
    c.rule_row.new.row c.rule_queue_row.new.row c.rule_row.ensures.row c.rule_row.ensures.memory c.rule_queue_row.ensures
    c.rule_row.ensures.document j lives
    ∙ ap (λ (v : Contents). places_at v j) c.self.view_is
