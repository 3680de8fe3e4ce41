-- A position among the rows is one among the names.
use Rattle.std.proofs.Common.{IsSome, refl, sym, subst}
use Rattle.std.specs.FinMap as finite
use Rattle.spool_types.specs.State.{queue_at}
use Rattle.job_table.specs.Legal.{IsLegal}
use Rattle.job_table.specs.QueuePositions.{IsNameAt, IsNameGap}
use Rattle.job_table.proofs.Names.{if_ok_weaker, if_err_weaker, name_place, name_gap}
use Rattle.job_table.proofs.Tables.{some_queue}
use Rattle.job_table.proofs.store.Store.queue_position.Goals as goal

pub returns-clause-found : goal.returns-clause-found
returns-clause-found c = if_ok_weaker c.queue_position.result (λ i at.
    subst (λ v. IsNameAt (finite.keys v.state.queues) c.args.name.now i) c.self.view_is
    (name_place c.self.inside.queues.items c.self.invariant.queues c.args.name.now i (rw c.deref.ensures.value at at))) c.queue_position.ensures.found

pub returns-clause-there : goal.returns-clause-there
returns-clause-there c = if_ok_weaker c.queue_position.result (λ i at.
    let row = some_queue c.self.inside.queues.items c.self.invariant.queues c.args.name.now i (rw c.deref.ensures.value at at) in
    subst (λ v. IsSome (queue_at v.state c.args.name.now)) c.self.view_is (subst IsSome (sym row.1) refl)) c.queue_position.ensures.found

pub returns-clause-absent : goal.returns-clause-absent
returns-clause-absent c = if_err_weaker c.queue_position.result (λ i gap.
    subst (λ v. IsNameGap v.state.queues c.args.name.now i) c.self.view_is
    (name_gap c.self.inside.queues.items c.self.invariant.queues c.args.name.now i (rw c.deref.ensures.value at gap))) c.queue_position.ensures.absent

pub returns-clause-legal : goal.returns-clause-legal
returns-clause-legal c = subst (λ v. IsLegal v.state) c.self.view_is c.self.invariant.legal
