-- The lane at the position of the queue.
use Rattle.std.proofs.Common.{sym, ap, subst, ◌∙◌}
use Rattle.std.specs.Option.{is_some, IsSome}
use Rattle.std.proofs.lemmas.Bool.{both_ways}
use Rattle.spool_types.specs.State.{queue_at}
use Rattle.job_table.specs.Lanes.{seat, IsLane, IsLaneOf}
use Rattle.job_table.proofs.Names.{there_name}
use Rattle.job_table.proofs.Seats.{lane_at}
use Rattle.job_table.proofs.table.Table.lane.Goals as goal

own : (c : goal.After-index) → IsLaneOf c.self.inside.store.state c.self.inside.vacant c.args.name.now c.index.result.now
own c =
    subst (IsLaneOf c.self.inside.store.state c.self.inside.vacant c.args.name.now) (sym c.index.ensures)
    (lane_at c.self.inside.store.state c.self.inside.store.state c.self.inside.vacant c.self.inside.lanes.items c.self.invariant.lanes c.args.name.now c.in-Ok.at c.in-Ok.ensures.found c.index.result.now)

pub returns-in-Ok-clause-absent : goal.returns-in-Ok-clause-absent
returns-in-Ok-clause-absent c =
    let there = subst (λ v. IsSome (queue_at v.state c.args.name.now)) c.self.view_is (there_name c.self.inside.store.state c.args.name.now c.in-Ok.at c.in-Ok.ensures.found) in
    (λ no. absurd (cc), λ absent. absurd (both_ways _ (ap is_some absent) there))

pub returns-in-Ok-clause-lane : goal.returns-in-Ok-clause-lane
returns-in-Ok-clause-lane c = subst (λ v. IsLane (seat v.state c.args.name.now) c.index.result.now) c.self.view_is (own c).lane

pub returns-in-Ok-clause-moment : goal.returns-in-Ok-clause-moment
returns-in-Ok-clause-moment c = (own c).moment ∙ ap (λ v. v.state.moment) c.self.view_is
