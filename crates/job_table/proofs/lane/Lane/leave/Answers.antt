-- The job is removed with its lane state.
use Rattle.std.proofs.Common.{◌≡◌, ◌-◌, ◌≤◌, ap, ◌∙◌, arith}
use Rattle.job_table.specs.Lanes.{is_live, live_count}
use Rattle.job_table.proofs.Lanes.{one_live, left_ended, left_incoming, left_waiting, left_processing}
use Rattle.job_table.proofs.lane.Lane.leave.Goals as goal

pub overflow_sub-self : goal.overflow_sub-self
overflow_sub-self c = one_live c.requires.seats c.requires.seats c.args._job c.args.self.now.live c.requires.lane.live (ap is_live (c.requires.own ∙ c.in-Incoming.is))

pub overflow_sub-self-in-Waiting : goal.overflow_sub-self-in-Waiting
overflow_sub-self-in-Waiting c = one_live c.requires.seats c.requires.seats c.args._job c.args.self.now.live c.requires.lane.live (ap is_live (c.requires.own ∙ c.in-Waiting.is))

pub overflow_sub-self-in-Processing : goal.overflow_sub-self-in-Processing
overflow_sub-self-in-Processing c = one_live c.requires.seats c.requires.seats c.args._job c.args.self.now.live c.requires.lane.live (ap is_live (c.requires.own ∙ c.in-Processing.is))

pub returns-in-Ended-clause-lane : goal.returns-in-Ended-clause-lane
returns-in-Ended-clause-lane c = λ old new is was seated. left_ended old new c.args._job c.args.self.now is seated (was ∙ c.in-Ended.is)

pub returns-in-Incoming-clause-lane : goal.returns-in-Incoming-clause-lane
returns-in-Incoming-clause-lane c = λ old new is was seated.
    let some : 1 ≤ c.args.self.now.live = one_live old new c.args._job c.args.self.now.live is.live (ap is_live (was ∙ c.in-Incoming.is)) in
    left_incoming old new c.args._job c.args.self.now is seated (was ∙ c.in-Incoming.is) (c.args.self.now.live - 1) (omega (arith, some))

pub returns-in-Incoming-clause-live : goal.returns-in-Incoming-clause-live
returns-in-Incoming-clause-live c =
    let some : 1 ≤ c.args.self.now.live = one_live c.requires.seats c.requires.seats c.args._job c.args.self.now.live c.requires.lane.live (ap is_live (c.requires.own ∙ c.in-Incoming.is)) in
    let one : live_count c.args.from ≡ 1 = ap live_count c.in-Incoming.is in
    omega (arith, some, one)

pub returns-in-Waiting-clause-lane : goal.returns-in-Waiting-clause-lane
returns-in-Waiting-clause-lane c = λ old new is was seated.
    let some : 1 ≤ c.args.self.now.live = one_live old new c.args._job c.args.self.now.live is.live (ap is_live (was ∙ c.in-Waiting.is)) in
    left_waiting old new c.args._job c.args.self.now is seated c.in-Waiting.entry (was ∙ c.in-Waiting.is) c.remove.new.self c.remove.ensures.items c.remove.ensures.room (c.args.self.now.live - 1) (omega (arith, some))

pub returns-in-Waiting-clause-live : goal.returns-in-Waiting-clause-live
returns-in-Waiting-clause-live c =
    let some : 1 ≤ c.args.self.now.live = one_live c.requires.seats c.requires.seats c.args._job c.args.self.now.live c.requires.lane.live (ap is_live (c.requires.own ∙ c.in-Waiting.is)) in
    let one : live_count c.args.from ≡ 1 = ap live_count c.in-Waiting.is in
    omega (arith, some, one)

pub returns-in-Processing-clause-lane : goal.returns-in-Processing-clause-lane
returns-in-Processing-clause-lane c = λ old new is was seated.
    let some : 1 ≤ c.args.self.now.live = one_live old new c.args._job c.args.self.now.live is.live (ap is_live (was ∙ c.in-Processing.is)) in
    left_processing old new c.args._job c.args.self.now is seated (was ∙ c.in-Processing.is) (c.args.self.now.live - 1) (omega (arith, some))

pub returns-in-Processing-clause-live : goal.returns-in-Processing-clause-live
returns-in-Processing-clause-live c =
    let some : 1 ≤ c.args.self.now.live = one_live c.requires.seats c.requires.seats c.args._job c.args.self.now.live c.requires.lane.live (ap is_live (c.requires.own ∙ c.in-Processing.is)) in
    let one : live_count c.args.from ≡ 1 = ap live_count c.in-Processing.is in
    omega (arith, some, one)
