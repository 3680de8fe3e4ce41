-- The clock, if it reports its last result, has reported the result that was used.
use Rattle.std.proofs.Common.{Option, ℕ}
use Rattle.std.proofs.lemmas.Option.{IfSome_then}
use Rattle.service_loop.proofs.WaitLaws.{clock_bound_by, maintenance_wait_by}
use Rattle.service_loop.proofs.service.Service.clock_bound.Goals as goal

pub returns-in-Some : goal.returns-in-Some
returns-in-Some g c =
    let s = c.args.self.now in
    let state = s.shared.engine.run_state.spool.state in
    IfSome_then (g.T.Times.told c.system.new.self) c.in-Some.ensures.told (λ (last : Option ℕ) is.
    clock_bound_by s.maintenance s.shared.active state c.in-Some.millis c.wait.result _ last is
    (maintenance_wait_by s.maintenance s.shared.active state c.in-Some.millis c.wait.result c.wait.ensures.active c.wait.ensures.due c.wait.ensures.never) c.micros_of.ensures)
