-- The wait by the time that the youngest child ran, the number of running children, and the clock.
use Rattle.std.proofs.Common.{◌≡◌, Bool, Option, ℕ, ap, ap₂, sym, subst, ◌∙◌}
use Rattle.std.specs.Prelude.{IfSome}
use Rattle.service_rules.specs.ChildPolling.{earlier}
use Rattle.service_loop.specs.LoopWaits.{clock_bound, loop_wait}
use Rattle.service_loop.proofs.service.Service.pause.Goals as goal

pub returns : goal.returns
returns g c =
    let clock = c.clock_bound-clock.result in
    let left = c.check_bound-left.result in
    record {
      wait = (
        c.saturating_sub-ran.result,
        c.running-running.result,
        clock,
        c.running-running.ensures,
        subst (λ (told : Option (Option ℕ)). IfSome told (λ last. clock ≡ clock_bound c.args.self.now.maintenance c.args.self.now.shared.active c.args.self.now.shared.engine.run_state.spool.state last))
            (sym c.check_bound-left.ensures.told) c.clock_bound-clock.ensures,
        left,
        c.check_bound-left.ensures.bound,
        c.loop_wait.ensures
            ∙ ap (loop_wait c.args.self.now.more c.wakes.result c.next_look-look.result) c.poll_wait.ensures
            ∙ ap₂ (λ (wakes : Bool) (look : Option ℕ). loop_wait c.args.self.now.more wakes look (earlier clock left)) c.wakes.ensures c.next_look-look.ensures.value,
      );
    }
