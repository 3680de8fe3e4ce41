-- A tick of the inner engine, over an equal run state.
use Rattle.std.proofs.Common.{◌≡◌, List, subst}
use Rattle.spool_types.specs.declared.event.Event.{Event}
use Rattle.print_rounds.specs.Happenings.{IsTickThat, happenings_of}
use Rattle.spool_engine.specs.EngineRuns.{Engine}
use Rattle.spool_engine.proofs.engine.Engine.tick.Goals as goal

pub returns-clause-happened : goal.returns-clause-happened
returns-clause-happened g c =
    subst (λ (e : Engine g.row.D.Denot). IsTickThat (λ (events : List Event). c.tick_settled.new.happened.items ≡ happenings_of events) g.D.Disk.device e.place c.args.limits e.run_state e.run_state.spool.dead c.tick_settled.new.self.run_state c.tick_settled.result)
    c.self.view_is c.tick_settled.ensures.happened
