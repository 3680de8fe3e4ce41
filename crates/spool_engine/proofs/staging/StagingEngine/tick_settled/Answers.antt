-- A tick of the printer, over an equal run state.
use Rattle.std.proofs.Common.{◌≡◌, List, sym, subst}
use Rattle.std.specs.String.{string_bytes}
use Rattle.spool_types.specs.declared.event.Event.{Event}
use Rattle.print_rounds.specs.Happenings.{IsTickInTurn, IsTickThat, happenings_of}
use Rattle.spool_engine.specs.EventSteps.{setting}
use Rattle.spool_core.specs.OpenSpools.{IsSettled as NoneStaged}
use Rattle.spool_engine.specs.EngineRuns.{Engine}
use Rattle.spool_engine.specs.EngineTicks.{IsTicked}
use Rattle.spool_engine.proofs.staging.StagingEngine.tick_settled.Goals as goal

pub returns-clause-tick : goal.returns-clause-tick
returns-clause-tick g c =
    subst (λ (e : Engine g.row.D.Denot). (tried : List Event) × IsTicked (setting g.D.Disk.device e.mime e.place) e.run_state (record { limits = c.args.limits; next = c.tick.new.self; result = c.tick.result; tried = tried })) c.self.view_is
    (c.tick.ensures.tick (record { types = c.self.inside.types; convs = c.self.inside.convs; locale = string_bytes c.self.inside.place.lang }))

pub returns-clause-happened : goal.returns-clause-happened
returns-clause-happened g c =
    subst (λ (e : Engine g.row.D.Denot). IsTickThat (λ (events : List Event). c.tick.new.happened.items ≡ happenings_of events) g.D.Disk.device e.place c.args.limits e.run_state e.run_state.spool.dead c.tick.new.self c.tick.result)
    c.self.view_is c.tick.ensures.happened

pub returns-clause-turn : goal.returns-clause-turn
returns-clause-turn g c =
    subst (λ (e : Engine g.row.D.Denot). IsTickInTurn e.turn c.tick.new.turn g.D.Disk.device e.place c.args.limits e.run_state e.run_state.spool.dead c.tick.new.self c.tick.result)
    c.self.view_is c.tick.ensures.turn

pub tick-requires : goal.tick-requires
tick-requires g c = record { settled = subst (λ (e : Engine g.row.D.Denot). NoneStaged e.run_state.spool) (sym c.self.view_is) c.requires.settled }
