-- A tick of the executor, over an equal run state.
use Rattle.std.proofs.Common.{◌≡◌, List, sym, subst}
use Rattle.spool_core.specs.OpenSpools.{IsSettled as NoneStaged}
use Rattle.spool_types.specs.declared.event.Event.{Event}
use Rattle.print_rounds.specs.Happenings.{IsTickInTurn, IsTickThat, happenings_of}
use Rattle.print_rounds.specs.RunStates.{RunState, run_state}
use Rattle.spool_engine.specs.EventSteps.{setting}
use Rattle.spool_engine.specs.EngineTicks.{IsTicked}
use Rattle.spool_engine.proofs.printer.Printer.tick.Goals as goal

pub returns-clause-tick : goal.returns-clause-tick
returns-clause-tick g c = λ m.
    let v = setting g.D.Disk.device m c.args.place.now in
    let new = run_state c.tick.new.self c.tick.new.runner (g.C.Children.tells c.tick.new.children) in
    subst (λ (s : RunState g.row.D.Denot). (tried : List Event) × IsTicked v s (record { limits = c.args.limits; next = new; result = c.tick.result; tried = tried })) c.self.view_is (c.tick.ensures.tick m)

pub returns-clause-happened : goal.returns-clause-happened
returns-clause-happened g c =
    let new = run_state c.tick.new.self c.tick.new.runner (g.C.Children.tells c.tick.new.children) in
    subst (λ (s : RunState g.row.D.Denot). IsTickThat (λ (events : List Event). c.tick.new.happened.items ≡ happenings_of events) g.D.Disk.device c.args.place.now c.args.limits s s.spool.dead new c.tick.result)
    c.self.view_is c.tick.ensures.happened

pub returns-clause-turn : goal.returns-clause-turn
returns-clause-turn g c =
    let new = run_state c.tick.new.self c.tick.new.runner (g.C.Children.tells c.tick.new.children) in
    subst (λ (s : RunState g.row.D.Denot). IsTickInTurn c.args.turn.now c.tick.new.turn g.D.Disk.device c.args.place.now c.args.limits s s.spool.dead new c.tick.result) c.self.view_is c.tick.ensures.turn

pub tick-requires : goal.tick-requires
tick-requires g c = record { settled = subst (λ (s : RunState g.row.D.Denot). NoneStaged s.spool) (sym c.self.view_is) c.requires.settled }
