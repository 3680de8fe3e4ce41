-- A tick over the spool, the images that a crash in it leaves, and its accepted events.
use Rattle.std.proofs.Common.{◌≡◌, refl, sym, subst, List}
use Rattle.spool_types.specs.declared.event.Event.{Event}
use Rattle.spool_core.specs.OpenSpools.{OpenSpool, IsSettled as NoneStaged}
use Rattle.print_rounds.specs.Happenings.{IsTickInTurn, IsTickThat, happenings_of}
use Rattle.print_rounds.specs.RoundTicks.{count_running}
use Rattle.print_rounds.specs.StartLimits.{IsRoomBy}
use Rattle.print_rounds.specs.RunStates.{run_state}
use Rattle.spool_engine.specs.EventSteps.{setting}
use Rattle.spool_engine.specs.EngineTicks.{IsTicked}
use Rattle.spool_engine.proofs.RoundLaws.{tick_by, ticked_of}
use Rattle.spool_engine.proofs.executor.Executor.tick.Goals as goal

pub returns-clause-tick : goal.returns-clause-tick
returns-clause-tick g c = λ m.
    let tells = g.C.Children.tells in
    let v = setting g.D.Disk.device m c.args.place.now in
    let old = run_state c.self.inside.spool c.args.runner.now (tells c.args.children.now) in
    let new = run_state c.tick-ran.new.spool c.tick-ran.new.runner (tells c.tick-ran.new.children) in
    subst (λ (s : OpenSpool g.row.D.Denot). (tried : List Event) × IsTicked v (run_state s c.args.runner.now (tells c.args.children.now)) (record { limits = c.args.limits; next = new; result = c.tick-ran.result; tried = tried })) c.self.view_is
    (ticked_of v c.args.limits old new c.tick-ran.result c.self.inside.spool.dead refl g.met.D.Disk.lawful.only_now (c.self.invariant.kept (subst (λ (s : OpenSpool g.row.D.Denot). NoneStaged s) (sym c.self.view_is) c.requires.settled)) (λ alive. c.table-table.ensures.kept alive (c.tick-ran.ensures.settled alive))
    c.tick-ran.ensures.later c.tick-ran.ensures.told c.tick-ran.ensures.most (tick_by (IsRoomBy (λ answer. (then : g.row.C.Denot) × g.C.Children.rooms c.args.children.now answer then) c.args.limits (count_running c.args.runner.now) c.args.turn.now) g.D.Disk.device c.args.place.now c.args.limits old new c.tick-ran.result c.self.inside.spool.dead c.tick-ran.ensures.tick))

pub returns-clause-happened : goal.returns-clause-happened
returns-clause-happened g c =
    let tells = g.C.Children.tells in
    let new = run_state c.tick-ran.new.spool c.tick-ran.new.runner (tells c.tick-ran.new.children) in
    subst (λ (s : OpenSpool g.row.D.Denot). IsTickThat (λ (events : List Event). c.tick-ran.new.happened.items ≡ happenings_of events) g.D.Disk.device c.args.place.now c.args.limits
    (run_state s c.args.runner.now (tells c.args.children.now)) s.dead new c.tick-ran.result) c.self.view_is c.tick-ran.ensures.happened

pub invariant_of-self : goal.invariant_of-self
invariant_of-self g c = record { kept = λ settled alive. c.table-table.ensures.kept alive (settled alive); synced = c.table-table.ensures.synced }

pub tick-ran-requires : goal.tick-ran-requires
tick-ran-requires g c = record { settled = subst (λ (s : OpenSpool g.row.D.Denot). NoneStaged s) (sym c.self.view_is) c.requires.settled }

pub returns-clause-turn : goal.returns-clause-turn
returns-clause-turn g c =
    let tells = g.C.Children.tells in
    let new = run_state c.tick-ran.new.spool c.tick-ran.new.runner (tells c.tick-ran.new.children) in
    subst (λ (s : OpenSpool g.row.D.Denot). IsTickInTurn c.args.turn.now c.tick-ran.new.turn g.D.Disk.device c.args.place.now c.args.limits (run_state s c.args.runner.now (tells c.args.children.now)) s.dead new c.tick-ran.result)
    c.self.view_is c.tick-ran.ensures.turn
