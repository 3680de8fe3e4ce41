-- The staged events are settled, and then there is a tick.
use Rattle.std.proofs.Common.{◌≡◌, ℕ, List, subst}
use Rattle.filter_args.specs.declared.place.Place.{Place}
use Rattle.spool_types.specs.declared.event.Event.{Event}
use Rattle.print_rounds.specs.Happenings.{IsTickInTurn, IsTickThat, happenings_of}
use Rattle.spool_engine.specs.EventSteps.{setting}
use Rattle.spool_engine.specs.EngineTicks.{IsTicked}
use Rattle.spool_engine.specs.Mime.{Mime}
use Rattle.spool_engine.proofs.staging.StagingEngine.tick.Goals as goal

pub returns-clause-tick : goal.returns-clause-tick
returns-clause-tick g c =
    let device = g.D.Disk.device in
    let mid = c.settle.new.self in
    let s = mid.run_state in
    let next = c.tick_settled.new.self.run_state in
    let result = c.tick_settled.result in
    let limits = c.args.limits in
    let tried = c.tick_settled.ensures.tick.0 in
    let ticked =
    subst (λ (m : Mime). IsTicked (setting device m c.args.self.now.place) s (record { limits = limits; next = next; result = result; tried = tried })) c.settle.ensures.mime
    (subst (λ (p : Place). IsTicked (setting device mid.mime p) s (record { limits = limits; next = next; result = result; tried = tried })) c.settle.ensures.place c.tick_settled.ensures.tick.1) in
    let turn =
    subst (λ (n : ℕ). IsTickInTurn n c.tick_settled.new.self.turn device c.args.self.now.place limits s s.spool.dead next result) c.settle.ensures.turn
    (subst (λ (p : Place). IsTickInTurn mid.turn c.tick_settled.new.self.turn device p limits s s.spool.dead next result) c.settle.ensures.place c.tick_settled.ensures.turn) in
    let happened = subst (λ (p : Place). IsTickThat (λ (events : List Event). c.tick_settled.new.happened.items ≡ happenings_of events) device p limits s s.spool.dead next result) c.settle.ensures.place c.tick_settled.ensures.happened in
    (s, c.settle.ensures.settles, (c.settle.ensures.settles.spool.settled, c.tick_settled.ensures.settled), (tried, ticked), turn, happened)
