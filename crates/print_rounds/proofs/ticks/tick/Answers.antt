-- The pass is a tick.
use Rattle.std.proofs.Common.{◌≡◌, ◌+◌, ◌≤◌, ◌++◌, inl, ℕ, [], Bool, Err, false, List, ap, arith, length, refl, subst, sym, ◌∙◌}
use Rattle.print_rounds.specs.declared.outcome.RoundFault.TheVariants as ends
use Rattle.spool_types.specs.State.{State}
use Rattle.print_rounds.proofs.StartLaws.{queue_count}
use Rattle.std.specs.FinMap as finite
use Rattle.std.specs.Prelude.{vec_capacity}
use Rattle.spool_types.specs.declared.event.Event.{Event}
use Rattle.print_rounds.specs.Happenings.{HaveHappened, IsPassThat, IsTickInTurn, IsTickThat, happenings_of}
use Rattle.print_rounds.proofs.HappenedLaws.{pass_alone, same_most}
use Rattle.job_table.specs.Legal.{IsLegal}
use Rattle.print_rounds.specs.RunStates.{run_state}
use Rattle.print_rounds.proofs.HoldLaws.{Laws}
use Rattle.print_rounds.proofs.QueueTurns.{no_turn}
use Rattle.print_rounds.specs.StageChecks.{idle_slots}
use Rattle.print_rounds.specs.Turns.{AreInTurn}
use Rattle.print_rounds.proofs.TickTickets.{TicketLaws}
use Rattle.print_rounds.specs.RoundTicks.{IsTickAsked, count_running}
use Rattle.print_rounds.specs.StartLimits.{IsRoomBy}
use Rattle.print_rounds.proofs.TickLaws.{passed_most, passed_tick, passed_device, that_tick}
use Rattle.print_rounds.proofs.CrashLaws.{IsKept}
use Rattle.print_rounds.proofs.ticks.tick.Goals as goal

pub returns-then-is_dead-clause-tick : goal.returns-then-is_dead-clause-tick
returns-then-is_dead-clause-tick g c =
    let old = run_state c.args.spool.now c.args.runner.now (g.C.Children.tells c.args.children.now) in
    let asked = IsRoomBy (λ answer. (then : g.row.C.Denot) × g.C.Children.rooms c.args.children.now answer then) c.args.limits (count_running c.args.runner.now) c.args.turn.now in
    subst (λ (b : Bool). IsTickAsked asked g.D.Disk.device c.args.place.now c.args.limits old b old (Err ends.Dead)) (sym c.if-is_dead.true ∙ c.is_dead.ensures) (refl, refl)

pub returns-then-is_dead-clause-most : goal.returns-then-is_dead-clause-most
returns-then-is_dead-clause-most g c = same_most c.args.limits (count_running c.args.runner.now)

pub returns-then-is_dead-clause-happened : goal.returns-then-is_dead-clause-happened
returns-then-is_dead-clause-happened g c =
    let old = run_state c.args.spool.now c.args.runner.now (g.C.Children.tells c.args.children.now) in
    subst (λ (b : Bool). IsTickThat (λ (events : List Event). c.clear.new.self.items ≡ happenings_of events) g.D.Disk.device c.args.place.now c.args.limits old b old (Err ends.Dead)) (sym c.if-is_dead.true ∙ c.is_dead.ensures) (refl, refl, c.clear.ensures.items)

pub returns-then-is_dead-clause-turn : goal.returns-then-is_dead-clause-turn
returns-then-is_dead-clause-turn g c =
    let old = run_state c.args.spool.now c.args.runner.now (g.C.Children.tells c.args.children.now) in
    subst (λ (b : Bool). IsTickInTurn c.args.turn.now c.args.turn.now g.D.Disk.device c.args.place.now c.args.limits old b old (Err ends.Dead)) (sym c.if-is_dead.true ∙ c.is_dead.ensures)
    (refl, refl, no_turn c.args.turn.now c.args.spool.now.state (idle_slots c.args.spool.now.state c.args.runner.now))

pub returns-in-Err-clause-turn : goal.returns-in-Err-clause-turn
returns-in-Err-clause-turn g c =
    let old = run_state c.args.spool.now c.args.runner.now (g.C.Children.tells c.args.children.now) in
    subst (λ (b : Bool). IsTickInTurn c.args.turn.now c.args.turn.now g.D.Disk.device c.args.place.now c.args.limits old b old (Err ends.Memory)) (sym c.if-is_dead.false ∙ c.is_dead.ensures)
    (inl ((refl, refl), no_turn c.args.turn.now c.args.spool.now.state (idle_slots c.args.spool.now.state c.args.runner.now)))

pub returns-in-Err-clause-tick : goal.returns-in-Err-clause-tick
returns-in-Err-clause-tick g c =
    let old = run_state c.args.spool.now c.args.runner.now (g.C.Children.tells c.args.children.now) in
    let asked = IsRoomBy (λ answer. (then : g.row.C.Denot) × g.C.Children.rooms c.args.children.now answer then) c.args.limits (count_running c.args.runner.now) c.args.turn.now in
    subst (λ (b : Bool). IsTickAsked asked g.D.Disk.device c.args.place.now c.args.limits old b old (Err ends.Memory)) (sym c.if-is_dead.false ∙ c.is_dead.ensures) (inl (refl, refl))

pub returns-in-Err-clause-most : goal.returns-in-Err-clause-most
returns-in-Err-clause-most g c = same_most c.args.limits (count_running c.args.runner.now)

pub returns-in-Err-clause-happened : goal.returns-in-Err-clause-happened
returns-in-Err-clause-happened g c =
    let old = run_state c.args.spool.now c.args.runner.now (g.C.Children.tells c.args.children.now) in
    subst (λ (b : Bool). IsTickThat (λ (events : List Event). c.reserve.new.self.items ≡ happenings_of events) g.D.Disk.device c.args.place.now c.args.limits old b old (Err ends.Memory)) (sym c.if-is_dead.false ∙ c.is_dead.ensures) (inl ((refl, refl), c.reserve.ensures.items ∙ c.clear.ensures.items))

pub returns : goal.returns
returns g c =
    let old = run_state c.args.spool.now c.args.runner.now (g.C.Children.tells c.args.children.now) in
    let new = run_state c.pass.new.spool c.pass.new.runner (g.C.Children.tells c.pass.new.children) in
    let legal = subst IsLegal c.table.ensures.table c.jobs-legal.ensures.legal in
    let laws : Laws = record {
      legal = c.legal_tables_stay_legal.ensures.stays;
      spent = c.spent_stages_stay_spent.ensures.stays;
      left = c.spent_stages_stay_spent.ensures.left;
      either = c.spent_stages_stay_spent.ensures.either;
      ended = c.spent_stages_stay_spent.ensures.ended;
      rises = c.versions_rise.ensures.all;
      raised_legal = c.versions_rise.ensures.legal;
    } in
    let tickets : TicketLaws = record {
      starts = c.tickets_stay.ensures.starts;
      finishes = c.tickets_stay.ensures.finishes;
      looks = c.tickets_stay.ensures.looks;
      releases = c.tickets_stay.ensures.releases;
    } in
    let start_room = c.room_of-start_room.result in
    let limits = c.args.limits in
    let asked = IsRoomBy (λ answer. (then : g.row.C.Denot) × g.C.Children.rooms c.args.children.now answer then) limits (count_running c.args.runner.now) c.args.turn.now in
    let q = length (finite.keys c.args.spool.now.state.queues) in
    let has = λ (events : List Event) (queues : List (List ℕ)). AreInTurn c.args.turn.now c.pass.new.turn c.args.spool.now.state (idle_slots c.args.spool.now.state c.args.runner.now) queues × HaveHappened (vec_capacity c.reserve.new.self) (q + q) c.reserve.new.self.items c.pass.new.happened.items (happenings_of events) in
    let that : IsPassThat has g.D.Disk.device c.args.place.now false start_room old c.args.spool.now.dead new c.pass.result =
    subst (λ told. IsPassThat has g.D.Disk.device c.args.place.now false start_room (run_state c.args.spool.now c.args.runner.now told) c.args.spool.now.dead new c.pass.result) c.room_of-start_room.ensures.told c.pass.ensures.pass in
    let kept : IsKept g.D.Disk.device c.args.spool.now = λ alive. c.table.ensures.kept alive (c.requires.settled alive) in
    let empty : c.reserve.new.self.items ≡ [] = c.reserve.ensures.items ∙ c.clear.ensures.items in
    let rows = queue_count c.queues-queues.result.now (finite.keys c.table-2.result.now.state.queues) c.queues-queues.ensures.names ∙ ap (λ (s : State). length (finite.keys s.queues)) c.table-2.ensures.table in
    let none = ap length empty in
    let cleared = c.clear.ensures.len in
    let same = c.reserve.ensures.len in
    let enough = c.in-Ok.ensures.ok in
    let room : length c.reserve.new.self.items + (q + q) ≤ vec_capacity c.reserve.new.self = omega (arith, none, cleared, same, enough, rows) in
    let passed = pass_alone has g.D.Disk.device c.args.place.now false start_room old new c.pass.result c.args.spool.now.dead that in
    let left = passed_device g.D.Disk.device g.met.D.Disk.lawful laws tickets c.args.place.now start_room old new c.pass.result legal c.args.spool.now.dead passed in
    record {
      tick = passed_tick g.D.Disk.device g.met.D.Disk.lawful laws tickets c.args.place.now start_room old new c.pass.result legal limits c.room_of-start_room.ensures.within (λ tells. (c.args.turn.now, c.room_of-start_room.ensures.always tells)) asked c.room_of-start_room.ensures.asked kept passed;
      later = left.0;
      told = left.1;
      settled = c.pass.ensures.settled;
      most = passed_most g.D.Disk.device g.met.D.Disk.lawful laws tickets c.args.place.now start_room old new c.pass.result legal limits c.room_of-start_room.ensures.within (λ tells. (c.args.turn.now, c.room_of-start_room.ensures.always tells)) asked c.room_of-start_room.ensures.asked kept c.args.spool.now.dead passed;
      turn =
          that_tick g.D.Disk.device g.met.D.Disk.lawful laws tickets c.args.place.now start_room old new c.pass.result legal limits c.room_of-start_room.ensures.within (λ tells. (c.args.turn.now, c.room_of-start_room.ensures.always tells)) asked c.room_of-start_room.ensures.asked kept
          has (λ (events : List Event) (queues : List (List ℕ)). AreInTurn c.args.turn.now c.pass.new.turn c.args.spool.now.state (idle_slots c.args.spool.now.state c.args.runner.now) queues) (λ es qs h. h.0) c.args.spool.now.dead refl that;
      happened =
          that_tick g.D.Disk.device g.met.D.Disk.lawful laws tickets c.args.place.now start_room old new c.pass.result legal limits c.room_of-start_room.ensures.within (λ tells. (c.args.turn.now, c.room_of-start_room.ensures.always tells)) asked c.room_of-start_room.ensures.asked kept
          has (λ (events : List Event) (queues : List (List ℕ)). c.pass.new.happened.items ≡ happenings_of events) (λ es qs h. h.1.0 room ∙ ap (λ l. l ++ happenings_of es) empty) c.args.spool.now.dead refl that;
    }
