-- All parts joined.
use Rattle.std.proofs.Common.{◌≡◌, ◌+◌, ◌≤◌, inl, ℕ, Bool, Err, List, length, refl, sym, ap, subst, ◌∙◌, arith}
use Rattle.std.proofs.lemmas.List.{length-map}
use Rattle.spool_types.specs.declared.event.Event.{Event}
use Rattle.std.specs.Prelude.{vec_capacity}
use Rattle.std.specs.Option.{option_or}
use Rattle.std.specs.FinMap as finite
use Rattle.spool_types.specs.State.{State}
use Rattle.print_rounds.specs.Counts.{counts_of, ending_events, launching_fault, result_of, started_in, starting_events, starting_fault}
use Rattle.print_rounds.specs.Happenings.{HaveHappened, IsPassThat, happenings_of}
use Rattle.print_rounds.specs.declared.outcome.RoundFault.TheVariants as ends
use Rattle.print_rounds.specs.RunStates.{run_state, AreEndings}
use Rattle.print_rounds.specs.StageChecks.{Look, idle_among, idle_slots, strays, tended_jobs}
use Rattle.print_rounds.specs.Finished.{AreDistinct, AllRest}
use Rattle.print_rounds.specs.StartLimits.{rotated}
use Rattle.print_rounds.specs.Turns.{AreInTurn}
use Rattle.print_rounds.proofs.HappenedLaws.{none_happened, first_happened, parts_happened, ripe_few}
use Rattle.print_rounds.proofs.StartLaws.{queue_count}
use Rattle.print_rounds.proofs.PassParts.{failed_pass, queues_chosen, room_left, turn_chosen, whole_pass}
use Rattle.print_rounds.proofs.QueueTurns.{no_turn}
use Rattle.print_rounds.proofs.PlaceLaws.{in_turn_part, part_once, part_rest}
use Rattle.print_rounds.proofs.ReadLaws.{reads_settled}
use Rattle.print_rounds.proofs.TraceLaws.{starts_settled, ends_settled}
use Rattle.print_rounds.proofs.passes.pass.Goals as goal

pub returns-then-is_dead-clause-pass : goal.returns-then-is_dead-clause-pass
returns-then-is_dead-clause-pass g c =
    let old = run_state c.args.spool.now c.args.runner.now (g.C.Children.tells c.args.children.now) in
    let q = length (finite.keys c.args.spool.now.state.queues) in
    subst (λ (b : Bool). IsPassThat (λ (events : List Event) (queues : List (List ℕ)). AreInTurn c.args.turn.now c.args.turn.now c.args.spool.now.state (idle_slots c.args.spool.now.state c.args.runner.now) queues × HaveHappened (vec_capacity c.args.happened.now) (q + q) c.args.happened.now.items c.args.happened.now.items (happenings_of events))
    g.D.Disk.device c.args.place.now c.args.waits c.args.start_room old b old (Err ends.Dead)) (sym c.if-is_dead.true ∙ c.is_dead.ensures)
    (refl, refl, (no_turn c.args.turn.now c.args.spool.now.state (idle_slots c.args.spool.now.state c.args.runner.now), none_happened (vec_capacity c.args.happened.now) (q + q) c.args.happened.now.items))

pub returns-in-Err-clause-pass : goal.returns-in-Err-clause-pass
returns-in-Err-clause-pass g c =
    let old = run_state c.args.spool.now c.args.runner.now (g.C.Children.tells c.args.children.now) in
    let q = length (finite.keys c.args.spool.now.state.queues) in
    subst (λ (b : Bool). IsPassThat (λ (events : List Event) (queues : List (List ℕ)). AreInTurn c.args.turn.now c.args.turn.now c.args.spool.now.state (idle_slots c.args.spool.now.state c.args.runner.now) queues × HaveHappened (vec_capacity c.args.happened.now) (q + q) c.args.happened.now.items c.args.happened.now.items (happenings_of events))
    g.D.Disk.device c.args.place.now c.args.waits c.args.start_room old b old (Err ends.Memory)) (sym c.if-is_dead.false ∙ c.is_dead.ensures)
    (inl ((refl, refl), (no_turn c.args.turn.now c.args.spool.now.state (idle_slots c.args.spool.now.state c.args.runner.now), none_happened (vec_capacity c.args.happened.now) (q + q) c.args.happened.now.items)))

pub list_tended-requires-clause-room : goal.list_tended-requires-clause-room
list_tended-requires-clause-room g c =
    let (ts, starts, queues, fault, noted) = c.start_free-fault.ensures.starts in
    room_left g.D.Disk.device c.args.spool.now ts c.start_free-fault.new.spool starts c.table.result.now.state c.table.ensures.table c.queues.result.now c.queues.ensures.names
    (vec_capacity c.in-Ok.lists.tended) c.in-Ok.ensures.tended.1 c.table-2.result.now.state c.table-2.ensures.table

pub list_idle-requires-clause-room : goal.list_idle-requires-clause-room
list_idle-requires-clause-room g c =
    let (ts, starts, queues, fault, noted) = c.start_free-fault.ensures.starts in
    let room =
    room_left g.D.Disk.device c.args.spool.now ts c.start_free-fault.new.spool starts c.table.result.now.state c.table.ensures.table c.queues.result.now c.queues.ensures.names
    (vec_capacity c.in-Ok.lists.idle) c.in-Ok.ensures.idle.1 c.table-2.result.now.state c.table-2.ensures.table in
    let few = c.list_tended.ensures.bound in
    let same = ap length c.deref-2.ensures.value in
    omega (arith, room, few, same)

pub choose_jobs-requires-clause-room : goal.choose_jobs-requires-clause-room
choose_jobs-requires-clause-room g c =
    let (ts, starts, queues, fault, noted) = c.start_free-fault.ensures.starts in
    let room =
    room_left g.D.Disk.device c.args.spool.now ts c.start_free-fault.new.spool starts c.table.result.now.state c.table.ensures.table c.queues.result.now c.queues.ensures.names
    (vec_capacity c.in-Ok.lists.chosen) c.in-Ok.ensures.chosen.1 c.table-2.result.now.state c.table-2.ensures.table in
    let few = c.list_tended.ensures.bound in
    let fewer = c.list_idle.ensures.bound in
    let same = ap length c.deref-2.ensures.value in
    let listed = ap length c.deref-3.ensures.value in
    omega (arith, room, few, fewer, same, listed)

pub launch_all-launches-requires-clause-distinct : goal.launch_all-launches-requires-clause-distinct
launch_all-launches-requires-clause-distinct g c =
    let idle = c.list_idle.new.idle.items in
    subst AreDistinct (sym (c.deref-4.ensures.value ∙ c.choose_jobs.ensures.value ∙ ap (rotated c.args.start_room) c.deref-3.ensures.value))
    (part_once (rotated c.args.start_room idle) idle (in_turn_part c.args.start_room idle) c.list_idle.ensures.distinct)

pub launch_all-launches-requires-clause-rest : goal.launch_all-launches-requires-clause-rest
launch_all-launches-requires-clause-rest g c =
    let idle = c.list_idle.new.idle.items in
    let slots = c.free_idle.new.runner in
    subst (AllRest slots) (sym (c.deref-4.ensures.value ∙ c.choose_jobs.ensures.value ∙ ap (rotated c.args.start_room) c.deref-3.ensures.value))
    (part_rest slots (rotated c.args.start_room idle) idle (in_turn_part c.args.start_room idle) c.list_idle.ensures.rest)

pub list_ripe-requires-clause-room : goal.list_ripe-requires-clause-room
list_ripe-requires-clause-room g c =
    let (ts, starts, queues, fault, noted) = c.start_free-fault.ensures.starts in
    let room =
    room_left g.D.Disk.device c.args.spool.now ts c.start_free-fault.new.spool starts c.table.result.now.state c.table.ensures.table c.queues.result.now c.queues.ensures.names
    (vec_capacity c.in-Ok.lists.chosen) c.in-Ok.ensures.chosen.1 c.table-2.result.now.state c.table-2.ensures.table in
    let few = c.list_tended.ensures.bound in
    let same = ap length c.deref-5.ensures.value in
    let cleared = c.clear.ensures.capacity in
    let listed = c.choose_jobs.ensures.capacity in
    omega (arith, room, few, same, cleared, listed)

pub returns-then-is_dead-2-clause-pass : goal.returns-then-is_dead-2-clause-pass
returns-then-is_dead-2-clause-pass g c =
    let old = run_state c.args.spool.now c.args.runner.now (g.C.Children.tells c.args.children.now) in
    let (ts, starts, queues, fault, noted) = c.start_free-fault.ensures.starts in
    let q = length (finite.keys c.args.spool.now.state.queues) in
    let flags : length c.deref.result.now ≡ q = ap length c.deref.ensures.value ∙ c.hold_back.ensures.count ∙ ap (λ (s : State). length (finite.keys s.queues)) c.table-table.ensures.table in
    failed_pass (λ (events : List Event) (queues : List (List ℕ)). AreInTurn c.args.turn.now c.hold_back.result c.args.spool.now.state (idle_slots c.args.spool.now.state c.args.runner.now) queues × HaveHappened (vec_capacity c.args.happened.now) (q + q) c.args.happened.now.items c.start_free-fault.new.happened.items (happenings_of events))
    g.D.Disk.device c.args.place.now c.args.waits c.args.start_room old (sym c.is_dead.ensures ∙ c.if-is_dead.false)
    c.free_idle.new.runner (c.free_idle.ensures ∙ ap (λ s. idle_slots s c.args.runner.now) c.table-table.ensures.table)
    c.start_free-fault.new.spool ts starts
    (queues_chosen c.args.start_room _ c.free_idle.new.runner c.table-table.result.now.state c.args.spool.now.state c.table-table.ensures.table c.deref.result.now c.hold_back.new.blocked.items c.deref.ensures.value c.hold_back.ensures.chosen queues)
    (sym c.is_dead-2.ensures ∙ c.if-is_dead-2.true) c.unless.result (c.unless.ensures ∙ ap (result_of (record { started = 0; finished = 0 })) fault) (
      turn_chosen c.args.turn.now c.hold_back.result _ c.free_idle.new.runner (idle_slots c.args.spool.now.state c.args.runner.now) c.table-table.result.now.state c.args.spool.now.state c.table-table.ensures.table c.deref.result.now
          c.hold_back.new.blocked.items c.deref.ensures.value (c.free_idle.ensures ∙ ap (λ s. idle_slots s c.args.runner.now) c.table-table.ensures.table) c.hold_back.ensures.turn queues,
      first_happened (vec_capacity c.args.happened.now) q (length c.deref.result.now) c.args.happened.now.items c.start_free-fault.new.happened.items (starting_events c.args.spool.now ts) (omega (arith, flags)) noted,
    )

pub returns-clause-pass : goal.returns-clause-pass
returns-clause-pass g c =
    let old = run_state c.args.spool.now c.args.runner.now (g.C.Children.tells c.args.children.now) in
    let (ts, starts, queues, fault, noted) = c.start_free-fault.ensures.starts in
    let (ls, launches, reads, launched, started, later) = c.launch_all-launches.ensures in
    let (looks, look, seen, ripe) = c.list_ripe.ensures.looks in
    let (es, ends, ended, told, last, ends_noted) = c.end_stages-ends.ensures.ends in
    let (ds, drops, left) = c.drop_strays.ensures in
    let looked = g.C.Children.tells c.list_ripe.new.children in
    let behind = run_state c.end_stages-ends.new.spool c.end_stages-ends.new.runner (g.C.Children.tells c.end_stages-ends.new.children) in
    let new = run_state c.end_stages-ends.new.spool c.drop_strays.new.runner (g.C.Children.tells c.drop_strays.new.children) in
    let q = length (finite.keys c.args.spool.now.state.queues) in
    let flags : length c.deref.result.now ≡ q = ap length c.deref.ensures.value ∙ c.hold_back.ensures.count ∙ ap (λ (s : State). length (finite.keys s.queues)) c.table-table.ensures.table in
    let rows = queue_count c.queues.result.now (finite.keys c.table.result.now.state.queues) c.queues.ensures.names ∙ ap (λ (s : State). length (finite.keys s.queues)) c.table.ensures.table in
    let keys : length (finite.keys c.table-2.result.now.state.queues) ≤ q =
    room_left g.D.Disk.device c.args.spool.now ts c.start_free-fault.new.spool starts c.table.result.now.state c.table.ensures.table c.queues.result.now c.queues.ensures.names
    q (omega (arith, rows)) c.table-2.result.now.state c.table-2.ensures.table in
    let few = c.list_tended.ensures.bound in
    let looked_at = sym (length-map looks (λ (l : Look). l.job)) ∙ ap length (seen ∙ c.deref-5.ensures.value) in
    let reported = ap length (c.deref-6.ensures.value ∙ ripe) in
    let ripe_some = ripe_few looks in
    whole_pass (λ (events : List Event) (queues : List (List ℕ)). AreInTurn c.args.turn.now c.hold_back.result c.args.spool.now.state (idle_slots c.args.spool.now.state c.args.runner.now) queues × HaveHappened (vec_capacity c.args.happened.now) (q + q) c.args.happened.now.items c.end_stages-ends.new.happened.items (happenings_of events))
    g.D.Disk.device c.args.place.now c.args.waits c.args.start_room old (sym c.is_dead.ensures ∙ c.if-is_dead.false)
    c.free_idle.new.runner (c.free_idle.ensures ∙ ap (λ s. idle_slots s c.args.runner.now) c.table-table.ensures.table)
    c.start_free-fault.new.spool ts starts
    (queues_chosen c.args.start_room _ c.free_idle.new.runner c.table-table.result.now.state c.args.spool.now.state c.table-table.ensures.table c.deref.result.now c.hold_back.new.blocked.items c.deref.ensures.value c.hold_back.ensures.chosen queues)
    (sym c.is_dead-2.ensures ∙ c.if-is_dead-2.false)
    c.list_tended.new.jobs.items (c.list_tended.ensures.value ∙ ap (λ (s : State). tended_jobs s c.free_idle.new.runner (finite.keys s.queues)) c.table-2.ensures.table)
    ls c.launch_all-launches.new.spool c.launch_all-launches.new.runner (g.C.Children.tells c.launch_all-launches.new.children) launches reads
    (launched ∙ c.deref-4.ensures.value ∙ c.choose_jobs.ensures.value ∙ ap (rotated c.args.start_room) (c.deref-3.ensures.value ∙ c.list_idle.ensures.value ∙ ap (idle_among c.free_idle.new.runner) c.deref-2.ensures.value))
    looks looked look (seen ∙ c.deref-5.ensures.value)
    es behind (subst (λ m. AreEndings g.D.Disk.device (run_state c.launch_all-launches.new.spool m looked) es behind) c.list_ripe.ensures.slots ends) (ended ∙ c.deref-6.ensures.value ∙ ripe)
    ds new drops (left ∙ ap (λ s. strays s c.end_stages-ends.new.runner) c.table-3.ensures.table) refl
    c.unless-2.result
    (c.unless-2.ensures
    ∙ ap (λ n. result_of (record { started = n; finished = c.end_stages-ends.result.told }) c.or-2.result) started
    ∙ ap (λ n. result_of (record { started = started_in ls; finished = n }) c.or-2.result) told
    ∙ ap (result_of (counts_of ls es)) (c.or-2.ensures ∙ ap (λ f. option_or f c.or.result) fault
    ∙ ap (option_or (starting_fault ts)) (c.or.ensures ∙ ap (λ f. option_or f c.end_stages-ends.result.fault) later ∙ ap (option_or (launching_fault ls)) last))) (
      turn_chosen c.args.turn.now c.hold_back.result _ c.free_idle.new.runner (idle_slots c.args.spool.now.state c.args.runner.now) c.table-table.result.now.state c.args.spool.now.state c.table-table.ensures.table c.deref.result.now
          c.hold_back.new.blocked.items c.deref.ensures.value (c.free_idle.ensures ∙ ap (λ s. idle_slots s c.args.runner.now) c.table-table.ensures.table) c.hold_back.ensures.turn queues,
      parts_happened (vec_capacity c.args.happened.now) (vec_capacity c.start_free-fault.new.happened) q (length c.deref.result.now) (length c.deref-6.result.now)
          c.args.happened.now.items c.start_free-fault.new.happened.items c.end_stages-ends.new.happened.items (starting_events c.args.spool.now ts) (ending_events es)
          c.start_free-fault.ensures.capacity (omega (arith, flags)) (omega (arith, keys, few, looked_at, reported, ripe_some)) noted ends_noted,
    )

-- Nothing is staged between the parts.
pub launch_all-launches-requires-clause-settled : goal.launch_all-launches-requires-clause-settled
launch_all-launches-requires-clause-settled g c =
    let (ts, starts, queues, fault, noted) = c.start_free-fault.ensures.starts in
    starts_settled g.D.Disk.device c.args.spool.now ts c.start_free-fault.new.spool c.requires.settled starts

pub end_stages-ends-requires : goal.end_stages-ends-requires
end_stages-ends-requires g c =
    let (ts, starts, queues, fault, noted) = c.start_free-fault.ensures.starts in
    let (ls, launches, reads, launched, started, later) = c.launch_all-launches.ensures in
    record {
      settled =
          reads_settled g.D.Disk.device c.start_free-fault.new.spool ls c.launch_all-launches.new.spool
          (starts_settled g.D.Disk.device c.args.spool.now ts c.start_free-fault.new.spool c.requires.settled starts) reads;
    }

pub returns-then-is_dead-2-clause-settled : goal.returns-then-is_dead-2-clause-settled
returns-then-is_dead-2-clause-settled g c =
    let (ts, starts, queues, fault, noted) = c.start_free-fault.ensures.starts in
    starts_settled g.D.Disk.device c.args.spool.now ts c.start_free-fault.new.spool c.requires.settled starts

pub returns-clause-settled : goal.returns-clause-settled
returns-clause-settled g c =
    let (ts, starts, queues, fault, noted) = c.start_free-fault.ensures.starts in
    let (ls, launches, reads, launched, started, later) = c.launch_all-launches.ensures in
    let (es, ends, ended, told, last, ends_noted) = c.end_stages-ends.ensures.ends in
    ends_settled g.D.Disk.device _ es (run_state c.end_stages-ends.new.spool c.end_stages-ends.new.runner (g.C.Children.tells c.end_stages-ends.new.children))
    (reads_settled g.D.Disk.device c.start_free-fault.new.spool ls c.launch_all-launches.new.spool
    (starts_settled g.D.Disk.device c.args.spool.now ts c.start_free-fault.new.spool c.requires.settled starts) reads) ends
