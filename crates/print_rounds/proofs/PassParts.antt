-- A pass, from its parts.
use Rattle.std.proofs.Common.{◌≡◌, ◌≤◌, inr, ℕ, Bool, true, false, List, [], ◌++◌, length, map, Option, Result, refl, sym, ap, subst, ◌∙◌}
use Rattle.std.specs.Option.{option_or}
use Rattle.std.specs.FinMap as finite
use Rattle.spool_disk.specs.Disk.{DiskView}
use Rattle.spool_types.specs.declared.rows.QueueRow.{QueueRow}
use Rattle.spool_types.specs.State.{State}
use Rattle.spool_core.specs.OpenSpools.{OpenSpool}
use Rattle.filter_args.specs.declared.place.Place.{Place}
use Rattle.child_pipeline.specs.StageSlots.{Slots}
use Rattle.child_pipeline.specs.ChildTraces.{ChildTrace}
use Rattle.print_rounds.specs.declared.start_room.StartRoom.{StartRoom}
use Rattle.print_rounds.specs.Counts.{counts_of, ending_events, result_of, starting_events, starting_fault, stages_fault}
use Rattle.print_rounds.specs.RunStates.{RunState, run_state, Starting, AreStartings, Launching, AreLaunchings, AreReads, Ending, AreEndings}
use Rattle.print_rounds.specs.StageChecks.{Look, AreLooks, Dropping, AreDroppings, idle_slots, tended_jobs, idle_among, ripe_in, strays}
use Rattle.print_rounds.specs.Passes.{unblocked, jobs_tended, jobs_left}
use Rattle.print_rounds.specs.Happenings.{IsPassThat}
use Rattle.spool_types.specs.declared.event.Event.{Event}
use Rattle.print_rounds.specs.StartLimits.{AreChosen, rotated}
use Rattle.print_rounds.specs.Turns.{AreInTurn}
use Rattle.print_rounds.specs.declared.outcome.Round.{Round}
use Rattle.print_rounds.specs.declared.outcome.RoundFault.{RoundFault}
use Rattle.print_rounds.proofs.PlaceLaws.{in_turn_none}
use Rattle.print_rounds.proofs.RoundLaws.{or_none}
use Rattle.print_rounds.proofs.StartLaws.{queue_count, starts_keys}

-- A list with room for each queue has room for each after the starts.
pub room_left : {D : Type 0} (device : DiskView D) (old : OpenSpool D) (ts : List (Starting D)) (mid : OpenSpool D) → AreStartings device old ts mid → (t : State) → t ≡ old.state → (rows : List QueueRow) → map (λ row. row.name) rows ≡ finite.keys t.queues
    → (capacity : ℕ) → length rows ≤ capacity → (now : State) → now ≡ mid.state → length (finite.keys now.queues) ≤ capacity
room_left device old ts mid starts t same rows names capacity few now later =
    subst (λ n. n ≤ capacity)
    (queue_count rows (finite.keys t.queues) names ∙ ap (λ (s : State). length (finite.keys s.queues)) same ∙ sym (ap length (starts_keys device old ts mid starts)) ∙ sym (ap (λ (s : State). length (finite.keys s.queues)) later))
    few

-- The queues that are not marked are the chosen ones.
pub queues_chosen : (start_room : Option StartRoom) (names : List (List ℕ)) (slots : Slots) (now old : State) → now ≡ old → (given flags : List Bool) → given ≡ flags → AreChosen start_room now slots (unblocked flags (finite.keys now.queues)) → names ≡ unblocked given (finite.keys old.queues) → AreChosen start_room old slots names
queues_chosen start_room names slots now old same given flags are value is =
    subst (AreChosen start_room old slots) (sym (is ∙ ap (λ fs. unblocked fs (finite.keys old.queues)) are))
    (subst (λ (s : State). AreChosen start_room s slots (unblocked flags (finite.keys s.queues))) same value)

-- They are chosen in turn.
pub turn_chosen : (turn next : ℕ) (names : List (List ℕ)) (slots idle : Slots) (now old : State) → now ≡ old → (given flags : List Bool) → given ≡ flags → slots ≡ idle
    → AreInTurn turn next now slots (unblocked flags (finite.keys now.queues)) → names ≡ unblocked given (finite.keys old.queues) → AreInTurn turn next old idle names
turn_chosen turn next names slots idle now old same given flags are stay value is =
    subst (AreInTurn turn next old idle) (sym (is ∙ ap (λ fs. unblocked fs (finite.keys old.queues)) are))
    (subst (λ m. AreInTurn turn next old m (unblocked flags (finite.keys old.queues))) stay
    (subst (λ (s : State). AreInTurn turn next s slots (unblocked flags (finite.keys s.queues))) same value))

-- The slots are the retained ones. `Has` holds of the accepted events and of the queues that were to start a job.
module _ {D : Type 0} (Has : List Event → List (List ℕ) → Type 0) (device : DiskView D) (place : Place) (waits : Bool) (start_room : Option StartRoom) (old : RunState D) (alive : old.spool.dead ≡ false) (slots : Slots) (stay : slots ≡ idle_slots old.spool.state old.slots)
    (mid : OpenSpool D) (ts : List (Starting D)) (starts : AreStartings device old.spool ts mid) (queues : AreChosen start_room old.spool.state slots (map (λ t. t.queue) ts)) where
  abbrev idle : Slots
  idle = idle_slots old.spool.state old.slots

  queues_free : AreChosen start_room old.spool.state idle (map (λ t. t.queue) ts)
  queues_free = subst (λ m. AreChosen start_room old.spool.state m (map (λ t. t.queue) ts)) stay queues

  -- The device failed at a start.
  pub failed_pass : mid.dead ≡ true → (result : Result Round RoundFault) → result ≡ result_of (record { started = 0; finished = 0 }) (starting_fault ts) → Has (starting_events old.spool ts ++ []) (map (λ t. t.queue) ts) → IsPassThat Has device place waits start_room old old.spool.dead (run_state mid slots old.told) result
  failed_pass dead result answer has =
      subst (λ b. IsPassThat Has device place waits start_room old b (run_state mid slots old.told) result) (sym alive)
      (inr (
        record {
          steps = record {
            parts = record { startings = ts; mid = mid; launchings = []; read = mid; slots = slots; told = old.told; endings = [] };
            looks = [];
            looked = old.told;
            ended = run_state mid slots old.told;
            droppings = [];
          };
          made = record {
            starts = starts;
            queues = queues_free;
            launches = (stay, refl);
            reads = refl;
            launched = sym (in_turn_none start_room (idle_among idle (jobs_tended mid mid.dead idle)) (ap (λ b. idle_among idle (jobs_tended mid b idle)) dead));
            looks = refl;
            seen = sym (ap (λ b. jobs_tended mid b idle) dead);
            ends = refl;
            told = refl;
            drops = (refl, refl);
            left = sym (ap (λ b. jobs_left b (run_state mid slots old.told)) dead);
            spool = refl;
          };
          answer = answer ∙ ap (result_of (record { started = 0; finished = 0 })) (sym (or_none (starting_fault ts)));
        },
        has,
      ))

  -- The device still works.
  module _ (lives : mid.dead ≡ false) (js : List ℕ) (jobs : js ≡ tended_jobs mid.state slots (finite.keys mid.state.queues)) where
    tended : js ≡ jobs_tended mid mid.dead idle
    tended = jobs ∙ ap (λ m. tended_jobs mid.state m (finite.keys mid.state.queues)) stay ∙ sym (ap (λ b. jobs_tended mid b idle) lives)

    pub whole_pass : (ls : List Launching) (read : OpenSpool D) (slots' : Slots) (told' : Option ChildTrace) → AreLaunchings place mid.state slots old.told ls slots' told' → AreReads device mid ls read → map (λ l. l.job) ls ≡ rotated start_room (idle_among slots js)
        → (looks : List Look) (looked : Option ChildTrace) → AreLooks waits slots' told' looks looked → map (λ l. l.job) looks ≡ js
        → (es : List (Ending D)) (ended : RunState D) → AreEndings device (run_state read slots' looked) es ended → map (λ e. e.job) es ≡ ripe_in looks
        → (ds : List Dropping) (new : RunState D) → AreDroppings waits ended.slots ended.told ds new.slots new.told → map (λ d. d.look.job) ds ≡ strays ended.spool.state ended.slots → new.spool ≡ ended.spool
        → (result : Result Round RoundFault) → result ≡ result_of (counts_of ls es) (option_or (starting_fault ts) (stages_fault ls es)) → Has (starting_events old.spool ts ++ ending_events es) (map (λ t. t.queue) ts) → IsPassThat Has device place waits start_room old old.spool.dead new result
    whole_pass ls read slots' told' launches reads launched looks looked look seen es ended ends ripe ds new drops left spool result answer has =
        subst (λ b. IsPassThat Has device place waits start_room old b new result) (sym alive)
        (inr (
          record {
            steps = record {
              parts = record { startings = ts; mid = mid; launchings = ls; read = read; slots = slots'; told = told'; endings = es };
              looks = looks;
              looked = looked;
              ended = ended;
              droppings = ds;
            };
            made = record {
              starts = starts;
              queues = queues_free;
              launches = subst (λ m. AreLaunchings place mid.state m old.told ls slots' told') stay launches;
              reads = reads;
              launched = launched ∙ ap (λ m. rotated start_room (idle_among m js)) stay ∙ ap (λ ks. rotated start_room (idle_among idle ks)) tended;
              looks = look;
              seen = seen ∙ tended;
              ends = ends;
              told = ripe;
              drops = drops;
              left = left ∙ sym (ap (λ b. jobs_left b ended) lives);
              spool = spool;
            };
            answer = answer;
          },
          has,
        ))
