-- Each round, tick and run is a call of a StageHistory.
use Rattle.std.proofs.Common.{◌≡◌, ◌⊎◌, inl, inr, ℕ, true, false, Bool, List, [], ◌∷◌, ◌++◌, Some, None, Option, Result, Ok, Err, refl, sym, ap, subst, ◌∙◌, append_assoc, append-nil}
use Rattle.std.specs.List.{flat_map}
use Rattle.std.proofs.lemmas.Bool.{both_ways}
use Rattle.spool_types.specs.declared.event.Event.{Event}
use Rattle.spool_types.specs.declared.event.Reply.{Reply}
use Rattle.spool_types.specs.declared.refusal.Refusal.{Refusal}
use Rattle.spool_types.specs.State.{State}
use Rattle.job_table.specs.EventFold.{after_all, after_one, accepted, if_accepted, unless_refused, AreAccepted}
use Rattle.job_table.specs.Legal.{IsLegal}
use Rattle.job_table.specs.Stages.{Key, IsIn, IsSpent}
use Rattle.job_table.specs.Step.{step, refusal_of, answered, after, reply_to}
use Rattle.job_table.specs.TableVersions.{raised}
use Rattle.spool_types.specs.declared.version.Version.TheVariants.{Two}
use Rattle.spool_core.specs.OpenSpools.{OpenSpool}
use Rattle.spool_core.specs.Checkpointing.{IsCheckpoint}
use Rattle.spool_core.specs.declared.spool.checkpoint_fault.CheckpointFault.{CheckpointFault}
use Rattle.spool_core.specs.declared.spool.checkpoint_fault.CheckpointFault.TheVariants as listing
use Rattle.spool_disk.specs.Disk.{DiskView}
use Rattle.command_lines.specs.declared.command.Command.{Command}
use Rattle.child_pipeline.specs.Tickets.{HasTickets}
use Rattle.child_pipeline.specs.ChildTraces.{ChildTrace}
use Rattle.print_rounds.specs.Counts.{AreAcknowledged}
use Rattle.print_rounds.specs.RunStates.{RunState}
use Rattle.print_rounds.specs.Rounds.{events_in}
use Rattle.print_rounds.specs.StageHistory.{IsBegunSlot, IsStageCall}
use Rattle.print_rounds.proofs.PrefixLaws.{after_both}
use Rattle.spool_engine.specs.EventSteps.{listed, tried_as, Setting, Outcome, served, no_memory, full, disk, dead, unread, unreadable, unlisted, IsTaken, IsLeft, IsServedBy, IsOutcome}
use Rattle.spool_engine.specs.EngineRounds.{Ran, IsRoundWith, IsRan, IsSettled, AreRan, AreRunBy}
use Rattle.spool_engine.specs.EngineTicks.{Ticked, IsTickWith, IsTicked}
use Rattle.spool_engine.specs.EngineRuns.{tried_by, tried_in, CommandStep, How, answered as replied, ran, withheld, event_step, IsHow, IsHeld as HasSlotsOf, KeepVersion, AreCommandSteps, commands_in, last_run_state}
use Rattle.spool_engine.specs.StagedSteps.{SettlesTo}
use Rattle.spool_engine.specs.EngineCalls.{Call, round_call, tick_call, run_call, stage_call, settle_call, left_by, IsCall, IsTicketedCall, IsQuietCall, IsTicketRun, tried_in_steps}
use Rattle.spool_engine.specs.Script.{event_in, event_of, Meaning, says, asks, lists, runs, meaning}
use Rattle.spool_engine.specs.Mime.{Mime}
use Rattle.spool_engine.proofs.ExactLaws.{VersionLaw, is_listing, lists_none, raised_same}
use Rattle.spool_engine.proofs.SettleLaws.{begun_then, no_tickets}

-- ## The events that were tried

accepted_all : (s : State) (es : List Event) → AreAccepted s es → accepted s es ≡ es
accepted_all s [] all = refl
accepted_all s (e ∷ es) (first, others) =
    ap (if_accepted e (accepted (after_one s e) es)) first
    ∙ ap (λ u. e ∷ accepted u es) (ap (unless_refused s e) first)
    ∙ ap (λ l. e ∷ l) (accepted_all (after s e) es others)

skipped_first : (s : State) (e : Event) (es : List Event) (o : Option Refusal) → refusal_of s e ≡ o → after_all (after_one s e) (accepted (after_one s e) es) ≡ after_all (after_one s e) es
    → after_all s (if_accepted e (accepted (after_one s e) es) o) ≡ after_all (after_one s e) es
skipped_first s e es None taken rest = rest
skipped_first s e es (Some x) refused rest = ap (λ u. after_all u (accepted (after_one s e) es)) (sym (ap (unless_refused s e) refused)) ∙ rest

skipped : (s : State) (es : List Event) → after_all s (accepted s es) ≡ after_all s es
skipped s [] = refl
skipped s (e ∷ es) = skipped_first s e es (refusal_of s e) refl (skipped (after_one s e) es)

accepted_first : (e : Event) (es fs : List Event) (o : Option Refusal) → if_accepted e (es ++ fs) o ≡ if_accepted e es o ++ fs
accepted_first e es fs None = refl
accepted_first e es fs (Some x) = refl

accepted_append : (s : State) (es fs : List Event) → accepted s (es ++ fs) ≡ accepted s es ++ accepted (after_all s es) fs
accepted_append s [] fs = refl
accepted_append s (e ∷ es) fs =
    ap (λ l. if_accepted e l (refusal_of s e)) (accepted_append (after_one s e) es fs)
    ∙ accepted_first e (accepted (after_one s e) es) (accepted (after_all (after_one s e) es) fs) (refusal_of s e)

-- A refused event adds nothing to the accepted ones.
refused_alone : (s : State) (e : Event) (refusal : Refusal) (o : Option Refusal) → answered s e o ≡ Err refusal → [] ≡ if_accepted e (accepted (after_one s e) []) o
refused_alone s e refusal None is = absurd (cc)
refused_alone s e refusal (Some x) is = refl

-- If no event was tried, none was acknowledged.
never_more : (xs : List Event) (x : Event) → [] ≡ xs ++ x ∷ [] → ⊥
never_more [] x is = cc
never_more (y ∷ xs) x is = cc

none_acknowledged : (over : Bool) (tried acknowledged : List Event) → AreAcknowledged over tried acknowledged → tried ≡ [] → acknowledged ≡ []
none_acknowledged over tried acknowledged hand none = elim hand [
  | inl all ↦ sym all ∙ none
  | inr failed ↦ absurd (never_more acknowledged failed.1 (sym none ∙ failed.2))
]

-- The events that were acknowledged first, followed by more. After a fault of the device no event is tried.
acknowledged_both : (over then : Bool) (tried others a b : List Event) → AreAcknowledged over tried a → AreAcknowledged then others b → (over ≡ true → others ≡ []) → (over ≡ true → then ≡ true) → AreAcknowledged then (tried ++ others) (a ++ b)
acknowledged_both over then tried others a b (inl all) (inl rest) none stays = inl (ap (λ l. l ++ others) all ∙ ap (λ l. a ++ l) rest)
acknowledged_both over then tried others a b (inl all) (inr failed) none stays =
    inr (failed.0, failed.1, ap (λ l. l ++ others) all ∙ ap (λ l. a ++ l) failed.2 ∙ sym (append_assoc a b (failed.1 ∷ [])))
acknowledged_both over then tried others a b (inr failed) later none stays =
    let nothing : others ≡ [] = none failed.0 in
    let empty : b ≡ [] = none_acknowledged then others b later nothing in
    inr (stays failed.0, failed.1, ap (λ l. tried ++ l) nothing ∙ append-nil tried ∙ failed.2 ∙ ap (λ l. l ++ failed.1 ∷ []) (sym (append-nil a) ∙ ap (λ l. a ++ l) (sym empty)))

-- The accepted events of both parts.
accepted_both : (s t : State) (a b more further : List Event) → more ≡ accepted s a → t ≡ after_all s more → further ≡ accepted t b → more ++ further ≡ accepted s (a ++ b)
accepted_both s t a b more further taken table then =
    ap (λ l. l ++ further) taken
    ∙ ap (λ l. accepted s a ++ l) (then ∙ ap (λ u. accepted u b) (table ∙ ap (after_all s) taken ∙ skipped s a))
    ∙ sym (accepted_append s a b)

-- ## The table after a call

-- The table is that after the events, or a checkpoint has raised its version.
abbrev pub IsBehind : Bool → State → List Event → State → Type 0
IsBehind raises s events s' = (s' ≡ after_all s events) ⊎ ((raises ≡ true) × (events ≡ []) × (s' ≡ raised s))

-- If no checkpoint raises the version, the table is that after the events.
exact_behind : (raises : Bool) (s : State) (events : List Event) (s' : State) → IsBehind raises s events s' → (s.version ≡ Two) ⊎ (raises ≡ false) → s' ≡ after_all s events
exact_behind raises s events s' (inl is) keeps = is
exact_behind raises s events s' (inr (raised_it, none, is)) (inl newest) = is ∙ raised_same s newest ∙ ap (after_all s) (sym none)
exact_behind raises s events s' (inr (raised_it, none, is)) (inr plain) = absurd (both_ways _ plain raised_it)

-- The same row exists in the newest version.
in_raised : (s : State) (k : Key) → IsIn s k → IsIn (raised s) k
in_raised s k now = record { row = now.row; stages = now.stages; there = now.there; phase = now.phase }

-- A table that is legal in the newest version is legal, since only its rows count.
legal_rows : (s : State) → IsLegal (raised s) → IsLegal s
legal_rows s legal = record { few_queues = legal.few_queues; names = legal.names; in_order = legal.in_order; numbers = legal.numbers; jobs = legal.jobs; one_processing = legal.one_processing }

-- The laws of legal tables and of calls.
pub record Laws (D : Type 0) : Type 0 where
  pub legal : (s : State) (events : List Event) → IsLegal s → IsLegal (after_all s events)
  pub left : (s : State) (k : Key) (events : List Event) → IsLegal s → IsIn s k → IsIn (after_all s events) k ⊎ IsSpent (after_all s events) k
  pub rises : (s : State) (events : List Event) → AreAccepted s events → AreAccepted (raised s) events × (after_all (raised s) events ≡ raised (after_all s events))
  pub raised_legal : (s : State) → IsLegal s → IsLegal (raised s)
  pub version : VersionLaw
  pub joined : (old mid new : RunState D) (t : ChildTrace) (more further : List Event) (one : IsStageCall t old more mid) → IsStageCall one.now mid further new → IsStageCall t old (more ++ further) new

pub some_same : (x y : ChildTrace) → Some x ≡ Some y → x ≡ y
some_same x y e = cc

-- The children report this trace, and the slots have the tickets of the running ones.
abbrev pub IsTold : {D : Type 0} → ChildTrace → RunState D → Type 0
IsTold t s = (s.told ≡ Some t) × HasTickets s.slots t

-- A call, and the table after it. If no child ran before it, none runs after it.
pub record IsStepped {D : Type 0} (t : ChildTrace) (old : RunState D) (raises : Bool) (tried : List Event) (new : RunState D) : Type 0 where
  pub turn : IsTicketedCall t old tried new
  pub behind : IsBehind raises old.spool.state turn.0 new.spool.state
  pub quiet : t.running ≡ [] → turn.1.now.running ≡ []

-- A call of a StageHistory, after which the slots have the tickets.
abbrev pub IsTicketCall : {D : Type 0} → ChildTrace → RunState D → RunState D → Type 0
IsTicketCall t old new = (more : List Event) × (c : IsStageCall t old more new) × HasTickets new.slots c.now

module _ {D : Type 0} (laws : Laws D) (t : ChildTrace) where
  behind_raised : (raises : Bool) (s : State) (events : List Event) (s' : State) → AreAccepted s events → IsBehind raises s events s' → raised s' ≡ after_all (raised s) events
  behind_raised raises s events s' taken (inl is) = ap raised is ∙ sym (laws.rises s events taken).1
  behind_raised raises s events s' taken (inr (raised_it, none, is)) = ap raised is ∙ ap (after_all (raised s)) (sym none)

  behind_left : (raises : Bool) (s : State) (events : List Event) (s' : State) (k : Key) → IsLegal s → IsBehind raises s events s' → IsIn s k → IsIn s' k ⊎ IsSpent s' k
  behind_left raises s events s' k legal (inl is) now = subst (λ u. IsIn u k ⊎ IsSpent u k) (sym is) (laws.left s k events legal now)
  behind_left raises s events s' k legal (inr (raised_it, none, is)) now = inl (subst (λ u. IsIn u k) (sym is) (in_raised s k now))

  -- Events without a round do not change the slots.
  pub plain_call : (old new : RunState D) (raises : Bool) (events : List Event) → IsLegal old.spool.state → IsTold t old → AreAccepted old.spool.state events → IsBehind raises old.spool.state events new.spool.state
      → HasSlotsOf old new → (old.spool.dead ≡ true → new.spool.dead ≡ true) → (c : IsStageCall t old events new) × HasTickets new.slots c.now × (t.running ≡ [] → c.now.running ≡ [])
  plain_call old new raises events legal tells taken behind held over = (
    record {
      now = t;
      tells = held.told ∙ tells.0;
      orders = [];
      added = sym (append-nil t.orders);
      turn = record {
        legal = legal;
        accepted = (laws.rises old.spool.state events taken).0;
        table = behind_raised raises old.spool.state events new.spool.state taken behind;
        distinct = tt;
        outside = λ k among. absurd among;
        reached = λ k among. absurd among;
        settled = λ alive k some. elim some [
          | inl before ↦ elim (behind_left raises old.spool.state events new.spool.state k legal behind before.0) [
            | inl still ↦ inl (still, subst (λ m. IsBegunSlot m k) (sym held.slots) before.1)
            | inr gone ↦ inr gone
          ]
          | inr none ↦ absurd none
        ];
      };
      after_over = λ died. (refl, over died);
    },
    subst (λ m. HasTickets m t) (sym held.slots) tells.1,
    λ quiet. quiet,
  )

  plain_with : (old new : RunState D) (raises : Bool) (events tried : List Event) → IsLegal old.spool.state → IsTold t old → AreAccepted old.spool.state events → IsBehind raises old.spool.state events new.spool.state
      → HasSlotsOf old new → (old.spool.dead ≡ true → new.spool.dead ≡ true)
      → ((acknowledged : List Event) × AreAcknowledged new.spool.dead tried acknowledged × (events ≡ accepted old.spool.state acknowledged)) → (old.spool.dead ≡ true → tried ≡ []) → IsStepped t old raises tried new
  plain_with old new raises events tried legal tells taken behind held over acknowledged none =
      let one = plain_call old new raises events legal tells taken behind held over in
      record { turn = (events, one.0, one.1, acknowledged, none); behind = behind; quiet = one.2 }

  -- All events were acknowledged.
  plain_turn : (old new : RunState D) (raises : Bool) (events : List Event) → IsLegal old.spool.state → IsTold t old → AreAccepted old.spool.state events → IsBehind raises old.spool.state events new.spool.state
      → HasSlotsOf old new → (old.spool.dead ≡ true → new.spool.dead ≡ true) → (old.spool.dead ≡ true → events ≡ []) → IsStepped t old raises events new
  plain_turn old new raises events legal tells taken behind held over none =
      plain_with old new raises events events legal tells taken behind held over (events, inl refl, sym (accepted_all old.spool.state events taken)) none

  still_turn : (old new : RunState D) (raises : Bool) → IsLegal old.spool.state → IsTold t old → new.spool ≡ old.spool → HasSlotsOf old new → IsStepped t old raises [] new
  still_turn old new raises legal tells same held = plain_turn old new raises [] legal tells tt (inl (ap (λ (x : OpenSpool D). x.state) same)) held (λ died. ap (λ (x : OpenSpool D). x.dead) same ∙ died) (λ died. refl)

  -- ## A command with at most one event

  done_state : (s : State) (e : Event) (new : State) (reply : Reply) → refusal_of s e ≡ None → step s e ≡ Ok (new, reply) → new ≡ after_all s (e ∷ [])
  done_state s e new reply accepted stepped =
      let both : Ok (after s e, reply_to s e) ≡ Ok (new, reply) = sym (ap (answered s e) accepted) ∙ stepped in
      sym (ap (unless_refused s e) accepted ∙ ap state_in both)
    where
      state_in : Result (State × Reply) Refusal → State
      state_in (Ok p) = p.0
      state_in (Err r) = s

  taken_turn : (old new : RunState D) (raises : Bool) (e : Event) (answer : Result (State × Reply) Refusal) → step old.spool.state e ≡ answer → IsLegal old.spool.state → IsTold t old → HasSlotsOf old new → IsTaken old.spool e answer new.spool → IsStepped t old raises (e ∷ []) new
  taken_turn old new raises e (Ok r) stepped legal tells held done =
      plain_turn old new raises (e ∷ []) legal tells (done.fits.accepted, tt) (inl (done_state old.spool.state e new.spool.state r.1 done.fits.accepted done.step)) held
      (λ died. absurd (both_ways _ done.fits.alive died)) (λ died. absurd (both_ways _ done.fits.alive died))
  taken_turn old new raises e (Err refusal) stepped legal tells held refused =
      plain_with old new raises [] (e ∷ []) legal tells tt (inl (ap (λ (x : OpenSpool D). x.state) refused.1)) held (λ died. ap (λ (x : OpenSpool D). x.dead) refused.1 ∙ died)
      (e ∷ [], inl refl, refused_alone old.spool.state e refusal (refusal_of old.spool.state e) stepped) (λ died. absurd (both_ways _ refused.0 died))

  -- ## A checkpoint

  unlisted_turn : (device : DiskView D) (old new : RunState D) (raises : Bool) (fault : CheckpointFault) → IsLegal old.spool.state → IsTold t old → HasSlotsOf old new → IsCheckpoint device old.spool (Err fault) new.spool → IsStepped t old raises [] new
  unlisted_turn device old new raises listing.Dead legal tells held is = still_turn old new raises legal tells is.1 held
  unlisted_turn device old new raises listing.EpochEnd legal tells held is = still_turn old new raises legal tells is.2 held
  unlisted_turn device old new raises listing.Memory legal tells held is = still_turn old new raises legal tells is.1 held
  unlisted_turn device old new raises listing.Full legal tells held is = still_turn old new raises legal tells is.2 held
  unlisted_turn device old new raises listing.Disk legal tells held is = plain_turn old new raises [] legal tells tt (inl is.state) held (λ died. is.dead) (λ died. refl)

  -- ## By its outcome

  left_turn : (device : DiskView D) (old new : RunState D) (raises : Bool) (c : Command) → IsLegal old.spool.state → IsTold t old → HasSlotsOf old new → IsLeft device old.spool c new.spool → IsStepped t old raises [] new
  left_turn device old new raises c legal tells held left = elim left [
    | inl same ↦ still_turn old new raises legal tells same held
    | inr read ↦ plain_turn old new raises [] legal tells tt (inl read.1.state) held (λ died. read.1.dead ∙ died) (λ died. refl)
  ]

  served_turn : (device : DiskView D) (old new : RunState D) (w : Meaning) (reply : List ℕ) → IsLegal old.spool.state → IsTold t old → HasSlotsOf old new → IsServedBy device old.spool w reply new.spool → IsStepped t old (is_listing w) (listed (event_in w)) new
  served_turn device old new (says text) reply legal tells held is = still_turn old new false legal tells is.1 held
  served_turn device old new (asks e line) reply legal tells held is = taken_turn old new false e (step old.spool.state e) refl legal tells held is.1
  served_turn device old new lists reply legal tells held is = plain_turn old new true [] legal tells tt (inr (refl, refl, is.1.state)) held (λ died. absurd (both_ways _ is.1.may.alive died)) (λ died. refl)
  served_turn device old new (runs most line) reply legal tells held is = absurd is

  outcome_turn : (v : Setting D) (old : RunState D) (turn : CommandStep D) (o : Outcome) → IsLegal old.spool.state → IsTold t old → HasSlotsOf old turn.next → IsOutcome v old.spool (event_step turn o) o
      → IsStepped t old (is_listing (meaning v.mime old.spool.state turn.document turn.command)) (tried_as (event_of v.mime old.spool.state turn.document turn.command) o) turn.next
  outcome_turn v old turn served legal tells held is = served_turn v.device old turn.next (meaning v.mime old.spool.state turn.document turn.command) turn.text legal tells held is
  outcome_turn v old turn no_memory legal tells held is = left_turn v.device old turn.next _ turn.command legal tells held is.cause.2
  outcome_turn v old turn full legal tells held is = left_turn v.device old turn.next _ turn.command legal tells held is.cause.1
  outcome_turn v old turn disk legal tells held is =
      plain_with old turn.next _ [] (listed (event_of v.mime old.spool.state turn.document turn.command)) legal tells tt (inl is.cause.state) held (λ died. is.cause.dead)
      ([], inr (is.cause.dead, is.event, ap listed is.is), refl) (λ died. absurd (both_ways _ is.cause.fits.alive died))
  outcome_turn v old turn dead legal tells held is = still_turn old turn.next _ legal tells is.cause.1 held
  outcome_turn v old turn unread legal tells held is = still_turn old turn.next _ legal tells is.same held
  outcome_turn v old turn unreadable legal tells held is = plain_turn old turn.next _ [] legal tells tt (inl is.fails.cause.1.state) held (λ died. is.fails.cause.1.dead) (λ died. refl)
  outcome_turn v old turn (unlisted fault) legal tells held is = unlisted_turn v.device old turn.next _ fault legal tells held is.cause

  -- ## A round

  same_turn : (old new : RunState D) (raises : Bool) → IsLegal old.spool.state → IsTold t old → new ≡ old → IsStepped t old raises [] new
  same_turn old new raises legal tells same = still_turn old new raises legal tells (ap (λ (c : RunState D). c.spool) same) (record { slots = ap (λ (c : RunState D). c.slots) same; told = ap (λ (c : RunState D). c.told) same })

  pub same_call : (old : RunState D) → IsLegal old.spool.state → IsTold t old → IsTicketCall t old old
  same_call old legal tells =
      let one = plain_call old old false [] legal tells tt (inl refl) (record { slots = refl; told = refl }) (λ died. died) in
      ([], one.0, one.1)

  -- The running children were waited for.
  settle_turned : (old settled : RunState D) → IsLegal old.spool.state → IsTold t old → IsSettled old settled → IsStepped t old false [] settled
  settle_turned old settled legal tells is =
      let off = is.finished t tells.0 tells.1 in
      let (fs, steps, jobs) = is.steps in
      let table : settled.spool.state ≡ old.spool.state = ap (λ (x : OpenSpool D). x.state) is.spool in
      let behind : IsBehind false old.spool.state [] settled.spool.state = inl table in
      record {
        turn = (
          [],
          record {
            now = off.now;
            tells = off.tells;
            orders = [];
            added = off.orders ∙ sym (append-nil t.orders);
            turn = record {
              legal = legal;
              accepted = (laws.rises old.spool.state [] tt).0;
              table = behind_raised false old.spool.state [] settled.spool.state tt behind;
              distinct = tt;
              outside = λ k among. absurd among;
              reached = λ k among. absurd among;
              settled = λ alive k some. elim some [
                | inl before ↦ inl (subst (λ u. IsIn u k) (sym table) before.0, begun_then fs old.slots old.told settled.slots settled.told k steps before.1)
                | inr none ↦ absurd none
              ];
            };
            after_over = λ died. (refl, ap (λ (x : OpenSpool D). x.dead) is.spool ∙ died);
          },
          no_tickets settled.slots off.now is.rest off.none,
          ([], inl refl, refl),
          λ died. refl,
        );
        behind = behind;
        quiet = λ quiet. off.none;
      }

  -- The trace after a round whose children have all been finished.
  pub quiet_after : (v : Setting D) (old : RunState D) (r : Ran D) → IsRan v old r → r.settled.told ≡ Some t → t.running ≡ [] → (now : ChildTrace) → r.next.told ≡ Some now → now.running ≡ []
  quiet_after v old r is tells quiet now tells' =
      let (js, once) = is.finished t tells quiet in
      ap (λ (u : ChildTrace). u.running) (some_same now once.now (sym tells' ∙ once.tells)) ∙ once.finished.running

  -- A round that begins without running children.
  made_turned : (v : Setting D) (old : RunState D) (r : Ran D) → IsLegal r.settled.spool.state → IsTold t r.settled → t.running ≡ [] → IsRan v old r → IsStepped t r.settled false r.tried r.next
  made_turned v old r legal tells quiet is = by_death r.settled.spool.dead refl is.round
    where
      by_death : (b : Bool) → r.settled.spool.dead ≡ b → IsRoundWith v.device v.place r.settled b r → IsStepped t r.settled false r.tried r.next
      by_death true died round = subst (λ l. IsStepped t r.settled false l r.next) (sym round.1) (same_turn r.settled r.next false legal tells round.0.1)
      by_death false lives round = elim round [
        | inl unbegun ↦ subst (λ l. IsStepped t r.settled false l r.next) (sym unbegun.1) (same_turn r.settled r.next false legal tells unbegun.0.1)
        | inr made ↦
            let c = made.0.turn t tells.0 quiet in
            let events : List Event = events_in r.settled made.0.steps in
            let none = quiet_after v old r is tells.0 quiet c.now c.tells in
            record {
              turn = (
                events,
                c,
                no_tickets r.next.slots c.now is.rest none,
                (events, subst (λ l. AreAcknowledged r.next.spool.dead l events) (sym made.1) made.0.in_hand, sym (accepted_all r.settled.spool.state events made.0.accepted)),
                λ died. absurd (both_ways _ lives died),
              );
              behind = inl made.0.table;
              quiet = λ q. none;
            }
      ]

  -- ## A tick

  pub tick_turn : (v : Setting D) (old : RunState D) (k : Ticked D) → IsLegal old.spool.state → IsTold t old → IsTicked v old k → IsTicketedCall t old k.tried k.next
  tick_turn v old k legal tells is = by_death old.spool.dead refl is.tick
    where
      by_death : (b : Bool) → old.spool.dead ≡ b → IsTickWith v.device v.place old b k → IsTicketedCall t old k.tried k.next
      by_death true died tick = subst (λ l. IsTicketedCall t old l k.next) (sym tick.1) (same_turn old k.next false legal tells tick.0.1).turn
      by_death false lives tick = elim tick [
        | inl unbegun ↦ subst (λ l. IsTicketedCall t old l k.next) (sym unbegun.1) (same_turn old k.next false legal tells unbegun.0.1).turn
        | inr made ↦
            let c = made.0.turn t tells.0 tells.1 in
            let keeps = made.0.tickets t tells.0 tells.1 in
            let events : List Event = events_in old made.0.steps.parts in (
              events,
              c,
              subst (HasTickets k.next.slots) (some_same keeps.now c.now (sym keeps.tells ∙ c.tells)) keeps.tickets,
              (events, subst (λ l. AreAcknowledged k.next.spool.dead l events) (sym made.1) made.0.in_hand, sym (accepted_all old.spool.state events made.0.accepted)),
              λ died. absurd (both_ways _ lives died),
            )
      ]

-- ## Rounds and steps in order

module _ {D : Type 0} (laws : Laws D) where
  now_of_both : (t : ChildTrace) (old mid new : RunState D) (more further : List Event) (one : IsStageCall t old more mid) (two : IsStageCall one.now mid further new) → two.now ≡ (laws.joined old mid new t more further one two).now
  now_of_both t old mid new more further one two =
      let both = laws.joined old mid new t more further one two in
      some_same two.now both.now (sym two.tells ∙ both.tells)

  pub then_call : (t : ChildTrace) (old mid new : RunState D) (one : IsTicketCall t old mid) → IsTicketCall one.1.now mid new → IsTicketCall t old new
  then_call t old mid new (more, one, has) (further, two, has_then) =
      (more ++ further, laws.joined old mid new t more further one two, subst (HasTickets new.slots) (now_of_both t old mid new more further one two) has_then)

  pub legal_then : (t : ChildTrace) (old mid : RunState D) (more : List Event) → IsStageCall t old more mid → IsLegal mid.spool.state
  legal_then t old mid more one = legal_rows mid.spool.state (subst IsLegal (sym one.turn.table) (laws.legal (raised old.spool.state) more (laws.raised_legal old.spool.state one.turn.legal)))

  -- Rounds do not raise the version.
  then_round : (t : ChildTrace) (old mid new : RunState D) (tried others : List Event) → (one : IsStepped t old false tried mid) → IsStepped one.turn.1.now mid false others new → IsStepped t old false (tried ++ others) new
  then_round t old mid new tried others first second =
      let (more, one, has, (a, hand, taken), none) = first.turn in
      let (further, two, has_then, (b, hand_then, taken_then), none_then) = second.turn in
      let table = exact_behind false old.spool.state more mid.spool.state first.behind (inr refl) in
      let same = now_of_both t old mid new more further one two in
      record {
        turn = (
          more ++ further,
          laws.joined old mid new t more further one two,
          subst (HasTickets new.slots) same has_then,
          (
            a ++ b,
            acknowledged_both mid.spool.dead new.spool.dead tried others a b hand hand_then none_then (λ died. (two.after_over died).1),
            accepted_both old.spool.state mid.spool.state a b more further taken table taken_then,
          ),
          λ died. ap (λ l. l ++ others) (none died) ∙ none_then (one.after_over died).1,
        );
        behind = inl (exact_behind false mid.spool.state further new.spool.state second.behind (inr refl) ∙ ap (λ s. after_all s further) table ∙ sym (after_both old.spool.state more further));
        quiet = λ quiet. sym (ap (λ (u : ChildTrace). u.running) same) ∙ second.quiet (first.quiet quiet);
      }

  -- A round first waits for the running children.
  round_behind : (v : Setting D) (t : ChildTrace) (old : RunState D) (r : Ran D) → IsLegal old.spool.state → IsTold t old → IsRan v old r → IsStepped t old false r.tried r.next
  round_behind v t old r legal tells is =
      let first = settle_turned laws t old r.settled legal tells is.settles in
      let c = first.turn.1 in
      let off = is.settles.finished t tells.0 tells.1 in
      let none : c.now.running ≡ [] = ap (λ (u : ChildTrace). u.running) (some_same c.now off.now (sym c.tells ∙ off.tells)) ∙ off.none in
      then_round t old r.settled r.next [] r.tried first (made_turned laws c.now v old r (legal_then t old r.settled first.turn.0 c) (c.tells, first.turn.2) none is)

  pub round_turn : (v : Setting D) (t : ChildTrace) (old : RunState D) (r : Ran D) → IsLegal old.spool.state → IsTold t old → IsRan v old r → IsQuietCall t old r.tried r.next
  round_turn v t old r legal tells is =
      let one = round_behind v t old r legal tells is in
      (one.turn, quiet_round one)
    where
      quiet_round : (one : IsStepped t old false r.tried r.next) → one.turn.1.now.running ≡ []
      quiet_round one =
          let off = is.settles.finished t tells.0 tells.1 in
          quiet_after laws off.now v old r is off.tells off.none one.turn.1.now one.turn.1.tells

  rounds_turn : (v : Setting D) (rs : List (Ran D)) (t : ChildTrace) (old new : RunState D) → IsLegal old.spool.state → IsTold t old → AreRan v old rs new → IsStepped t old false (flat_map (λ r. r.tried) rs) new
  rounds_turn v [] t old new legal tells same = same_turn laws t old new false legal tells same
  rounds_turn v (r ∷ rs) t old new legal tells (is, others) =
      let one = round_behind v t old r legal tells is in
      let c = one.turn.1 in
      then_round t old r.next new r.tried (flat_map (λ r. r.tried) rs) one (rounds_turn v rs c.now r.next new (legal_then t old r.next one.turn.0 c) (c.tells, one.turn.2) others)

  run_turn : (v : Setting D) (w : Meaning) (t : ChildTrace) (old new : RunState D) (rs : List (Ran D)) (reply : List ℕ) → IsLegal old.spool.state → IsTold t old → AreRunBy v w old rs new reply → IsStepped t old (is_listing w) (flat_map (λ r. r.tried) rs) new
  run_turn v (says text) t old new rs reply legal tells is = absurd is
  run_turn v (asks e line) t old new rs reply legal tells is = absurd is
  run_turn v lists t old new rs reply legal tells is = absurd is
  run_turn v (runs most line) t old new rs reply legal tells is = rounds_turn v rs t old new legal tells is.each

  how_behind : (v : Setting D) (t : ChildTrace) (old : RunState D) (turn : CommandStep D) (how : How D) → IsLegal old.spool.state → IsTold t old → IsHow v old turn how
      → IsStepped t old (is_listing (meaning v.mime old.spool.state turn.document turn.command)) (tried_by (event_of v.mime old.spool.state turn.document turn.command) how) turn.next
  how_behind v t old turn (replied outcome) legal tells is = outcome_turn laws t v old turn outcome legal tells is.1 is.0
  how_behind v t old turn withheld legal tells is = same_turn laws t old turn.next _ legal tells is.same
  how_behind v t old turn (ran rs) legal tells is = run_turn v (meaning v.mime old.spool.state turn.document turn.command) t old turn.next rs turn.text legal tells is

  pub how_turn : (v : Setting D) (t : ChildTrace) (old : RunState D) (turn : CommandStep D) → IsLegal old.spool.state → IsTold t old → IsHow v old turn turn.how → (one : IsTicketCall t old turn.next) × (t.running ≡ [] → one.1.now.running ≡ [])
  how_turn v t old turn legal tells is = let one = how_behind v t old turn turn.how legal tells is in ((one.turn.0, one.turn.1, one.turn.2), one.quiet)

  -- A run. If no child ran before it, none runs after it.
  abbrev pub IsRunStepped : Mime → ChildTrace → RunState D → List (CommandStep D) → Type 0
  IsRunStepped m t old turns = (one : IsTicketRun t m old turns) × (t.running ≡ [] → one.1.now.running ≡ [])

  -- A step, followed by more.
  then_turns : (v : Setting D) (t : ChildTrace) (old : RunState D) (turn : CommandStep D) (turns : List (CommandStep D)) → (one : IsStepped t old (is_listing (meaning v.mime old.spool.state turn.document turn.command)) (tried_in v.mime old turn) turn.next)
      → IsRunStepped v.mime one.turn.1.now turn.next turns → IsRunStepped v.mime t old (turn ∷ turns)
  then_turns v t old turn turns first ((further, two, has_then, (b, hand_then, taken_then, kept_then), none_then), quiet_then) =
      let (more, one, has, (a, hand, taken), none) = first.turn in
      let tried = tried_in v.mime old turn in
      let others = tried_in_steps v.mime turn.next turns in
      let same = now_of_both t old turn.next (last_run_state turn.next turns) more further one two in (
        (
          more ++ further,
          laws.joined old turn.next (last_run_state turn.next turns) t more further one two,
          subst (HasTickets (last_run_state turn.next turns).slots) same has_then,
          (
            a ++ b,
            acknowledged_both turn.next.spool.dead (last_run_state turn.next turns).spool.dead tried others a b hand hand_then none_then (λ died. (two.after_over died).1),
            (a, b, further, hand, refl, ap (λ l. l ++ further) taken, taken_then),
            kept,
          ),
          λ died. ap (λ l. l ++ others) (none died) ∙ none_then (one.after_over died).1,
        ),
        λ quiet. sym (ap (λ (u : ChildTrace). u.running) same) ∙ quiet_then (first.quiet quiet),
      )
    where
      state : State
      state = old.spool.state

      -- No checkpoint raises the version.
      kept : KeepVersion state (commands_in (turn ∷ turns)) → first.turn.0 ++ further ≡ accepted state (first.turn.3.0 ++ b)
      kept keeps =
          let here : (state.version ≡ Two) ⊎ (is_listing (meaning v.mime state turn.document turn.command) ≡ false) = elim keeps [
            | inl newest ↦ inl newest
            | inr none ↦ inr (lists_none v.mime state turn.document turn.command none.0)
          ] in
          let table : turn.next.spool.state ≡ after_all state first.turn.0 = exact_behind (is_listing (meaning v.mime state turn.document turn.command)) state first.turn.0 turn.next.spool.state first.behind here in
          let then : KeepVersion turn.next.spool.state (commands_in turns) = elim keeps [
            | inl newest ↦ inl (ap (λ (s : State). s.version) table ∙ laws.version state first.turn.0 ∙ newest)
            | inr none ↦ inr none.1
          ] in
          accepted_both state turn.next.spool.state first.turn.3.0 b first.turn.0 further first.turn.3.2 table (kept_then then)

  pub turns_turn : (v : Setting D) (turns : List (CommandStep D)) (t : ChildTrace) (old : RunState D) → IsLegal old.spool.state → IsTold t old → AreCommandSteps v old turns → IsRunStepped v.mime t old turns
  turns_turn v [] t old legal tells are =
      let one = plain_call laws t old old false [] legal tells tt (inl refl) (record { slots = refl; told = refl }) (λ died. died) in
      (([], one.0, one.1, ([], inl refl, (refl, refl), λ keeps. refl), λ died. refl), one.2)
  turns_turn v (turn ∷ turns) t old legal tells (first, others) =
      let one = how_behind v t old turn turn.how legal tells first.how in
      let c = one.turn.1 in
      then_turns v t old turn turns one (turns_turn v turns c.now turn.next (legal_then t old turn.next one.turn.0 c) (c.tells, one.turn.2) others)

  -- All staged events become durable.
  settled_turn : (device : DiskView D) (t : ChildTrace) (s next : RunState D) → IsLegal s.spool.state → IsTold t s → SettlesTo device s next → IsTicketCall t s next
  settled_turn device t s next legal tells is =
      let one = plain_call laws t s next false [] legal tells tt (inl is.spool.state) is.held (λ died. ap (λ (x : OpenSpool D). x.dead) (is.spool.died died) ∙ died) in
      ([], one.0, one.1)

  -- A call of any kind.
  pub call_turn : (v : Setting D) (t : ChildTrace) (s : RunState D) (c : Call D) → IsLegal s.spool.state → IsTold t s → IsCall v s c → IsTicketCall t s (left_by s c)
  call_turn v t s (round_call r) legal tells (both, is) = let one = round_turn v t s r legal tells is in (one.0.0, one.0.1, one.0.2)
  call_turn v t s (tick_call k) legal tells (both, is) = let one = tick_turn laws t v s k legal tells is in (one.0, one.1, one.2)
  call_turn v t s (run_call turns) legal tells (both, is) = let one = turns_turn v turns t s legal tells is in (one.0.0, one.0.1, one.0.2)
  call_turn v t s (stage_call turn) legal tells is = (how_turn v t s turn legal tells is.how).0
  call_turn v t s (settle_call next) legal tells is = settled_turn v.device t s next legal tells is
