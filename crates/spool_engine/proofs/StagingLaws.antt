-- Steps whose events are staged.
use Rattle.std.proofs.Common.{◌≡◌, ◌⊎◌, ℕ, List, [], ◌∷◌, refl, ap, sym, ◌∙◌, subst, inl, inr, arith, true, false, Bool, Option, None, Some, Result, Ok, Err}
use Rattle.std.specs.Prelude.{◌≤◌, ◌↔◌, OnOk, IsErrOf, IsSome, IsTrue, codes}
use Rattle.spool_types.specs.declared.event.Event.{Event}
use Rattle.spool_types.specs.declared.event.Event.TheVariants as events
use Rattle.spool_types.specs.declared.event.Reply.{Reply}
use Rattle.spool_types.specs.declared.refusal.Refusal.{Refusal}
use Rattle.spool_types.specs.State.{State}
use Rattle.job_table.specs.Step.{answered, refusal_of, step}
use Rattle.gate_journal.specs.Entries.{open_gate}
use Rattle.gate_journal.specs.Staged.{shown}
use Rattle.spool_disk.specs.Disk.{DiskView, IsLawful, IsSynced, Blames, ChangesNothing, LeavesOnly, overwritten}
use Rattle.spool_disk.proofs.Moments.{at_return, runs_on, started, weaker_run}
use Rattle.command_lines.specs.Replies.{refusal_line}
use Rattle.command_lines.specs.declared.command.Command.{Command}
use Rattle.command_lines.specs.declared.command.Command.TheVariants.{Close}
use Rattle.child_pipeline.specs.ChildTraces.{ChildTrace}
use Rattle.child_pipeline.specs.StageSlots.{Slots}
use Rattle.spool_core.specs.Batch.{IsTableOf, HasBeforeOrAllEvents, HasWholeBeforeOrAll}
use Rattle.spool_core.specs.Driving.{documents_after}
use Rattle.spool_core.specs.Image.{HasTable, HasDocuments, HasWhole, documents_after_one}
use Rattle.spool_core.specs.OpenSpools.{OpenSpool, IsAnswer, IsSettled as NoneStaged, shown_bytes}
use Rattle.spool_areas.specs.declared.fault.ReadFault.{ReadFault}
use Rattle.spool_areas.specs.declared.fault.ReadFault.TheVariants as ReadFaults
use Rattle.spool_core.specs.declared.spool.apply_fault.ApplyFault.{ApplyFault}
use Rattle.spool_core.specs.declared.spool.apply_fault.ApplyFault.TheVariants.{Dead, Refused, Memory, Full, Disk}
use Rattle.print_rounds.specs.RunStates.{RunState}
use Rattle.print_rounds.specs.Rounds.{LeavesDocuments}
use Rattle.spool_engine.specs.Mime.{media_of}
use Rattle.spool_engine.specs.Script.{Documents, says, asks, meaning, closing_as, closing_of, closing_line, event_in, event_of, step_line, withheld_line, withholds}
use Rattle.spool_engine.specs.EventSteps.{Setting, Outcome, EventStep, served, no_memory, full, disk, dead, unread, unreadable, IsServedBy, IsTaken, IsOutcome, IsStill, IsCut, MayBeRead, tried_as}
use Rattle.spool_engine.specs.EventAnswers.{event_line}
use Rattle.spool_engine.specs.EngineRuns.{CommandStep, IsHeld, answered as replied, withheld}
use Rattle.spool_engine.specs.StagedSteps.{HoldsTable, HoldsWhole, ShowsDocuments, LeavesBefore, IsPlainIfSettled, IsShownDocument, IsShownReadFor, IsSettling, IsStagedBy, IsStagedEvent, StagesEvent, StagesStep}
use Rattle.spool_engine.proofs.EventLaws.{has_bytes, refused_sent, same_bytes}
use Rattle.spool_engine.proofs.CloseLaws.{over, done_of, full_of, failed_of, still_of, same_over}
use Rattle.spool_engine.proofs.RoundLaws.{same_turn}

-- ## The bytes that are shown

-- They are shown if the disk reports its bytes.
pub has_shown : (held : Option ℕ) (o : Option (List ℕ)) → IsSome o → (r : List ℕ) × (shown held o ≡ Some r)
has_shown None o tells = has_bytes o tells
has_shown (Some gate) None tells = absurd cc
has_shown (Some gate) (Some r) tells = (overwritten gate (open_gate ∷ []) r, refl)

pub shown_tells : (held : Option ℕ) (o : Option (List ℕ)) (r : List ℕ) → shown held o ≡ Some r → IsSome o
shown_tells None None r is = absurd cc
shown_tells None (Some b) r is = refl
shown_tells (Some gate) None r is = absurd cc
shown_tells (Some gate) (Some b) r is = refl

pub same_shown : {D : Type 0} (v : DiskView D) (s s' : OpenSpool D) (documents : Documents) → s' ≡ s → ShowsDocuments v documents s → ShowsDocuments v documents s'
same_shown v s s' documents same has = subst (ShowsDocuments v documents) (sym same) has

-- If nothing is staged, the bytes are those of a crash.
pub shows_left : {D : Type 0} (v : DiskView D) → IsLawful v → (documents : Documents) (s : OpenSpool D) → s.held ≡ None → LeavesDocuments v documents s → ShowsDocuments v documents s
shows_left v lawful documents s none leaves = λ r is. leaves r (lawful.reads_image s.disk r (sym (ap (λ held. shown held (v.bytes s.disk)) none) ∙ is))

pub leaves_shown : {D : Type 0} (v : DiskView D) (documents : Documents) (s : OpenSpool D) → IsSome (v.bytes s.disk) → s.held ≡ None → IsSynced v s.disk → ShowsDocuments v documents s → LeavesDocuments v documents s
leaves_shown v documents s tells none synced shows = λ c left.
    let (r, is) = has_bytes (v.bytes s.disk) tells in
    subst (HasDocuments s.state documents) (sym (synced r is c left)) (shows r (ap (λ held. shown held (v.bytes s.disk)) none ∙ is))

-- ## What a crash leaves

module _ {D : Type 0} (v : DiskView D) (lawful : IsLawful v) where
  -- Nothing was done.
  pub still_here : (s s' : OpenSpool D) → s' ≡ s → LeavesBefore v s s'
  still_here s s' same = subst (LeavesBefore v s) (sym same) (record {
    tables = λ alive before holds. started v s.disk (HasTable before) (λ c since. holds.each c (lawful.only_now s.disk c since));
    documents = λ alive before documents holds. started v s.disk (HasWhole before documents) (λ c since. holds.each c (lawful.only_now s.disk c since));
  })

  -- A read.
  pub read_leaves : (s s' : OpenSpool D) → ChangesNothing v s.disk s'.disk → LeavesBefore v s s'
  read_leaves s s' still = record {
    tables = λ alive before holds. weaker_run v s.disk s'.disk (HasTable before) (v.image s.disk) still.images holds.each;
    documents = λ alive before documents holds. weaker_run v s.disk s'.disk (HasWhole before documents) (v.image s.disk) still.images holds.each;
  }

  pub holds_then : (old new : D) (before : State) → IsSome (v.bytes new) → LeavesOnly v old new (HasTable before) → HoldsTable v new before
  holds_then old new before tells run = record { tells = tells; each = λ c now. at_return v lawful old new (HasTable before) run c now }

  pub whole_then : (old new : D) (before : State) (documents : Documents) → IsSome (v.bytes new) → LeavesOnly v old new (HasWhole before documents) → HoldsWhole v new before documents
  whole_then old new before documents tells run = record { tells = tells; each = λ c now. at_return v lawful old new (HasWhole before documents) run c now }

  -- A part after another.
  pub then_leaves : (s m s' : OpenSpool D) → m.dead ≡ false → (IsSome (v.bytes s.disk) → IsSome (v.bytes m.disk)) → LeavesBefore v s m → LeavesBefore v m s' → LeavesBefore v s s'
  then_leaves s m s' alive told first second = record {
    tables = λ lives before holds.
        let run = first.tables lives before holds in
        runs_on v s.disk m.disk s'.disk (HasTable before) (HasTable before) run (second.tables alive before (holds_then s.disk m.disk before (told holds.tells) run)) (λ c has. has);
    documents = λ lives before documents holds.
        let run = first.documents lives before documents holds in
        runs_on v s.disk m.disk s'.disk (HasWhole before documents) (HasWhole before documents) run (second.documents alive before documents (whole_then s.disk m.disk before documents (told holds.tells) run)) (λ c has. has);
  }

  -- The bytes have the table that each image has.
  pub table_of : (d : D) (before : State) → HoldsTable v d before → IsTableOf v d before
  table_of d before holds =
      let (r, is) = has_bytes (v.bytes d) holds.tells in
      (r, is, holds.each r (lawful.reads_image d r is))

  -- The contract of the spool for a staged event.
  pub spool_staged : (s s' : OpenSpool D) (e : Event) (a : Result Reply ApplyFault) → IsAnswer v s e a s' → v.failures s.disk ≤ v.failures s'.disk → (IsSome (v.bytes s'.disk) ↔ IsSome (v.bytes s.disk))
      → (s.dead ≡ false → (before : State) → IsTableOf v s.disk before → LeavesOnly v s.disk s'.disk (HasTable before))
      → (s.dead ≡ false → (r : List ℕ) (before : State) (documents : Documents) → v.bytes s.disk ≡ Some r → HasWhole before documents r → LeavesOnly v s.disk s'.disk (HasWhole before documents))
      → OnOk a ((r shows : List ℕ) (documents : Documents) → shown_bytes v s ≡ Some r → shown_bytes v s' ≡ Some shows → HasDocuments s.state documents r → HasDocuments s'.state (documents_after_one s.state documents e) shows)
      → IsPlainIfSettled v s' → IsStagedBy v s e a s'
  spool_staged s s' e a h counted told any_moment documents sent plain = record {
    cause = h;
    counted = counted;
    told = told;
    still = record {
      tables = λ alive before holds. any_moment alive before (table_of s.disk before holds);
      documents = λ alive before kept holds.
          let (r, is) = has_bytes (v.bytes s.disk) holds.tells in
          documents alive r before kept is (holds.each r (lawful.reads_image s.disk r is));
    };
    plain = plain;
    sent = shown_sent a sent;
  }
    where
      shown_sent : (a : Result Reply ApplyFault) → OnOk a ((r shows : List ℕ) (documents : Documents) → shown_bytes v s ≡ Some r → shown_bytes v s' ≡ Some shows → HasDocuments s.state documents r → HasDocuments s'.state (documents_after_one s.state documents e) shows)
          → OnOk a ((documents : Documents) → ShowsDocuments v documents s → ShowsDocuments v (documents_after_one s.state documents e) s')
      shown_sent (Ok reply) h = λ documents has shows is.
          let (r, was) = has_shown s.held (v.bytes s.disk) (told.0 (shown_tells s'.held (v.bytes s'.disk) shows is)) in
          h r shows documents was is (has r was)
      shown_sent (Err fault) h = tt

  -- Nothing was done for the event.
  pub unasked_staged : (s : OpenSpool D) (e : Event) (fault : ApplyFault) → IsPlainIfSettled v s → IsAnswer v s e (Err fault) s → IsStagedBy v s e (Err fault) s
  unasked_staged s e fault plain h = record {
    cause = h;
    counted = omega arith;
    told = (λ h. h, λ h. h);
    still = still_here s s refl;
    plain = plain;
    sent = tt;
  }

-- ## The settle

module _ {D : Type 0} (v : DiskView D) (lawful : IsLawful v) (s s' : OpenSpool D) where
  -- It changes nothing if nothing was staged.
  settled_same : (b : Bool) → s.dead ≡ b → (IsTrue s.dead → s' ≡ s) → (s.dead ≡ false → s.held ≡ None → s' ≡ s) → NoneStaged s → s' ≡ s
  settled_same true is died none settled = died is
  settled_same false is died none settled = none is (settled is)

  lives_before : (b : Bool) → s.dead ≡ b → (IsTrue s.dead → s' ≡ s) → s'.dead ≡ false → s.dead ≡ false
  lives_before true is died lives = let same = ap (λ (x : OpenSpool D). x.dead) (died is) in absurd (cc (same, is, lives))
  lives_before false is died lives = is

  -- The result is Ok if the device works afterwards.
  works_by : (r : Result (Unit {0}) ReadFault) → (IsErrOf r ReadFaults.Dead ↔ IsTrue s.dead) → (IsTrue s'.dead ↔ (IsTrue s.dead ⊎ IsErrOf r ReadFaults.Disk)) → s'.dead ≡ false → (P : Type 0) → OnOk r P → P
  works_by (Ok done) known dies lives P h = h
  works_by (Err ReadFaults.Dead) known dies lives P h = let died = dies.1 (inl (known.0 refl)) in absurd (cc (died, lives))
  works_by (Err ReadFaults.Disk) known dies lives P h = let died = dies.1 (inr refl) in absurd (cc (died, lives))

  pub spool_settles : (r : Result (Unit {0}) ReadFault) → (IsErrOf r ReadFaults.Dead ↔ IsTrue s.dead) → (IsErrOf r ReadFaults.Dead → s' ≡ s) → (s.dead ≡ false → s.held ≡ None → s' ≡ s) → Blames (v.failures s.disk) (v.failures s'.disk) (IsErrOf r ReadFaults.Disk)
      → (IsTrue s'.dead ↔ (IsTrue s.dead ⊎ IsErrOf r ReadFaults.Disk)) → ((s'.state ≡ s.state) × (s'.room ≡ s.room) × (s'.epoch ≡ s.epoch)) → NoneStaged s' → (IsSome (v.bytes s'.disk) ↔ IsSome (v.bytes s.disk))
      → (s.dead ≡ false → (before : State) → IsTableOf v s.disk before → LeavesOnly v s.disk s'.disk (HasBeforeOrAllEvents before s.state))
      → (s.dead ≡ false → (r shows : List ℕ) (before : State) (documents sent : Documents) → v.bytes s.disk ≡ Some r → shown_bytes v s ≡ Some shows → HasWhole before documents r → HasDocuments s.state sent shows → LeavesOnly v s.disk s'.disk (HasWholeBeforeOrAll before documents s.state sent))
      → OnOk r (IsSome (v.bytes s.disk) → (c : List ℕ) → v.image s'.disk c → HasTable s'.state c)
      → OnOk r ((shows : List ℕ) (documents : Documents) → shown_bytes v s ≡ Some shows → HasDocuments s.state documents shows → (c : List ℕ) → v.image s'.disk c → HasDocuments s'.state documents c)
      → IsSettling v s s'
  spool_settles r known untouched none blames dies same settled told any_moment documents kept sent =
      let died : IsTrue s.dead → s' ≡ s = λ died. untouched (known.1 died) in
      record {
        state = same.0;
        room = same.1;
        epoch = same.2;
        died = died;
        none = settled_same s.dead refl died none;
        lives = lives_before s.dead refl died;
        settled = settled;
        counted = blames.later;
        told = told;
        tables = λ alive before holds. any_moment alive before (table_of v lawful s.disk before holds);
        documents = λ alive before old sent holds shows.
            let (r, is) = has_bytes (v.bytes s.disk) holds.tells in
            let (shown_there, is_shown) = has_shown s.held (v.bytes s.disk) holds.tells in
            documents alive r shown_there before old sent is is_shown (holds.each r (lawful.reads_image s.disk r is)) (shows shown_there is_shown);
        kept = λ lives tells c now. works_by r known dies lives _ kept (told.0 tells) c now;
        sent = λ lives tells documents shows c now.
            let (shown_there, is_shown) = has_shown s.held (v.bytes s.disk) tells in
            works_by r known dies lives _ sent shown_there documents is_shown (shows shown_there is_shown) c now;
      }

-- ## A command of at most one event

-- A command that closes no job reads no document.
abbrev pub ReadsNoneShown : {D : Type 0} → Setting D → OpenSpool D → Command → Type 0
ReadsNoneShown v s c = (o : Outcome) → IsShownReadFor v s [] o c

-- A step with this outcome.
staged_as : {D : Type 0} (v : Setting D) (s s' : OpenSpool D) (c : Command) (document : List ℕ) (o : Outcome) (text : List ℕ)
    → IsOutcome v s (record { command = c; document = document; outcome = o; text = text; next = s' }) o → IsShownReadFor v s document o c → v.device.failures s.disk ≤ v.device.failures s'.disk → (IsSome (v.device.bytes s'.disk) ↔ IsSome (v.device.bytes s.disk))
    → LeavesBefore v.device s s' → IsPlainIfSettled v.device s'
    → (s'.dead ≡ false → (documents : Documents) → ShowsDocuments v.device documents s → ShowsDocuments v.device (documents_after s.state documents (tried_as (event_of v.mime s.state document c) o)) s')
    → (t : EventStep D) × StagesEvent v s c t s' × (t.text ≡ text)
staged_as v s s' c document o text out read counted told still plain sent = (
  record { command = c; document = document; outcome = o; text = text; next = s' },
  record {
    legal = record { outcome = out; read = read; counted = counted; told = told; still = still; plain = plain; sent = sent };
    command = refl;
    next = refl;
  },
  refl,
)

-- A step whose event had this answer.
staged_applied : {D : Type 0} (v : Setting D) (s s' : OpenSpool D) (c : Command) (e : Event) (line : Reply → List ℕ) (a : Result Reply ApplyFault) (o : Outcome) (text : List ℕ) → meaning v.mime s.state [] c ≡ asks e line → IsStagedBy v.device s e a s'
    → IsOutcome v s (record { command = c; document = []; outcome = o; text = text; next = s' }) o → IsShownReadFor v s [] o c
    → (s'.dead ≡ false → (documents : Documents) → ShowsDocuments v.device documents s → ShowsDocuments v.device (documents_after s.state documents (tried_as (Some e) o)) s')
    → (t : EventStep D) × StagesEvent v s c t s' × (t.text ≡ text)
staged_applied v s s' c e line a o text is h out read sent =
    staged_as v s s' c [] o text out read h.counted h.told h.still h.plain
    (λ lives documents has. subst (λ w. ShowsDocuments v.device (documents_after s.state documents (tried_as (event_in w) o)) s') (sym is) (sent lives documents has))

pub staged_turn : {D : Type 0} (v : Setting D) (s s' : OpenSpool D) (c : Command) (e : Event) (line : Reply → List ℕ) (a : Result Reply ApplyFault) → ReadsNoneShown v s c → meaning v.mime s.state [] c ≡ asks e line → IsStagedBy v.device s e a s' → (t : EventStep D) × StagesEvent v s c t s' × (t.text ≡ event_line line a)
staged_turn v s s' c e line (Ok reply) none is h = staged_applied v s s' c e line (Ok reply) served (line reply) is h
    (subst (λ w. IsServedBy v.device s w (line reply) s') (sym is) (sym (ap (step_line line) h.cause.step), subst (λ r. IsTaken s e r s') (sym h.cause.step) h.cause))
    (none served)
    (λ lives. h.sent)
staged_turn v s s' c e line (Err (Refused refusal)) none is h = staged_applied v s s' c e line (Err (Refused refusal)) served (refusal_line refusal) is h
    (subst (λ w. IsServedBy v.device s w (refusal_line refusal) s') (sym is) (sym (ap (step_line line) h.cause.1), subst (λ r. IsTaken s e r s') (sym h.cause.1) (h.cause.0, h.cause.2)))
    (none served)
    (λ lives documents has. subst (λ d. ShowsDocuments v.device d s') (sym (refused_sent s.state documents e refusal (refusal_of s.state e) h.cause.1)) (same_shown v.device s s' documents h.cause.2 has))
staged_turn v s s' c e line (Err Dead) none is h = staged_applied v s s' c e line (Err Dead) dead (codes "error dead\n") is h (record { event = e; is = ap event_in is; cause = h.cause; text = refl }) (none dead)
    (λ lives documents has. same_shown v.device s s' documents h.cause.1 has)
staged_turn v s s' c e line (Err Memory) none is h = staged_applied v s s' c e line (Err Memory) no_memory (codes "error memory\n") is h (record { event = e; is = ap event_in is; cause = (h.cause.0, h.cause.1, inl h.cause.2); text = refl }) (none no_memory)
    (λ lives documents has. same_shown v.device s s' documents h.cause.2 has)
staged_turn v s s' c e line (Err Full) none is h = staged_applied v s s' c e line (Err Full) full (codes "error full\n") is h (record { event = e; is = ap event_in is; cause = (h.cause.0, inl h.cause.1); text = refl }) (none full)
    (λ lives documents has. same_shown v.device s s' documents h.cause.1 has)
staged_turn v s s' c e line (Err Disk) none is h = staged_applied v s s' c e line (Err Disk) disk (codes "error disk\n") is h (record { event = e; is = ap event_in is; cause = h.cause; text = refl }) (none disk)
    (λ lives documents has. absurd (let died = h.cause.dead in cc))

-- A command without an event changes nothing.
pub staged_said : {D : Type 0} (v : Setting D) (s : OpenSpool D) (c : Command) (text : List ℕ) → IsLawful v.device → IsPlainIfSettled v.device s → ReadsNoneShown v s c → meaning v.mime s.state [] c ≡ says text → (t : EventStep D) × StagesEvent v s c t s × (t.text ≡ text)
staged_said v s c text lawful plain none is =
    staged_as v s s c [] served text (subst (λ w. IsServedBy v.device s w text s) (sym is) (refl, refl)) (none served) (omega arith) ((λ h. h, λ h. h)) (still_here v.device lawful s s refl) plain
    (λ lives documents has. subst (λ w. ShowsDocuments v.device (documents_after s.state documents (tried_as (event_in w) served)) s) (sym is) has)

-- A command whose text was not read, because memory ran out.
pub staged_unread : {D : Type 0} (v : Setting D) (s : OpenSpool D) (c : Command) → IsLawful v.device → IsPlainIfSettled v.device s → ReadsNoneShown v s c → MayBeRead c → (t : EventStep D) × StagesEvent v s c t s × (t.text ≡ codes "error memory\n")
staged_unread v s c lawful plain none may =
    staged_as v s s c [] unread (codes "error memory\n") (record { may = may; text = refl; same = refl }) (none unread) (omega arith) ((λ h. h, λ h. h)) (still_here v.device lawful s s refl) plain (λ lives documents has. has)

-- ## Closing a job

-- A read changes nothing that is shown.
read_shown : {D : Type 0} (v : DiskView D) (s : OpenSpool D) (d : D) (documents : Documents) → ChangesNothing v s.disk d → ShowsDocuments v documents s → ShowsDocuments v documents (over s d)
read_shown v s d documents still has = λ r is. has r (sym (ap (shown s.held) still.bytes) ∙ is)

module _ {D : Type 0} (v : Setting D) (s : OpenSpool D) (d : D) (s' : OpenSpool D) (lawful : IsLawful v.device)
    (still : ChangesNothing v.device s.disk d) (counted : v.device.failures d ≡ v.device.failures s.disk) (job : ℕ) (name document : List ℕ) (alive : s.dead ≡ false) where
  -- The event that closes the job, and the line for its reply.
  abbrev event : Event
  event = events.Close (closing_of v.mime s.state document job name)

  abbrev line : Reply → List ℕ
  line = closing_line (closing_of v.mime s.state document job name)

  closed_as : (a : Result Reply ApplyFault) (o : Outcome) (text : List ℕ) → IsStagedBy v.device (over s d) event a s' → IsShownDocument v.device s job document
      → IsOutcome v s (record { command = Close job name; document = document; outcome = o; text = text; next = s' }) o
      → (s'.dead ≡ false → (documents : Documents) → ShowsDocuments v.device documents s → ShowsDocuments v.device (documents_after s.state documents (tried_as (Some event) o)) s')
      → (t : EventStep D) × StagesEvent v s (Close job name) t s' × (t.text ≡ text)
  closed_as a o text h own out sent =
      staged_as v s s' (Close job name) document o text out (λ behind none. own)
      (let more = h.counted in omega (arith, counted, more))
      (subst (λ b. IsSome (v.device.bytes s'.disk) ↔ IsSome b) still.bytes h.told)
      (then_leaves v.device lawful s (over s d) s' alive (λ tells. subst IsSome (sym still.bytes) tells) (read_leaves v.device lawful s (over s d) still) h.still)
      h.plain sent

  -- The documents did not change.
  left_shown : s' ≡ over s d → (documents : Documents) → ShowsDocuments v.device documents s → ShowsDocuments v.device documents s'
  left_shown same documents has = subst (ShowsDocuments v.device documents) (sym same) (read_shown v.device s d documents still has)

  accepted_only : (refusal : Refusal) → refusal_of s.state event ≡ None → step s.state event ≡ Err refusal → ⊥
  accepted_only refusal none is = let both = ap (answered s.state event) none in absurd cc

  staged_close : (a : Result Reply ApplyFault) → refusal_of s.state event ≡ None → IsShownDocument v.device s job document → IsStagedBy v.device (over s d) event a s' → (t : EventStep D) × StagesEvent v s (Close job name) t s' × (t.text ≡ event_line line a)
  staged_close (Ok reply) none own h =
      let done = done_of v.device s d event reply s' h.cause in
      closed_as (Ok reply) served (line reply) h own
      (sym (ap (step_line line) done.step), subst (λ r. IsTaken s event r s') (sym done.step) done)
      (λ lives documents has. h.sent documents (read_shown v.device s d documents still has))
  staged_close (Err (Refused refusal)) none own h = absurd (accepted_only refusal none h.cause.1)
  staged_close (Err Dead) none own h = absurd (let died = h.cause.0 in cc)
  staged_close (Err Memory) none own h = closed_as (Err Memory) no_memory (codes "error memory\n") h own
      (record { event = event; is = refl; cause = (alive, none, inr (tt, still_of v.device s d s' still counted h.cause.2)); text = refl })
      (λ lives documents has. left_shown h.cause.2 documents has)
  staged_close (Err Full) none own h = closed_as (Err Full) full (codes "error full\n") h own
      (record { event = event; is = refl; cause = (full_of v.device s d event h.cause.0, inr (tt, still_of v.device s d s' still counted h.cause.1)); text = refl })
      (λ lives documents has. left_shown h.cause.1 documents has)
  staged_close (Err Disk) none own h = closed_as (Err Disk) disk (codes "error disk\n") h own
      (record { event = event; is = refl; cause = failed_of v.device s d event s' counted h.cause; text = refl })
      (λ lives documents has. absurd (let died = h.cause.dead in cc))

-- The job is not closed, because the device had failed before.
pub dead_staged_close : {D : Type 0} (v : Setting D) (s : OpenSpool D) (job : ℕ) (name : List ℕ) → IsLawful v.device → IsPlainIfSettled v.device s → s.dead ≡ true → (t : EventStep D) × StagesEvent v s (Close job name) t s × (t.text ≡ codes "error dead\n")
dead_staged_close v s job name lawful plain died =
    let n = closing_of v.mime s.state [] job name in
    staged_as v s s (Close job name) [] dead (codes "error dead\n") (record { event = events.Close n; is = refl; cause = (died, refl); text = refl })
    (λ behind accepted. absurd (let bad : false ≡ true = behind in cc)) (omega arith) ((λ h. h, λ h. h)) (still_here v.device lawful s s refl) plain (λ lives documents has. has)

-- The job is not closed, because that is refused.
pub refused_staged_close : {D : Type 0} (v : Setting D) (s : OpenSpool D) (job : ℕ) (name : List ℕ) (refusal : Refusal) → IsLawful v.device → IsPlainIfSettled v.device s → s.dead ≡ false → refusal_of s.state (events.Close (closing_of v.mime s.state [] job name)) ≡ Some refusal
    → (t : EventStep D) × StagesEvent v s (Close job name) t s × (t.text ≡ refusal_line refusal)
refused_staged_close v s job name refusal lawful plain alive is =
    let n = closing_of v.mime s.state [] job name in
    let refused = ap (answered s.state (events.Close n)) is in
    staged_as v s s (Close job name) [] served (refusal_line refusal)
    (sym (ap (step_line (closing_line n)) refused), subst (λ r. IsTaken s (events.Close n) r s) (sym refused) (alive, refl))
    (λ behind accepted. absurd (let bad = sym accepted ∙ is in cc)) (omega arith) ((λ h. h, λ h. h)) (still_here v.device lawful s s refl) plain
    (λ lives documents has. subst (λ d. ShowsDocuments v.device d s) (sym (refused_sent s.state documents (events.Close n) refusal (refusal_of s.state (events.Close n)) refused)) has)

-- A job that is closed by the first bytes of its document, if these determine its type.
pub closed_by_shown_front : {D : Type 0} (v : Setting D) (s read s' : OpenSpool D) (job : ℕ) (name front document : List ℕ) → IsLawful v.device → s.dead ≡ false
    → refusal_of s.state (events.Close (closing_of v.mime s.state document job name)) ≡ None → IsStill v.device s read → IsShownDocument v.device s job document
    → media_of v.mime name front ≡ media_of v.mime name document
    → (a : Result Reply ApplyFault) → IsStagedBy v.device read (events.Close (closing_of v.mime read.state front job name)) a s'
    → (t : EventStep D) × StagesEvent v s (Close job name) t s' × (t.text ≡ event_line (closing_line (closing_of v.mime read.state front job name)) a)
closed_by_shown_front v s read s' job name front document lawful alive none still own typed a went =
    let typed_went = subst (λ (media : List ℕ). IsStagedBy v.device read (events.Close (closing_as v.mime read.state job media)) a s') typed went in
    let over_went = subst (λ x. IsStagedBy v.device x (events.Close (closing_of v.mime x.state document job name)) a s') (same_over v.device s read still) typed_went in
    let (t, takes, text) = staged_close v s read.disk s' lawful still.disk still.counted job name document alive a none own over_went in
    (t, takes, text ∙ ap (λ (x : State). event_line (closing_line (closing_of v.mime x document job name)) a) (sym still.state) ∙ ap (λ (media : List ℕ). event_line (closing_line (closing_as v.mime read.state job media)) a) (sym typed))

-- Memory ran out for the document.
pub unread_staged_document : {D : Type 0} (v : Setting D) (s s' : OpenSpool D) (job : ℕ) (name : List ℕ) → IsLawful v.device → IsPlainIfSettled v.device s → s.dead ≡ false → refusal_of s.state (events.Close (closing_of v.mime s.state [] job name)) ≡ None → s' ≡ s
    → (t : EventStep D) × StagesEvent v s (Close job name) t s' × (t.text ≡ codes "error memory\n")
unread_staged_document {D} v s s' job name lawful plain alive none same = subst (λ x. (t : EventStep D) × StagesEvent v s (Close job name) t x × (t.text ≡ codes "error memory\n")) (sym same)
    (staged_as v s s (Close job name) [] no_memory (codes "error memory\n") (record { event = events.Close (closing_of v.mime s.state [] job name); is = refl; cause = (alive, none, inl refl); text = refl })
    (λ behind accepted. absurd (let bad : false ≡ true = behind in cc)) (omega arith) ((λ h. h, λ h. h)) (still_here v.device lawful s s refl) plain (λ lives documents has. has))

-- The device failed at the document.
pub unreadable_staged_document : {D : Type 0} (v : Setting D) (s s' : OpenSpool D) (job : ℕ) (name : List ℕ) → IsLawful v.device → refusal_of s.state (events.Close (closing_of v.mime s.state [] job name)) ≡ None → IsCut v.device s s'
    → (t : EventStep D) × StagesEvent v s (Close job name) t s' × (t.text ≡ codes "error disk\n")
unreadable_staged_document v s s' job name lawful none cut =
    staged_as v s s' (Close job name) [] unreadable (codes "error disk\n") (record { closes = tt; fails = record { event = events.Close (closing_of v.mime s.state [] job name); is = refl; cause = (none, cut); text = refl } })
    (λ behind accepted. absurd (let bad : false ≡ true = behind in cc)) (let more = cut.cause in omega (arith, more))
    ((λ h. subst IsSome cut.disk.bytes h, λ h. subst IsSome (sym cut.disk.bytes) h)) (read_leaves v.device lawful s s' cut.disk)
    (record { kept = λ settled lives. absurd (let died = cut.dead in cc); synced = λ lives. absurd (let died = cut.dead in cc) })
    (λ lives documents has. absurd (let died = cut.dead in cc))

-- ## With slots and children that do not change

pub held_staged : {D : Type 0} (said : List ℕ) (v : Setting D) (s new : RunState D) (c : Command) → IsHeld s new → withholds s.slots c ≡ false
    → (t : EventStep D) × StagesEvent v s.spool c t new.spool × (said ≡ t.text) → (t : CommandStep D) × StagesStep v s c t new × (said ≡ t.text)
held_staged said v s new c held free (t, takes, told) =
    let one = subst (IsStagedEvent v s.spool) (same_turn t c new.spool takes.command takes.next) takes.legal in (
      record { command = c; document = t.document; how = replied t.outcome; text = t.text; next = new },
      record {
        legal = record { how = (one.outcome, held, free); held = held; read = one.read; counted = one.counted; told = one.told; still = one.still; plain = one.plain; sent = one.sent };
        command = refl;
        next = refl;
      },
      told,
    )

-- A purge of a job whose child runs changes nothing.
pub withheld_staged : {D : Type 0} (said : List ℕ) (v : Setting D) (s : RunState D) (c : Command) → IsLawful v.device → IsPlainIfSettled v.device s.spool → withholds s.slots c ≡ true
    → (said ≡ withheld_line) → (t : CommandStep D) × StagesStep v s c t s × (said ≡ t.text)
withheld_staged {D} said v s c lawful plain is told = (
  record { command = c; document = []; how = withheld; text = withheld_line; next = s },
  record {
    legal = record {
      how = record { is = is; text = refl; same = refl };
      held = record { slots = refl; told = refl };
      read = tt;
      counted = omega arith;
      told = (λ h. h, λ h. h);
      still = still_here v.device lawful s.spool s.spool refl;
      plain = plain;
      sent = λ lives documents has. has;
    };
    command = refl;
    next = refl;
  },
  told,
)
