-- The step of a command without rounds.
use Rattle.std.proofs.Common.{◌≡◌, ℕ, List, [], ◌∷◌, refl, ap, sym, ◌∙◌, subst, inl, inr, ⊎_elim, arith, true, false, cond, Option, None, Some, Result, Ok, Err}
use Rattle.std.specs.Prelude.{◌≤◌, ◌↔◌, OnOk, IsSome, codes}
use Rattle.spool_types.specs.declared.event.Event.{Event}
use Rattle.spool_types.specs.declared.event.Event.TheVariants.{AddQueue}
use Rattle.spool_types.specs.declared.event.NewQueue.{NewQueue}
use Rattle.spool_types.specs.declared.event.Reply.{Reply}
use Rattle.spool_types.specs.declared.refusal.Refusal.{Refusal}
use Rattle.spool_types.specs.State.{State}
use Rattle.job_table.specs.Step.{answered, creation, refusal_of}
use Rattle.job_table.specs.EventFold.{unless_refused}
use Rattle.device_uri.specs.DeviceUris.{is_device_uri}
use Rattle.spool_disk.specs.Disk.{DiskView, IsLawful, LeavesOnly}
use Rattle.spool_disk.proofs.Moments.{at_return, both_runs, started, weaker_run}
use Rattle.command_lines.specs.Replies.{refusal_line}
use Rattle.command_lines.specs.declared.command.Command.{Command}
use Rattle.command_lines.specs.declared.command.Creation.{Creation}
use Rattle.command_lines.specs.declared.command.Command.TheVariants.{Queue, Create}
use Rattle.spool_core.specs.Driving.{documents_after}
use Rattle.spool_core.specs.Image.{HasTable, HasInEitherVersion, HasDocuments, HasWhole, HasBeforeOrAfterEvent, HasWholeBeforeOrAfterEvent, unless_refused_sent, documents_after_one}
use Rattle.spool_core.specs.OpenSpools.{OpenSpool, IsAnswer}
use Rattle.spool_core.specs.Checkpointing.{IsCheckpoint}
use Rattle.spool_core.specs.declared.spool.checkpoint_fault.CheckpointFault.{CheckpointFault}
use Rattle.spool_core.specs.declared.spool.checkpoint_fault.CheckpointFault.TheVariants as listing
use Rattle.spool_core.specs.declared.spool.apply_fault.ApplyFault.{ApplyFault}
use Rattle.spool_core.specs.declared.spool.apply_fault.ApplyFault.TheVariants.{Dead, Refused, Memory, Full, Disk}
use Rattle.print_rounds.proofs.PrefixLaws.{none_of, one_of}
use Rattle.spool_engine.specs.Mime.{Mime}
use Rattle.spool_engine.specs.Script.{says, asks, lists, meaning, creating, job_options, job_of_creation, event_in, event_of, step_line, step_state, reply_line}
use Rattle.print_rounds.specs.Rounds.{HasSomeOf, LeavesDocuments}
use Rattle.spool_engine.specs.EventSteps.{Setting, Outcome, EventStep, served, no_memory, full, disk, dead, unread, unlisted, IsServedBy, IsTaken, IsOutcome, IsReadFor, MayBeRead, IsKept, HasSomeSent, HasTableIn, HasWholeIn, is_checkpoint, tried_as, checkpoint_fault_line}
use Rattle.spool_engine.specs.EventAnswers.{event_line, checkpoint_line, HasWholeInEitherVersion, IsApplied, IsRelisted, Takes}

-- The images since the current moment of a disk are its current images.
abbrev pub OnlyNow : {D : Type 0} → DiskView D → Type 0
OnlyNow {D} v = (d : D) (c : List ℕ) → v.image_since d (v.moment d) c → v.image d c

-- If nothing is done, a crash leaves the table.
pub unmoved : {D : Type 0} (v : DiskView D) (s : OpenSpool D) (P : List ℕ → Type 0) → OnlyNow v → IsKept v s → ((c : List ℕ) → HasTable s.state c → P c) → s.dead ≡ false → IsSome (v.bytes s.disk) → LeavesOnly v s.disk s.disk P
unmoved v s P now kept weaker alive tells = started v s.disk P (λ c since. weaker c (kept alive tells c (now s.disk c since)))

-- The state of a step is the state of the fold.
pub step_folds : (s : State) (e : Event) (o : Option Refusal) → step_state s (answered s e o) ≡ unless_refused s e o
step_folds s e None = refl
step_folds s e (Some r) = refl

-- ## Documents

pub has_bytes : (o : Option (List ℕ)) → IsSome o → (bytes : List ℕ) × (o ≡ Some bytes)
has_bytes None h = absurd cc
has_bytes (Some bytes) h = (bytes, refl)

-- A refused event sends nothing.
pub refused_sent : (s : State) (documents : ℕ → List ℕ) (e : Event) (r : Refusal) (o : Option Refusal) → answered s e o ≡ Err r → unless_refused_sent documents e o ≡ documents
refused_sent s documents e r None is = absurd cc
refused_sent s documents e r (Some q) is = refl

-- The spool did not change, so its documents did not.
same_documents : {D : Type 0} (v : DiskView D) (s s' : OpenSpool D) (documents : ℕ → List ℕ) → s' ≡ s → LeavesDocuments v documents s → LeavesDocuments v documents s'
same_documents v s s' documents same has = subst (LeavesDocuments v documents) (sym same) has

-- An image of a table with its documents counts as one after none of the events.
pub none_whole : (s : State) (documents : ℕ → List ℕ) (es : List Event) (c : List ℕ) → HasWhole s documents c → HasSomeSent s documents es c
none_whole s documents es c has = (0, omega arith, omega arith, has)

pub one_whole : (s : State) (documents : ℕ → List ℕ) (e : Event) (c : List ℕ) → HasWholeBeforeOrAfterEvent s documents e c → HasSomeSent s documents (e ∷ []) c
one_whole s documents e c = ⊎_elim (λ before. none_whole s documents (e ∷ []) c before) (λ after. (1, omega arith, omega arith, after))

-- If nothing is done, a crash leaves the table and its documents.
pub unmoved_whole : {D : Type 0} (v : DiskView D) (s : OpenSpool D) (documents : ℕ → List ℕ) (P : List ℕ → Type 0) → OnlyNow v → IsKept v s → ((c : List ℕ) → HasWhole s.state documents c → P c) → s.dead ≡ false → IsSome (v.bytes s.disk) → LeavesDocuments v documents s → LeavesOnly v s.disk s.disk P
unmoved_whole v s documents P now kept weaker alive tells has = started v s.disk P (λ c since. weaker c (kept alive tells c (now s.disk c since), has c (now s.disk c since)))

-- The images that a crash leaves between two spools, if these events were tried.
abbrev pub LeavesSent : {D : Type 0} → DiskView D → OpenSpool D → OpenSpool D → List Event → Type 0
LeavesSent v s s' es = s.dead ≡ false → IsSome (v.bytes s.disk) → (documents : ℕ → List ℕ) → LeavesDocuments v documents s → LeavesOnly v s.disk s'.disk (HasSomeSent s.state documents es)

-- A crash in the events of a command is a crash in that command.
pub crash_in : {D : Type 0} (v : DiskView D) (d d' : D) (c : Command) (s : State) (es : List Event) → LeavesOnly v d d' (HasSomeOf s es) → LeavesOnly v d d' (HasTableIn c s es)
crash_in v d d' c s es run = weaker_run v d d' (HasTableIn c s es) (HasSomeOf s es) run (λ image some. inl some)

pub sent_in : {D : Type 0} (v : DiskView D) (d d' : D) (c : Command) (s : State) (documents : ℕ → List ℕ) (es : List Event) → LeavesOnly v d d' (HasSomeSent s documents es) → LeavesOnly v d d' (HasWholeIn c s documents es)
sent_in v d d' c s documents es run = weaker_run v d d' (HasWholeIn c s documents es) (HasSomeSent s documents es) run (λ image some. inl some)

-- ## A command without an event

pub still_whole : {D : Type 0} (v : DiskView D) (s : OpenSpool D) (es : List Event) → OnlyNow v → IsKept v s → LeavesSent v s s es
still_whole v s es now kept = λ alive tells documents has. unmoved_whole v s documents (HasSomeSent s.state documents es) now kept (none_whole s.state documents es) alive tells has

-- A command that closes no job reads no document.
abbrev pub ReadsNothing : {D : Type 0} → Setting D → OpenSpool D → Command → Type 0
ReadsNothing v s c = (o : Outcome) → IsReadFor v s [] o c

-- A command without an event changes nothing.
said_turn : {D : Type 0} (v : Setting D) (s : OpenSpool D) (c : Command) (text : List ℕ) → OnlyNow v.device → IsKept v.device s → ReadsNothing v s c → meaning v.mime s.state [] c ≡ says text → (t : EventStep D) × Takes v s c t s × (t.text ≡ text)
said_turn v s c text now kept none is = (
  record { command = c; document = []; outcome = served; text = text; next = s },
  record {
    legal = record {
      outcome = subst (λ w. IsServedBy v.device s w text s) (sym is) (refl, refl);
      read = none served;
      counted = omega arith;
      told = (λ h. h, λ h. h);
      crash = λ alive tells.
          let es = tried_as (event_of v.mime s.state [] c) served in
          crash_in v.device s.disk s.disk c s.state es (unmoved v.device s (HasSomeOf s.state es) now kept (none_of s.state es) alive tells);
      whole = λ alive tells documents has.
          let es = tried_as (event_of v.mime s.state [] c) served in
          sent_in v.device s.disk s.disk c s.state documents es (still_whole v.device s es now kept alive tells documents has);
      kept = kept;
      lasting = λ lives tells documents has. subst (λ w. LeavesDocuments v.device (documents_after s.state documents (tried_as (event_in w) served)) s) (sym is) has;
    };
    command = refl;
    next = refl;
  },
  refl,
)

-- The images that a crash leaves in an event that was tried, and in one that was not.
tried : {D : Type 0} (v : DiskView D) (s s' : OpenSpool D) (e : Event) (a : Result Reply ApplyFault) → IsApplied v s e a s' → s.dead ≡ false → IsSome (v.bytes s.disk) → LeavesOnly v s.disk s'.disk (HasSomeOf s.state (e ∷ []))
tried v s s' e a h alive tells = weaker_run v s.disk s'.disk (HasSomeOf s.state (e ∷ [])) (HasBeforeOrAfterEvent s.state e) (h.crash alive tells) (one_of s.state e)

untried : {D : Type 0} (v : DiskView D) (s s' : OpenSpool D) (e : Event) (a : Result Reply ApplyFault) → OnlyNow v → IsApplied v s e a s' → s' ≡ s → s.dead ≡ false → IsSome (v.bytes s.disk) → LeavesOnly v s.disk s'.disk (HasSomeOf s.state [])
untried v s s' e a now h same alive tells = subst (λ x. LeavesOnly v s.disk x.disk (HasSomeOf s.state [])) (sym same)
    (unmoved v s (HasSomeOf s.state []) now (subst (IsKept v) same h.kept) (none_of s.state []) alive tells)

tried_whole : {D : Type 0} (v : DiskView D) (s s' : OpenSpool D) (e : Event) (a : Result Reply ApplyFault) → IsApplied v s e a s' → LeavesSent v s s' (e ∷ [])
tried_whole v s s' e a h = λ alive tells documents has.
    weaker_run v s.disk s'.disk (HasSomeSent s.state documents (e ∷ [])) (HasWholeBeforeOrAfterEvent s.state documents e) (h.whole alive tells documents has) (one_whole s.state documents e)

untried_whole : {D : Type 0} (v : DiskView D) (s s' : OpenSpool D) (e : Event) (a : Result Reply ApplyFault) → OnlyNow v → IsApplied v s e a s' → s' ≡ s → LeavesSent v s s' []
untried_whole v s s' e a now h same = subst (λ x. LeavesSent v s x []) (sym same) (still_whole v s [] now (subst (IsKept v) same h.kept))

-- A step whose event had this answer.
pub applied_turn : {D : Type 0} (v : Setting D) (s s' : OpenSpool D) (c : Command) (document : List ℕ) (e : Event) (line : Reply → List ℕ) (a : Result Reply ApplyFault) (o : Outcome) (text : List ℕ) → meaning v.mime s.state document c ≡ asks e line → IsApplied v.device s e a s'
    → IsOutcome v s (record { command = c; document = document; outcome = o; text = text; next = s' }) o → IsReadFor v s document o c → (s.dead ≡ false → IsSome (v.device.bytes s.disk) → LeavesOnly v.device s.disk s'.disk (HasSomeOf s.state (tried_as (Some e) o))) → LeavesSent v.device s s' (tried_as (Some e) o)
    → (s'.dead ≡ false → IsSome (v.device.bytes s.disk) → (documents : ℕ → List ℕ) → LeavesDocuments v.device documents s → LeavesDocuments v.device (documents_after s.state documents (tried_as (Some e) o)) s')
    → (t : EventStep D) × Takes v s c t s' × (t.text ≡ text)
applied_turn v s s' c document e line a o text is h out read crash whole lasting = (
  record { command = c; document = document; outcome = o; text = text; next = s' },
  record {
    legal = record {
      outcome = out;
      read = read;
      counted = h.counted;
      told = h.told;
      crash = λ alive tells.
          subst (λ w. LeavesOnly v.device s.disk s'.disk (HasTableIn c s.state (tried_as (event_in w) o))) (sym is)
          (crash_in v.device s.disk s'.disk c s.state (tried_as (Some e) o) (crash alive tells));
      whole = λ alive tells documents has.
          subst (λ w. LeavesOnly v.device s.disk s'.disk (HasWholeIn c s.state documents (tried_as (event_in w) o))) (sym is)
          (sent_in v.device s.disk s'.disk c s.state documents (tried_as (Some e) o) (whole alive tells documents has));
      kept = h.kept;
      lasting = λ lives tells documents has. subst (λ w. LeavesDocuments v.device (documents_after s.state documents (tried_as (event_in w) o)) s') (sym is) (lasting lives tells documents has);
    };
    command = refl;
    next = refl;
  },
  refl,
)

-- An event that the table refused, of a command that read nothing before.
pub refused_turn : {D : Type 0} (v : Setting D) (s s' : OpenSpool D) (c : Command) (e : Event) (line : Reply → List ℕ) (refusal : Refusal) → meaning v.mime s.state [] c ≡ asks e line → IsApplied v.device s e (Err (Refused refusal)) s' → IsReadFor v s [] served c
    → (t : EventStep D) × Takes v s c t s' × (t.text ≡ refusal_line refusal)
refused_turn v s s' c e line refusal is h read = applied_turn v s s' c [] e line (Err (Refused refusal)) served (refusal_line refusal) is h
    (subst (λ w. IsServedBy v.device s w (refusal_line refusal) s') (sym is) (sym (ap (step_line line) h.cause.1), subst (λ r. IsTaken s e r s') (sym h.cause.1) (h.cause.0, h.cause.2)))
    read
    (tried v.device s s' e (Err (Refused refusal)) h)
    (tried_whole v.device s s' e (Err (Refused refusal)) h)
    (λ lives tells documents has. subst (λ d. LeavesDocuments v.device d s') (sym (refused_sent s.state documents e refusal (refusal_of s.state e) h.cause.1)) (same_documents v.device s s' documents h.cause.2 has))

-- An event on a dead spool.
pub dead_turn : {D : Type 0} (v : Setting D) (s s' : OpenSpool D) (c : Command) (e : Event) (line : Reply → List ℕ) → OnlyNow v.device → meaning v.mime s.state [] c ≡ asks e line → IsApplied v.device s e (Err Dead) s' → IsReadFor v s [] dead c
    → (t : EventStep D) × Takes v s c t s' × (t.text ≡ codes "error dead\n")
dead_turn v s s' c e line now is h read = applied_turn v s s' c [] e line (Err Dead) dead (codes "error dead\n") is h (record { event = e; is = ap event_in is; cause = h.cause; text = refl }) read
    (untried v.device s s' e (Err Dead) now h h.cause.1)
    (untried_whole v.device s s' e (Err Dead) now h h.cause.1)
    (λ lives tells documents has. same_documents v.device s s' documents h.cause.1 has)

pub answered_turn : {D : Type 0} (v : Setting D) (s s' : OpenSpool D) (c : Command) (e : Event) (line : Reply → List ℕ) (a : Result Reply ApplyFault) → OnlyNow v.device → ReadsNothing v s c → meaning v.mime s.state [] c ≡ asks e line → IsApplied v.device s e a s' → (t : EventStep D) × Takes v s c t s' × (t.text ≡ event_line line a)
answered_turn v s s' c e line (Ok reply) now none is h = applied_turn v s s' c [] e line (Ok reply) served (line reply) is h
    (subst (λ w. IsServedBy v.device s w (line reply) s') (sym is) (sym (ap (step_line line) h.cause.step), subst (λ r. IsTaken s e r s') (sym h.cause.step) h.cause))
    (none served)
    (tried v.device s s' e (Ok reply) h)
    (tried_whole v.device s s' e (Ok reply) h)
    (λ lives. h.sent)
answered_turn v s s' c e line (Err (Refused refusal)) now none is h = refused_turn v s s' c e line refusal is h (none served)
answered_turn v s s' c e line (Err Dead) now none is h = dead_turn v s s' c e line now is h (none dead)
answered_turn v s s' c e line (Err Memory) now none is h = applied_turn v s s' c [] e line (Err Memory) no_memory (codes "error memory\n") is h (record { event = e; is = ap event_in is; cause = (h.cause.0, h.cause.1, inl h.cause.2); text = refl }) (none no_memory)
    (untried v.device s s' e (Err Memory) now h h.cause.2)
    (untried_whole v.device s s' e (Err Memory) now h h.cause.2)
    (λ lives tells documents has. same_documents v.device s s' documents h.cause.2 has)
answered_turn v s s' c e line (Err Full) now none is h = applied_turn v s s' c [] e line (Err Full) full (codes "error full\n") is h (record { event = e; is = ap event_in is; cause = (h.cause.0, inl h.cause.1); text = refl }) (none full)
    (untried v.device s s' e (Err Full) now h h.cause.1)
    (untried_whole v.device s s' e (Err Full) now h h.cause.1)
    (λ lives tells documents has. same_documents v.device s s' documents h.cause.1 has)
answered_turn v s s' c e line (Err Disk) now none is h = applied_turn v s s' c [] e line (Err Disk) disk (codes "error disk\n") is h (record { event = e; is = ap event_in is; cause = h.cause; text = refl }) (none disk)
    (tried v.device s s' e (Err Disk) h)
    (tried_whole v.device s s' e (Err Disk) h)
    (λ lives tells documents has. absurd (let died = h.cause.dead in cc))

-- A text that equals one text equals the other, if they are equal.
pub same_bytes : (said a b : List ℕ) → b ≡ a → said ≡ a → said ≡ b
same_bytes said a b e h = h ∙ sym e

-- A command that is an event, and the text of its reply.
pub event_told : {D : Type 0} (said : List ℕ) (v : Setting D) (s s' : OpenSpool D) (c : Command) (e : Event) (line : Reply → List ℕ) → OnlyNow v.device → ReadsNothing v s c → meaning v.mime s.state [] c ≡ asks e line
    → (a : Result Reply ApplyFault) × IsApplied v.device s e a s' × (said ≡ event_line line a)
    → (t : EventStep D) × Takes v s c t s' × (said ≡ t.text)
event_told said v s s' c e line now none is (a, went, text) =
    let (t, takes, told) = answered_turn v s s' c e line a now none is went in
    (t, takes, same_bytes said (event_line line a) t.text told text)

-- A command without an event, and the text of its reply.
pub said_told : {D : Type 0} (said : List ℕ) (v : Setting D) (s : OpenSpool D) (c : Command) (text : List ℕ) → OnlyNow v.device → IsKept v.device s → ReadsNothing v s c → meaning v.mime s.state [] c ≡ says text → (said ≡ text) → (t : EventStep D) × Takes v s c t s × (said ≡ t.text)
said_told said v s c text now kept none is h =
    let (t, takes, told) = said_turn v s c text now kept none is in
    (t, takes, same_bytes said text t.text told h)

-- A command whose text was not read, because memory ran out.
pub unread_told : {D : Type 0} (said : List ℕ) (v : Setting D) (s : OpenSpool D) (c : Command) → OnlyNow v.device → IsKept v.device s → ReadsNothing v s c → MayBeRead c → (said ≡ codes "error memory\n") → (t : EventStep D) × Takes v s c t s × (said ≡ t.text)
unread_told said v s c now kept none may h = (
  record { command = c; document = []; outcome = unread; text = codes "error memory\n"; next = s },
  record {
    legal = record {
      outcome = record { may = may; text = refl; same = refl };
      read = none unread;
      counted = omega arith;
      told = (λ h. h, λ h. h);
      crash = λ alive tells.
          let es = tried_as (event_of v.mime s.state [] c) unread in
          crash_in v.device s.disk s.disk c s.state es (unmoved v.device s (HasSomeOf s.state es) now kept (none_of s.state es) alive tells);
      whole = λ alive tells documents has.
          let es = tried_as (event_of v.mime s.state [] c) unread in
          sent_in v.device s.disk s.disk c s.state documents es (still_whole v.device s es now kept alive tells documents has);
      kept = kept;
      lasting = λ lives tells documents has. has;
    };
    command = refl;
    next = refl;
  },
  h,
)

-- A queue is an event exactly if its URI is that of a device.
pub queue_event : (m : Mime) (s : State) (q : NewQueue) → is_device_uri q.uri ≡ true → meaning m s [] (Queue q) ≡ asks (AddQueue q) reply_line
queue_event m s q is = ap (λ b. cond b (asks (AddQueue q) reply_line) (says (codes "error uri\n"))) is

pub no_queue_event : (m : Mime) (s : State) (q : NewQueue) → is_device_uri q.uri ≡ false → meaning m s [] (Queue q) ≡ says (codes "error uri\n")
no_queue_event m s q is = ap (λ b. cond b (asks (AddQueue q) reply_line) (says (codes "error uri\n"))) is

-- A job is an event exactly if its options can be stored.
pub create_event : (m : Mime) (s : State) (n : Creation) (options : List ℕ) → job_options n.options ≡ Some options → meaning m s [] (Create n) ≡ asks (creation (job_of_creation s n options) n.by) reply_line
create_event m s n options is = ap (creating s n) is

pub no_create_event : (m : Mime) (s : State) (n : Creation) → job_options n.options ≡ None → meaning m s [] (Create n) ≡ says (codes "error options\n")
no_create_event m s n is = ap (creating s n) is

-- The same step under an equal command.
pub same_command : {D : Type 0} (said : List ℕ) (v : Setting D) (s s' : OpenSpool D) (c c' : Command) → c ≡ c' → (t : EventStep D) × Takes v s c' t s' × (said ≡ t.text) → (t : EventStep D) × Takes v s c t s' × (said ≡ t.text)
same_command said v s s' c c' e (t, takes, told) = (t, record { legal = takes.legal; command = takes.command ∙ sym e; next = takes.next }, told)

-- Nothing was done for the event, so the spool did not change.
pub unasked : {D : Type 0} (v : DiskView D) (s : OpenSpool D) (e : Event) (fault : ApplyFault) → OnlyNow v → IsKept v s → IsAnswer v s e (Err fault) s → IsApplied v s e (Err fault) s
unasked v s e fault now kept h = record {
  cause = h;
  counted = omega arith;
  told = (λ h. h, λ h. h);
  crash = unmoved v s (HasBeforeOrAfterEvent s.state e) now kept (λ image h. inl h);
  whole = λ alive tells documents has. unmoved_whole v s documents (HasWholeBeforeOrAfterEvent s.state documents e) now kept (λ image h. inl h) alive tells has;
  kept = kept;
  sent = tt;
}

-- The same for an equal spool.
pub kept_as : {D : Type 0} (v : DiskView D) (s s' : OpenSpool D) → s ≡ s' → IsKept v s → IsKept v s'
kept_as v s s' e kept = subst (IsKept v) e kept

-- After every answer of the spool a crash leaves the table that is shown.
still_kept : {D : Type 0} (v : DiskView D) (s s' : OpenSpool D) (e : Event) (a : Result Reply ApplyFault) → IsAnswer v s e a s' → (IsSome (v.bytes s'.disk) ↔ IsSome (v.bytes s.disk))
    → OnOk a (IsSome (v.bytes s.disk) → (c : List ℕ) → v.image s'.disk c → HasTable s'.state c) → IsKept v s → IsKept v s'
still_kept v s s' e (Ok reply) h told ok kept = λ alive tells c now. ok (told.0 tells) c now
still_kept v s s' e (Err Dead) h told ok kept = kept_as v s s' (sym h.1) kept
still_kept v s s' e (Err (Refused r)) h told ok kept = kept_as v s s' (sym h.2) kept
still_kept v s s' e (Err Memory) h told ok kept = kept_as v s s' (sym h.2) kept
still_kept v s s' e (Err Full) h told ok kept = kept_as v s s' (sym h.1) kept
still_kept v s s' e (Err Disk) h told ok kept = λ alive tells c now. absurd (let died = h.dead in cc)

-- If each image has these documents, the reported bytes have them.
pub told_documents : {D : Type 0} (v : DiskView D) (s : OpenSpool D) (documents : ℕ → List ℕ) (bytes : List ℕ) → IsLawful v → LeavesDocuments v documents s → v.bytes s.disk ≡ Some bytes → HasDocuments s.state documents bytes
told_documents v s documents bytes lawful has is = has bytes (lawful.reads_image s.disk bytes is)

-- So a clause about the bytes is one about each image.
sent_of : {D X E : Type 0} (v : DiskView D) (s : OpenSpool D) (r : Result X E) (P : (ℕ → List ℕ) → Type 0) → IsLawful v → OnOk r ((bytes : List ℕ) (documents : ℕ → List ℕ) → v.bytes s.disk ≡ Some bytes → HasDocuments s.state documents bytes → P documents)
    → OnOk r (IsSome (v.bytes s.disk) → (documents : ℕ → List ℕ) → LeavesDocuments v documents s → P documents)
sent_of v s (Ok x) P lawful h = λ tells documents has.
    let (bytes, is) = has_bytes (v.bytes s.disk) tells in
    h bytes documents is (told_documents v s documents bytes lawful has is)
sent_of v s (Err f) P lawful h = tt

-- The contract of the spool for an event.
pub spool_applied : {D : Type 0} (v : DiskView D) (s s' : OpenSpool D) (e : Event) (a : Result Reply ApplyFault) → IsLawful v → IsAnswer v s e a s' → v.failures s.disk ≤ v.failures s'.disk → (IsSome (v.bytes s'.disk) ↔ IsSome (v.bytes s.disk))
    → (s.dead ≡ false → IsSome (v.bytes s.disk) → LeavesOnly v s.disk s'.disk (HasBeforeOrAfterEvent s.state e))
    → (s.dead ≡ false → (bytes : List ℕ) (documents : ℕ → List ℕ) → v.bytes s.disk ≡ Some bytes → HasDocuments s.state documents bytes → LeavesOnly v s.disk s'.disk (HasWholeBeforeOrAfterEvent s.state documents e))
    → OnOk a (IsSome (v.bytes s.disk) → (c : List ℕ) → v.image s'.disk c → HasTable s'.state c)
    → OnOk a ((bytes : List ℕ) (documents : ℕ → List ℕ) → v.bytes s.disk ≡ Some bytes → HasDocuments s.state documents bytes → LeavesDocuments v (documents_after_one s.state documents e) s')
    → IsKept v s → IsApplied v s e a s'
spool_applied v s s' e a lawful h counted told crash whole ok sent kept = record {
  cause = h;
  counted = counted;
  told = told;
  crash = crash;
  whole = λ alive tells documents has.
      let (bytes, is) = has_bytes (v.bytes s.disk) tells in
      whole alive bytes documents is (told_documents v s documents bytes lawful has is);
  kept = still_kept v s s' e a h told ok kept;
  sent = sent_of v s a (λ documents. LeavesDocuments v (documents_after_one s.state documents e) s') lawful sent;
}

-- ## A checkpoint

listed_turn : {D : Type 0} (v : Setting D) (s s' : OpenSpool D) (c : Command) (a : Result (Unit {0}) CheckpointFault) (o : Outcome) (text : List ℕ) → ReadsNothing v s c → is_checkpoint c ≡ true → meaning v.mime s.state [] c ≡ lists → IsRelisted v.device s a s'
    → IsOutcome v s (record { command = c; document = []; outcome = o; text = text; next = s' }) o → tried_as None o ≡ []
    → (s'.dead ≡ false → IsSome (v.device.bytes s.disk) → (documents : ℕ → List ℕ) → LeavesDocuments v.device documents s → LeavesDocuments v.device documents s')
    → (t : EventStep D) × Takes v s c t s' × (t.text ≡ text)
listed_turn v s s' c a o text quiet lists_it is h out none lasting = (
  record { command = c; document = []; outcome = o; text = text; next = s' },
  record {
    legal = record {
      outcome = out;
      read = quiet o;
      counted = h.counted;
      told = h.told;
      crash = λ alive tells.
          subst (λ w. LeavesOnly v.device s.disk s'.disk (HasTableIn c s.state (tried_as (event_in w) o))) (sym is)
          (subst (λ es. LeavesOnly v.device s.disk s'.disk (HasTableIn c s.state es)) (sym none)
          (weaker_run v.device s.disk s'.disk (HasTableIn c s.state []) (HasInEitherVersion s.state) (h.crash alive tells)
          (λ image either. ⊎_elim (λ same. inl (none_of s.state [] image same)) (λ risen. inr (lists_it, risen)) either)));
      whole = λ alive tells documents has.
          subst (λ w. LeavesOnly v.device s.disk s'.disk (HasWholeIn c s.state documents (tried_as (event_in w) o))) (sym is)
          (subst (λ es. LeavesOnly v.device s.disk s'.disk (HasWholeIn c s.state documents es)) (sym none)
          (weaker_run v.device s.disk s'.disk (HasWholeIn c s.state documents []) (HasWholeInEitherVersion s.state documents) (h.whole alive tells documents has)
          (λ image either. ⊎_elim (λ same. inl (none_whole s.state documents [] image same)) (λ risen. inr (lists_it, risen)) either)));
      kept = h.kept;
      lasting = λ lives tells documents has.
          subst (λ w. LeavesDocuments v.device (documents_after s.state documents (tried_as (event_in w) o)) s') (sym is)
          (subst (λ es. LeavesDocuments v.device (documents_after s.state documents es) s') (sym none) (lasting lives tells documents has));
    };
    command = refl;
    next = refl;
  },
  refl,
)

-- The documents after a fault.
unlisted_documents : {D : Type 0} (v : DiskView D) (s s' : OpenSpool D) (fault : CheckpointFault) (documents : ℕ → List ℕ) → IsCheckpoint v s (Err fault) s' → s'.dead ≡ false → LeavesDocuments v documents s → LeavesDocuments v documents s'
unlisted_documents v s s' listing.Dead documents h lives has = same_documents v s s' documents h.1 has
unlisted_documents v s s' listing.EpochEnd documents h lives has = same_documents v s s' documents h.2 has
unlisted_documents v s s' listing.Memory documents h lives has = same_documents v s s' documents h.1 has
unlisted_documents v s s' listing.Full documents h lives has = same_documents v s s' documents h.2 has
unlisted_documents v s s' listing.Disk documents h lives has = absurd (let died = h.dead in cc)

relisted_turn : {D : Type 0} (v : Setting D) (s s' : OpenSpool D) (c : Command) (a : Result (Unit {0}) CheckpointFault) → ReadsNothing v s c → is_checkpoint c ≡ true → meaning v.mime s.state [] c ≡ lists → IsRelisted v.device s a s' → (t : EventStep D) × Takes v s c t s' × (t.text ≡ checkpoint_line a)
relisted_turn v s s' c (Ok done) quiet lists_it is h = listed_turn v s s' c (Ok done) served (codes "ok\n") quiet lists_it is h (subst (λ w. IsServedBy v.device s w (codes "ok\n") s') (sym is) (refl, h.cause)) refl (λ lives. h.lasting)
relisted_turn v s s' c (Err fault) quiet lists_it is h = listed_turn v s s' c (Err fault) (unlisted fault) (checkpoint_fault_line fault) quiet lists_it is h (record { is = is; cause = h.cause; text = refl }) refl
    (λ lives tells documents has. unlisted_documents v.device s s' fault documents h.cause lives has)

-- A checkpoint, and the text of its reply.
pub listing_told : {D : Type 0} (said : List ℕ) (v : Setting D) (s s' : OpenSpool D) (c : Command) → ReadsNothing v s c → is_checkpoint c ≡ true → meaning v.mime s.state [] c ≡ lists
    → (a : Result (Unit {0}) CheckpointFault) × IsRelisted v.device s a s' × (said ≡ checkpoint_line a)
    → (t : EventStep D) × Takes v s c t s' × (said ≡ t.text)
listing_told said v s s' c quiet lists_it is (a, went, text) =
    let (t, takes, told) = relisted_turn v s s' c a quiet lists_it is went in
    (t, takes, same_bytes said (checkpoint_line a) t.text told text)

-- After every answer to a checkpoint a crash leaves the table that is shown.
listing_kept : {D : Type 0} (v : DiskView D) (s s' : OpenSpool D) (a : Result (Unit {0}) CheckpointFault) → IsCheckpoint v s a s' → (IsSome (v.bytes s'.disk) ↔ IsSome (v.bytes s.disk))
    → OnOk a (IsSome (v.bytes s.disk) → (c : List ℕ) → v.image s'.disk c → HasTable s'.state c) → IsKept v s → IsKept v s'
listing_kept v s s' (Ok done) h told ok kept = λ alive tells c now. ok (told.0 tells) c now
listing_kept v s s' (Err listing.Dead) h told ok kept = kept_as v s s' (sym h.1) kept
listing_kept v s s' (Err listing.EpochEnd) h told ok kept = kept_as v s s' (sym h.2) kept
listing_kept v s s' (Err listing.Memory) h told ok kept = kept_as v s s' (sym h.1) kept
listing_kept v s s' (Err listing.Full) h told ok kept = kept_as v s s' (sym h.2) kept
listing_kept v s s' (Err listing.Disk) h told ok kept = λ alive tells c now. absurd (let died = h.dead in cc)

-- The documents after a checkpoint that returned Ok.
listing_lasts : {D : Type 0} (v : DiskView D) (s s' : OpenSpool D) (a : Result (Unit {0}) CheckpointFault) → IsLawful v → IsCheckpoint v s a s'
    → (s.dead ≡ false → (bytes : List ℕ) (documents : ℕ → List ℕ) → v.bytes s.disk ≡ Some bytes → HasDocuments s.state documents bytes → LeavesOnly v s.disk s'.disk (HasDocuments s.state documents))
    → OnOk a (IsSome (v.bytes s.disk) → (documents : ℕ → List ℕ) → LeavesDocuments v documents s → LeavesDocuments v documents s')
listing_lasts v s s' (Ok done) lawful h left = λ tells documents has.
    let (bytes, is) = has_bytes (v.bytes s.disk) tells in
    let run = left h.may.alive bytes documents is (told_documents v s documents bytes lawful has is) in
    λ c now. subst (λ t. HasDocuments t documents c) (sym h.state) (at_return v lawful s.disk s'.disk (HasDocuments s.state documents) run c now)
listing_lasts v s s' (Err fault) lawful h left = tt

-- The contract of the spool for a checkpoint.
pub spool_relisted : {D : Type 0} (v : DiskView D) (s s' : OpenSpool D) (a : Result (Unit {0}) CheckpointFault) → IsLawful v → IsCheckpoint v s a s' → v.failures s.disk ≤ v.failures s'.disk → (IsSome (v.bytes s'.disk) ↔ IsSome (v.bytes s.disk))
    → (s.dead ≡ false → IsSome (v.bytes s.disk) → LeavesOnly v s.disk s'.disk (HasInEitherVersion s.state))
    → (s.dead ≡ false → (bytes : List ℕ) (documents : ℕ → List ℕ) → v.bytes s.disk ≡ Some bytes → HasDocuments s.state documents bytes → LeavesOnly v s.disk s'.disk (HasDocuments s.state documents))
    → OnOk a (IsSome (v.bytes s.disk) → (c : List ℕ) → v.image s'.disk c → HasTable s'.state c) → IsKept v s → IsRelisted v s a s'
spool_relisted v s s' a lawful h counted told crash left ok kept = record {
  cause = h;
  counted = counted;
  told = told;
  crash = crash;
  whole = λ alive tells documents has.
      let (bytes, is) = has_bytes (v.bytes s.disk) tells in
      weaker_run v s.disk s'.disk (HasWholeInEitherVersion s.state documents) (λ image. HasInEitherVersion s.state image × HasDocuments s.state documents image)
      (both_runs v s.disk s'.disk (HasInEitherVersion s.state) (HasDocuments s.state documents) (crash alive tells) (left alive bytes documents is (told_documents v s documents bytes lawful has is)))
      (λ image both. ⊎_elim (λ same. inl (same, both.1)) (λ risen. inr (risen, both.1)) both.0);
  kept = listing_kept v s s' a h told ok kept;
  lasting = listing_lasts v s s' a lawful h left;
}
