-- Runs without a failure, on a disk that reports its bytes: the documents as they are read equal the documents as they were sent.
use Rattle.std.proofs.Common.{◌≡◌, ℕ, List, [], ◌∷◌, refl, ap, sym, ◌∙◌, subst, ◌⊎◌, inl, inr, ⊎_elim, true, false, Bool, Option, None, Some}
use Rattle.std.specs.Prelude.{IsSome}
use Rattle.std.specs.Io.KnownBytes.{Appends}
use Rattle.spool_types.specs.declared.event.Event.{Event}
use Rattle.spool_types.specs.declared.event.Event.TheVariants as events
use Rattle.spool_types.specs.declared.event.Reply.{Reply}
use Rattle.spool_types.specs.declared.refusal.Refusal.{Refusal}
use Rattle.spool_types.specs.State.{State}
use Rattle.job_table.specs.Step.{answered as answered_by, refusal_of}
use Rattle.command_lines.specs.Text.{commands_of}
use Rattle.command_lines.specs.declared.command.Command.{Command}
use Rattle.command_lines.specs.declared.command.Command.TheVariants as commands
use Rattle.spool_disk.specs.Disk.{DiskView, IsLawful}
use Rattle.spool_core.specs.Driving.{documents_after as documents_sent}
use Rattle.spool_core.specs.Image.{HasDocuments, unless_refused_sent}
use Rattle.spool_core.specs.OpenSpools.{OpenSpool}
use Rattle.print_rounds.specs.RunStates.{RunState}
use Rattle.print_rounds.specs.Rounds.{LeavesDocuments}
use Rattle.spool_engine.specs.Mime.{Mime}
use Rattle.spool_engine.specs.Script.{Meaning, says, asks, lists, runs, meaning, document_for, withholds, closing_of, closing_line, event_in, event_of, step_line, Documents, ScriptState, after_command, documents_by, documents_after, asked_with, asked_on, documents_on}
use Rattle.spool_engine.specs.EventSteps.{Setting, served, IsServedBy, IsTaken, IsReadFor, listed, tried_as}
use Rattle.spool_engine.specs.EngineRounds.{Ran, AreRan, AreRunBy}
use Rattle.spool_engine.specs.EngineRuns.{CommandStep, How, answered, ran, withheld, documents_by_how, IsHow, IsReadIn, IsWell, AllServed, AreCommandSteps, last_run_state, texts_of, commands_in, Lead, IsExactWith, HasNoRounds, script_state_with}
use Rattle.spool_engine.proofs.CloseLaws.{not_over}
use Rattle.spool_engine.proofs.CrashLaws.{dead_last}
use Rattle.spool_engine.proofs.EventLaws.{has_bytes, told_documents}
use Rattle.spool_engine.proofs.ExactLaws.{IsTelling, AreFor, IsFor, AreSaid, VersionLaw, closes_or_same, none_said, plain_meaning, runs_free, then_said, turn_exact, exact_of, withheld_meaning}
use Rattle.spool_engine.proofs.RoundLaws.{dead_rans}
use Rattle.spool_engine.proofs.SettleLaws.{FinishLaw}

-- ## Rounds

lives_rans : {D : Type 0} (v : Setting D) (s : RunState D) (rs : List (Ran D)) (new : RunState D) (b : Bool) → s.spool.dead ≡ b → AreRan v s rs new → new.spool.dead ≡ false → s.spool.dead ≡ false
lives_rans v s rs new true is h lives = let died = ap (λ x. x.dead) (dead_rans v s rs new is h) ∙ is in absurd cc
lives_rans v s rs new false is h lives = is

rounds_on : {D : Type 0} (v : Setting D) (s : RunState D) (rs : List (Ran D)) (new : RunState D) (documents : Documents) → IsLawful v.device → AreRan v s rs new → new.spool.dead ≡ false → IsSome (v.device.bytes s.spool.disk) → LeavesDocuments v.device documents s.spool → AreFor v (λ k. documents) rs
rounds_on v s [] new documents lawful h lives tells has = tt
rounds_on {D} v s (r ∷ rs) new documents lawful h lives tells has =
    let (bytes, is) = has_bytes (v.device.bytes s.spool.disk) tells in
    let alive = lives_rans v r.next rs new r.next.spool.dead refl h.1 lives in
    let same = h.0.settles.spool in (
      λ made handed. made.handed bytes documents (ap (λ (x : OpenSpool D). v.device.bytes x.disk) same ∙ is) (subst (λ (x : OpenSpool D). HasDocuments x.state documents bytes) (sym same) (told_documents v.device s.spool documents bytes lawful has is)),
      rounds_on v r.next rs new documents lawful h.1 lives (h.0.told.1 tells) (h.0.lasting alive tells documents has),
    )

-- ## Closing a job

-- An event with this refusal.
module _ {D : Type 0} (v : DiskView D) (s s' : OpenSpool D) (text : List ℕ) (r : Refusal) where
  abbrev IsRefused : Event → (Reply → List ℕ) → Option Refusal → Type 0
  IsRefused e line o = (text ≡ step_line line (answered_by s.state e o)) × IsTaken s e (answered_by s.state e o) s'

  refused_same : (e f : Event) (line other : Reply → List ℕ) → refusal_of s.state e ≡ Some r → refusal_of s.state f ≡ Some r → IsServedBy v s (asks e line) text s' → IsServedBy v s (asks f other) text s'
  refused_same e f line other is also h =
      let k : IsRefused e line (Some r) = subst (IsRefused e line) is h in
      subst (IsRefused f other) (sym also) k

-- By whether the close is refused.
close_by : {D : Type 0} (v : Setting D) (s s' : OpenSpool D) (job : ℕ) (name document other text : List ℕ) (o : Option Refusal) → refusal_of s.state (events.Close (closing_of v.mime s.state document job name)) ≡ o → (o ≡ None → document ≡ other)
    → IsServedBy v.device s (meaning v.mime s.state document (commands.Close job name)) text s' → IsServedBy v.device s (meaning v.mime s.state other (commands.Close job name)) text s'
close_by v s s' job name document other text None is same h = subst (λ d. IsServedBy v.device s (meaning v.mime s.state d (commands.Close job name)) text s') (same refl) h
close_by v s s' job name document other text (Some r) is same h =
    refused_same v.device s s' text r (events.Close (closing_of v.mime s.state document job name)) (events.Close (closing_of v.mime s.state other job name)) (closing_line (closing_of v.mime s.state document job name)) (closing_line (closing_of v.mime s.state other job name)) is is h

close_on : {D : Type 0} (v : Setting D) (s s' : OpenSpool D) (job : ℕ) (name document text : List ℕ) (documents : Documents) → IsLawful v.device → IsReadFor v s document served (commands.Close job name) → IsSome (v.device.bytes s.disk) → LeavesDocuments v.device documents s
    → IsServedBy v.device s (meaning v.mime s.state document (commands.Close job name)) text s' → IsServedBy v.device s (meaning v.mime s.state (documents job) (commands.Close job name)) text s'
close_on v s s' job name document text documents lawful read tells has h =
    let (bytes, is) = has_bytes (v.device.bytes s.disk) tells in
    close_by v s s' job name document (documents job) text (refusal_of s.state (events.Close (closing_of v.mime s.state document job name))) refl
    (λ none. (read refl none).own bytes (documents job) is (told_documents v.device s documents bytes lawful has is job (not_over s.state (closing_of v.mime s.state document job name) none)))
    h

-- ## A step

answered_on : {D : Type 0} (v : Setting D) (s : RunState D) (t : CommandStep D) (documents : Documents) → IsLawful v.device → IsReadFor v s.spool t.document served t.command → IsSome (v.device.bytes s.spool.disk) → LeavesDocuments v.device documents s.spool → IsFor v s t (λ k. documents) (answered served)
answered_on v s t documents lawful read tells has h = ⊎_elim
    (λ closes. subst (λ c. IsServedBy v.device s.spool (meaning v.mime s.spool.state (document_for documents c) c) t.text t.next.spool) (sym closes.2)
    (close_on v s.spool t.next.spool closes.0 closes.1 t.document t.text documents lawful (subst (IsReadFor v s.spool t.document served) closes.2 read) tells has
    (subst (λ c. IsServedBy v.device s.spool (meaning v.mime s.spool.state t.document c) t.text t.next.spool) closes.2 h)))
    (λ same. subst (λ w. IsServedBy v.device s.spool w t.text t.next.spool) (same v.mime s.spool.state t.document _) h)
    (closes_or_same t.command)

turn_on : {D : Type 0} (v : Setting D) (s : RunState D) (t : CommandStep D) (documents : Documents) (how : How D) → IsWell how → IsLawful v.device → IsHow v s t how → IsReadIn v s t how → t.next.spool.dead ≡ false → IsSome (v.device.bytes s.spool.disk) → LeavesDocuments v.device documents s.spool → IsFor v s t (λ k. documents) how
turn_on v s t documents (answered o) well lawful how read lives tells has = λ h. answered_on v s t documents lawful (subst (λ p. IsReadFor v s.spool t.document p t.command) well read) tells has h
turn_on v s t documents withheld well lawful how read lives tells has = tt
turn_on v s t documents (ran rs) well lawful how read lives tells has = rans_on v s t documents rs (meaning v.mime s.spool.state t.document t.command) lawful how lives tells has
  where
    rans_on : {D : Type 0} (v : Setting D) (s : RunState D) (t : CommandStep D) (documents : Documents) (rs : List (Ran D)) (w : Meaning) → IsLawful v.device → AreRunBy v w s rs t.next t.text → t.next.spool.dead ≡ false → IsSome (v.device.bytes s.spool.disk) → LeavesDocuments v.device documents s.spool → AreFor v (λ k. documents) rs
    rans_on v s t documents rs (says text) lawful h lives tells has = absurd h
    rans_on v s t documents rs (asks e line) lawful h lives tells has = absurd h
    rans_on v s t documents rs lists lawful h lives tells has = absurd h
    rans_on v s t documents rs (runs most line) lawful h lives tells has = rounds_on v s rs t.next documents lawful h.each lives tells has

-- ## The documents after it

sent_by_meaning : (s : State) (documents : Documents) (w : Meaning) → documents_sent s documents (listed (event_in w)) ≡ documents_by s documents w
sent_by_meaning s documents (says text) = refl
sent_by_meaning s documents (asks e line) = refl
sent_by_meaning s documents lists = refl
sent_by_meaning s documents (runs most line) = refl

-- A close sends nothing.
close_sends : (m : Mime) (s : State) (job : ℕ) (name document other : List ℕ) (documents : Documents) (o : Option Refusal)
    → unless_refused_sent documents (events.Close (closing_of m s document job name)) o ≡ unless_refused_sent documents (events.Close (closing_of m s other job name)) o
close_sends m s job name document other documents None = refl
close_sends m s job name document other documents (Some r) = refl

sends_same : (m : Mime) (s : State) (document : List ℕ) (documents : Documents) (c : Command) → documents_by s documents (meaning m s document c) ≡ documents_by s documents (meaning m s (document_for documents c) c)
sends_same m s document documents c = ⊎_elim
    (λ closes. subst (λ d. documents_by s documents (meaning m s document d) ≡ documents_by s documents (meaning m s (document_for documents d) d)) (sym closes.2)
    (close_sends m s closes.0 closes.1 document (documents closes.0) documents (refusal_of s (events.Close (closing_of m s document closes.0 closes.1)))))
    (λ same. ap (documents_by s documents) (same m s document _))
    (closes_or_same c)

rounds_send : {D : Type 0} (v : Setting D) (w : Meaning) (s : RunState D) (rs : List (Ran D)) (new : RunState D) (text : List ℕ) (documents : Documents) → AreRunBy v w s rs new text → documents ≡ documents_by s.spool.state documents w
rounds_send v (says said) s rs new text documents h = absurd h
rounds_send v (asks e line) s rs new text documents h = absurd h
rounds_send v lists s rs new text documents h = absurd h
rounds_send v (runs most line) s rs new text documents h = refl

-- The command is not withheld.
plain_after : {D : Type 0} (v : Setting D) (s : RunState D) (x : ScriptState) (t : CommandStep D) (documents : Documents) → s.spool.state ≡ x.state → s.slots ≡ x.slots → withholds s.slots t.command ≡ false → documents_by s.spool.state documents (meaning v.mime s.spool.state t.document t.command) ≡ documents_after v.mime x documents t.command
plain_after v s x t documents e f free =
    sends_same v.mime s.spool.state t.document documents t.command
    ∙ ap (λ z. documents_by z documents (meaning v.mime z (document_for documents t.command) t.command)) e
    ∙ ap (documents_by x.state documents) (plain_meaning v.mime x s.slots (document_for documents t.command) t.command f free)

left_after : {D : Type 0} (v : Setting D) (s : RunState D) (x : ScriptState) (t : CommandStep D) (documents : Documents) (how : How D) → IsWell how → s.spool.state ≡ x.state → s.slots ≡ x.slots → IsHow v s t how → documents_by_how s documents (event_of v.mime s.spool.state t.document t.command) how ≡ documents_after v.mime x documents t.command
left_after v s x t documents (answered o) well e f how =
    ap (λ p. documents_sent s.spool.state documents (tried_as (event_of v.mime s.spool.state t.document t.command) p)) well
    ∙ sent_by_meaning s.spool.state documents (meaning v.mime s.spool.state t.document t.command)
    ∙ plain_after v s x t documents e f how.2
left_after v s x t documents (ran rs) well e f how =
    rounds_send v (meaning v.mime s.spool.state t.document t.command) s rs t.next t.text documents how
    ∙ plain_after v s x t documents e f (runs_free v s rs t.next t.text s.spool.state s.slots t.document t.command how)
left_after v s x t documents withheld well e f how = ap (documents_by x.state documents) (withheld_meaning v.mime x s.slots (document_for documents t.command) t.command f how.is)

-- ## A run

lives_before : {D : Type 0} (v : Setting D) (s : RunState D) (ts : List (CommandStep D)) (b : Bool) → s.spool.dead ≡ b → AreCommandSteps v s ts → (last_run_state s ts).spool.dead ≡ false → s.spool.dead ≡ false
lives_before v s ts true is h lives = let died = ap (λ x. x.dead) (dead_last v s ts is h) ∙ is in absurd cc
lives_before v s ts false is h lives = is

turns_on : {D : Type 0} (finish : FinishLaw) (v : Setting D) (s : RunState D) (x : ScriptState) (documents : Documents) (ts : List (CommandStep D)) → IsLawful v.device → AreCommandSteps v s ts → AllServed ts → s.spool.state ≡ x.state → s.slots ≡ x.slots → IsTelling s x ⊎ HasNoRounds (commands_in ts)
    → (last_run_state s ts).spool.dead ≡ false → IsSome (v.device.bytes s.spool.disk) → LeavesDocuments v.device documents s.spool
    → AreSaid v s x ts (asked_on v.mime v.place x documents (commands_in ts)) × LeavesDocuments v.device (documents_on v.mime v.place x documents (commands_in ts)) (last_run_state s ts).spool
turns_on finish v s x documents [] lawful h k e f may lives tells has = (none_said v s x e, has)
turns_on finish v s x documents (t ∷ ts) lawful h k e f may lives tells has =
    let alive = lives_before v t.next ts t.next.spool.dead refl h.1 lives in
    let one = turn_exact finish v s x t (λ k. documents) t.how k.0 e f (⊎_elim (λ tell. inl tell) (λ plain. inr plain.0) may) (turn_on v s t documents t.how k.0 lawful h.0.how h.0.read alive tells has) h.0.how in
    let y = after_command v.mime v.place x (asked_with documents t.command) in
    let after = documents_after v.mime x documents t.command in
    let left : LeavesDocuments v.device after t.next.spool =
    subst (λ d. LeavesDocuments v.device d t.next.spool) (left_after v s x t documents t.how k.0 e f h.0.how) (h.0.lasting alive tells documents has) in
    let (more, last) = turns_on finish v t.next y after ts lawful h.1 k.1 one.said.state one.slots (⊎_elim (λ tell. inl (one.telling tell)) (λ plain. inr plain.1) may) lives (h.0.told.1 tells) left in
    (then_said v s x t ts (λ k. documents) (asked_on v.mime v.place y after (commands_in ts)) one more, last)

pub run_on : {D : Type 0} (law : VersionLaw) (finish : FinishLaw) (v : Setting D) (s s' : RunState D) (text : List ℕ) (documents : Documents) (ts : List (CommandStep D)) (a d : Option (List ℕ)) → IsLawful v.device → Lead v s ts s' → commands_in ts ≡ commands_of text → Appends a d (texts_of ts) → AllServed ts
    → s'.spool.dead ≡ false → IsSome (v.device.bytes s.spool.disk) → LeavesDocuments v.device documents s.spool → IsExactWith v s text documents s' a d
run_on law finish v s s' text documents ts a d lawful lead all wrote every lives tells has =
    let alive : (last_run_state s ts).spool.dead ≡ false = subst (λ y. y.spool.dead ≡ false) (sym lead.last) lives in
    let both = λ (x : ScriptState) (e : s.spool.state ≡ x.state) (f : s.slots ≡ x.slots) (may : IsTelling s x ⊎ HasNoRounds (commands_in ts)). turns_on finish v s x documents ts lawful lead.legal every e f may alive tells has in
    record {
      script = exact_of law v s s' text ts (λ x. asked_on v.mime v.place x documents (commands_of text)) a d lead.last all wrote
          (λ x e f may. subst (λ cs. AreSaid v s x ts (asked_on v.mime v.place x documents cs)) all (both x e f may).0);
      lasting = λ t which.
          let x = script_state_with s t in
          let may : IsTelling s x ⊎ HasNoRounds (commands_in ts) = ⊎_elim (λ none. inr (subst HasNoRounds (sym all) none)) (λ told. inl (record { slots = refl; told = told.0; tickets = told.1 })) which in
          subst (λ cs. LeavesDocuments v.device (documents_on v.mime v.place x documents cs) s'.spool) all
          (subst (λ y. LeavesDocuments v.device (documents_on v.mime v.place x documents (commands_in ts)) y.spool) lead.last (both x refl refl may).1);
    }
