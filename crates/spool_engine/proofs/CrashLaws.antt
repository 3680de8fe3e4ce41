-- Crashes in a list of steps.
use Rattle.std.proofs.Common.{◌≡◌, ℕ, List, [], ◌∷◌, ◌++◌, refl, ap, sym, ◌∙◌, subst, inl, inr, true, false, Bool, Result, Ok, Err}
use Rattle.std.specs.Prelude.{IsSome}
use Rattle.spool_types.specs.declared.event.Event.{Event}
use Rattle.spool_types.specs.declared.event.Reply.{Reply}
use Rattle.spool_types.specs.declared.refusal.Refusal.{Refusal}
use Rattle.spool_types.specs.State.{State}
use Rattle.job_table.specs.Step.{step}
use Rattle.spool_disk.specs.Disk.{DiskView, LeavesOnly}
use Rattle.spool_disk.proofs.Moments.{runs_on, weaker_run}
use Rattle.spool_core.specs.OpenSpools.{OpenSpool}
use Rattle.spool_core.specs.Checkpointing.{IsCheckpoint}
use Rattle.spool_core.specs.declared.spool.checkpoint_fault.CheckpointFault.{CheckpointFault}
use Rattle.spool_core.specs.declared.spool.checkpoint_fault.CheckpointFault.TheVariants as listing
use Rattle.print_rounds.specs.RunStates.{RunState}
use Rattle.spool_engine.specs.Script.{Documents, Meaning, says, asks, lists, runs, meaning}
use Rattle.print_rounds.specs.Rounds.{LeavesDocuments}
use Rattle.spool_engine.specs.EventSteps.{Setting, Outcome, EventStep, served, no_memory, full, disk, dead, unread, unreadable, unlisted, IsTaken, IsServedBy, IsOutcome, IsKept, HasTableIn}
use Rattle.spool_engine.specs.EngineRounds.{Ran, AreRunBy}
use Rattle.spool_engine.specs.EngineRuns.{CommandStep, How, answered, ran, withheld, event_step, tried_in, documents_left, HasSomeIn, IsHow, IsCommandStep, IsAlong, IsWholeAlong, AreCommandSteps, last_run_state, last_documents}
use Rattle.spool_engine.proofs.EventLaws.{OnlyNow, unmoved, unmoved_whole}
use Rattle.spool_engine.proofs.RoundLaws.{dead_rans}

-- A dead spool takes no event.
dead_taken : {D : Type 0} (s : OpenSpool D) (e : Event) (r : Result (State × Reply) Refusal) (s' : OpenSpool D) → s.dead ≡ true → IsTaken s e r s' → s' ≡ s
dead_taken s e (Ok r) s' is h = let alive = h.fits.alive in cc
dead_taken s e (Err refusal) s' is h = h.1

dead_served : {D : Type 0} (v : DiskView D) (s : OpenSpool D) (w : Meaning) (reply : List ℕ) (s' : OpenSpool D) → s.dead ≡ true → IsServedBy v s w reply s' → s' ≡ s
dead_served v s (says text) reply s' is h = h.1
dead_served v s (asks e line) reply s' is h = dead_taken s e (step s.state e) s' is h.1
dead_served v s lists reply s' is h = let alive = h.1.may.alive in cc
dead_served v s (runs most line) reply s' is h = absurd h

-- A dead spool does not list its table.
dead_unlisted : {D : Type 0} (v : DiskView D) (s : OpenSpool D) (fault : CheckpointFault) (s' : OpenSpool D) → s.dead ≡ true → IsCheckpoint v s (Err fault) s' → s' ≡ s
dead_unlisted v s listing.Dead s' is h = h.1
dead_unlisted v s listing.EpochEnd s' is h = h.2
dead_unlisted v s listing.Memory s' is h = h.1
dead_unlisted v s listing.Full s' is h = h.2
dead_unlisted v s listing.Disk s' is h = let alive = h.may.alive in cc

dead_outcome : {D : Type 0} (v : Setting D) (s : OpenSpool D) (t : EventStep D) (o : Outcome) → s.dead ≡ true → IsOutcome v s t o → t.next ≡ s
dead_outcome v s t served is h = dead_served v.device s (meaning v.mime s.state t.document t.command) t.text t.next is h
dead_outcome v s t no_memory is h = let alive = h.cause.0 in cc
dead_outcome v s t full is h = let alive = h.cause.0.alive in cc
dead_outcome v s t disk is h = let alive = h.cause.fits.alive in cc
dead_outcome v s t dead is h = h.cause.1
dead_outcome v s t unread is h = h.same
dead_outcome v s t unreadable is h = let alive = h.fails.cause.1.alive in cc
dead_outcome v s t (unlisted fault) is h = dead_unlisted v.device s fault t.next is h.cause

dead_rounds : {D : Type 0} (v : Setting D) (w : Meaning) (s : RunState D) (rs : List (Ran D)) (new : RunState D) (reply : List ℕ) → s.spool.dead ≡ true → AreRunBy v w s rs new reply → new.spool ≡ s.spool
dead_rounds v (says text) s rs new reply is h = absurd h
dead_rounds v (asks e line) s rs new reply is h = absurd h
dead_rounds v lists s rs new reply is h = absurd h
dead_rounds v (runs most line) s rs new reply is h = dead_rans v s rs new is h.each

-- A dead spool does not change.
pub dead_still : {D : Type 0} (v : Setting D) (s : RunState D) (t : CommandStep D) (how : How D) → s.spool.dead ≡ true → IsHow v s t how → t.next.spool ≡ s.spool
dead_still v s t (answered outcome) is h = dead_outcome v s.spool (event_step t outcome) outcome is h.0
dead_still v s t withheld is h = ap (λ (c : RunState _). c.spool) h.same
dead_still v s t (ran rs) is h = dead_rounds v (meaning v.mime s.spool.state t.document t.command) s rs t.next t.text is h

pub dead_last : {D : Type 0} (v : Setting D) (s : RunState D) (ts : List (CommandStep D)) → s.spool.dead ≡ true → AreCommandSteps v s ts → (last_run_state s ts).spool ≡ s.spool
dead_last v s [] is h = refl
dead_last v s (t ∷ ts) is h =
    let same : t.next.spool ≡ s.spool = dead_still v s t t.how is h.0.how in
    dead_last v t.next ts (ap (λ x. x.dead) same ∙ is) h.1 ∙ same

-- A crash in a step leaves one of the tables along the steps.
one_turn : {D : Type 0} (v : Setting D) (m : RunState D) (t : CommandStep D) (ts : List (CommandStep D)) → IsCommandStep v m t → m.spool.dead ≡ false → IsSome (v.device.bytes m.spool.disk) → LeavesOnly v.device m.spool.disk t.next.spool.disk (IsAlong v.mime m (t ∷ ts))
one_turn v m t ts one alive tells = weaker_run v.device m.spool.disk t.next.spool.disk (IsAlong v.mime m (t ∷ ts)) (HasTableIn t.command m.spool.state (tried_in v.mime m t)) (one.crash alive tells) (λ c some. inl some)

-- A crash in a step or in the steps after it. The premise for the later steps requires that the spool is alive after the first one.
after_turn : {D : Type 0} (v : Setting D) (m : RunState D) (t : CommandStep D) (ts : List (CommandStep D)) (b : Bool) → t.next.spool.dead ≡ b → IsCommandStep v m t → AreCommandSteps v t.next ts → m.spool.dead ≡ false → IsSome (v.device.bytes m.spool.disk)
    → (t.next.spool.dead ≡ false → LeavesOnly v.device t.next.spool.disk (last_run_state t.next ts).spool.disk (IsAlong v.mime t.next ts))
    → LeavesOnly v.device m.spool.disk (last_run_state t.next ts).spool.disk (IsAlong v.mime m (t ∷ ts))
after_turn v m t ts false is one more alive tells rest = runs_on v.device m.spool.disk t.next.spool.disk (last_run_state t.next ts).spool.disk (IsAlong v.mime m (t ∷ ts)) (IsAlong v.mime t.next ts)
    (one_turn v m t ts one alive tells)
    (rest is)
    (λ c along. inr along)
after_turn v m t ts true is one more alive tells rest = subst (λ x. LeavesOnly v.device m.spool.disk x.disk (IsAlong v.mime m (t ∷ ts))) (sym (dead_last v t.next ts is more))
    (one_turn v m t ts one alive tells)

-- Steps from an open spool on.
pub along : {D : Type 0} (v : Setting D) (m : RunState D) (ts : List (CommandStep D)) → OnlyNow v.device → IsKept v.device m.spool → AreCommandSteps v m ts → m.spool.dead ≡ false → IsSome (v.device.bytes m.spool.disk) → LeavesOnly v.device m.spool.disk (last_run_state m ts).spool.disk (IsAlong v.mime m ts)
along v m [] now kept h alive tells = unmoved v.device m.spool (IsAlong v.mime m []) now kept (λ c has. has) alive tells
along v m (t ∷ ts) now kept h alive tells = after_turn v m t ts t.next.spool.dead refl h.0 h.1 alive tells (λ lives. along v t.next ts now h.0.kept h.1 lives (h.0.told.1 tells))

-- The same for the documents.
one_whole_turn : {D : Type 0} (v : Setting D) (m : RunState D) (documents : Documents) (t : CommandStep D) (ts : List (CommandStep D)) → IsCommandStep v m t → m.spool.dead ≡ false → IsSome (v.device.bytes m.spool.disk) → LeavesDocuments v.device documents m.spool → LeavesOnly v.device m.spool.disk t.next.spool.disk (IsWholeAlong v.mime m documents (t ∷ ts))
one_whole_turn v m documents t ts one alive tells has = weaker_run v.device m.spool.disk t.next.spool.disk (IsWholeAlong v.mime m documents (t ∷ ts)) (HasSomeIn v.mime m documents t) (one.whole alive tells documents has) (λ c some. inl some)

after_whole_turn : {D : Type 0} (v : Setting D) (m : RunState D) (documents : Documents) (t : CommandStep D) (ts : List (CommandStep D)) (b : Bool) → t.next.spool.dead ≡ b → IsCommandStep v m t → AreCommandSteps v t.next ts → m.spool.dead ≡ false → IsSome (v.device.bytes m.spool.disk) → LeavesDocuments v.device documents m.spool
    → (t.next.spool.dead ≡ false → LeavesDocuments v.device (documents_left v.mime m documents t) t.next.spool → LeavesOnly v.device t.next.spool.disk (last_run_state t.next ts).spool.disk (IsWholeAlong v.mime t.next (documents_left v.mime m documents t) ts))
    → LeavesOnly v.device m.spool.disk (last_run_state t.next ts).spool.disk (IsWholeAlong v.mime m documents (t ∷ ts))
after_whole_turn v m documents t ts false is one more alive tells has rest = runs_on v.device m.spool.disk t.next.spool.disk (last_run_state t.next ts).spool.disk (IsWholeAlong v.mime m documents (t ∷ ts)) (IsWholeAlong v.mime t.next (documents_left v.mime m documents t) ts)
    (one_whole_turn v m documents t ts one alive tells has)
    (rest is (one.lasting is tells documents has))
    (λ c along. inr along)
after_whole_turn v m documents t ts true is one more alive tells has rest = subst (λ x. LeavesOnly v.device m.spool.disk x.disk (IsWholeAlong v.mime m documents (t ∷ ts))) (sym (dead_last v t.next ts is more))
    (one_whole_turn v m documents t ts one alive tells has)

pub whole_along : {D : Type 0} (v : Setting D) (m : RunState D) (documents : Documents) (ts : List (CommandStep D)) → OnlyNow v.device → IsKept v.device m.spool → AreCommandSteps v m ts → m.spool.dead ≡ false → IsSome (v.device.bytes m.spool.disk) → LeavesDocuments v.device documents m.spool → LeavesOnly v.device m.spool.disk (last_run_state m ts).spool.disk (IsWholeAlong v.mime m documents ts)
whole_along v m documents [] now kept h alive tells has = unmoved_whole v.device m.spool documents (IsWholeAlong v.mime m documents []) now kept (λ c whole. whole) alive tells has
whole_along v m documents (t ∷ ts) now kept h alive tells has = after_whole_turn v m documents t ts t.next.spool.dead refl h.0 h.1 alive tells has (λ lives left. whole_along v t.next (documents_left v.mime m documents t) ts now h.0.kept h.1 lives (h.0.told.1 tells) left)

first_turns : {D : Type 0} (v : Setting D) (s : RunState D) (first others : List (CommandStep D)) → AreCommandSteps v s (first ++ others) → AreCommandSteps v s first
first_turns v s [] others h = tt
first_turns v s (t ∷ first) others h = (h.0, first_turns v t.next first others h.1)

told_first : {D : Type 0} (v : Setting D) (s : RunState D) (first others : List (CommandStep D)) → AreCommandSteps v s (first ++ others) → IsSome (v.device.bytes (last_run_state s first).spool.disk) → IsSome (v.device.bytes s.spool.disk)
told_first v s [] others h tells = tells
told_first v s (t ∷ first) others h tells = h.0.told.0 (told_first v t.next first others h.1 tells)

lives_first : {D : Type 0} (v : Setting D) (s : RunState D) (first others : List (CommandStep D)) (b : Bool) → s.spool.dead ≡ b → AreCommandSteps v s (first ++ others) → (last_run_state s first).spool.dead ≡ false → s.spool.dead ≡ false
lives_first v s first others true is h lives = let died = ap (λ x. x.dead) (dead_last v s first is (first_turns v s first others h)) ∙ is in absurd cc
lives_first v s first others false is h lives = is

-- The same after the first of the steps.
pub along_others : {D : Type 0} (v : Setting D) (s : RunState D) (first others : List (CommandStep D)) → OnlyNow v.device → IsKept v.device s.spool → AreCommandSteps v s (first ++ others) → (last_run_state s first).spool.dead ≡ false → IsSome (v.device.bytes (last_run_state s first).spool.disk) → LeavesOnly v.device (last_run_state s first).spool.disk (last_run_state s (first ++ others)).spool.disk (IsAlong v.mime (last_run_state s first) others)
along_others v s [] others now kept h alive tells = along v s others now kept h alive tells
along_others v s (t ∷ first) others now kept h alive tells = along_others v t.next first others now h.0.kept h.1 alive tells

pub whole_along_others : {D : Type 0} (v : Setting D) (s : RunState D) (documents : Documents) (first others : List (CommandStep D)) → OnlyNow v.device → IsKept v.device s.spool → AreCommandSteps v s (first ++ others) → (last_run_state s first).spool.dead ≡ false → IsSome (v.device.bytes (last_run_state s first).spool.disk) → LeavesDocuments v.device documents s.spool
    → LeavesOnly v.device (last_run_state s first).spool.disk (last_run_state s (first ++ others)).spool.disk (IsWholeAlong v.mime (last_run_state s first) (last_documents v.mime s documents first) others)
whole_along_others v s documents [] others now kept h alive tells has = whole_along v s documents others now kept h alive tells has
whole_along_others v s documents (t ∷ first) others now kept h alive tells has =
    let lives = lives_first v t.next first others t.next.spool.dead refl h.1 alive in
    whole_along_others v t.next (documents_left v.mime s documents t) first others now h.0.kept h.1 alive tells (h.0.lasting lives (told_first v s (t ∷ first) others h tells) documents has)
