-- The effect of a crash in a part of a round: the table after the first of the events that were tried in it, and the documents.
use Rattle.std.proofs.Common.{◌≡◌, ◌≤◌, ◌⊎◌, ⊎_elim, inl, inr, ℕ, ◌+◌, Bool, true, false, List, [], ◌∷◌, ◌++◌, length, take, Option, Some, None, Ok, Err, refl, sym, ap, subst, ◌∙◌, arith, append-nil, length-append}
use Rattle.std.proofs.Math.Seq.{take-append-add}
use Rattle.std.proofs.lemmas.List.{take-append-le}
use Rattle.std.specs.FinMap as finite
use Rattle.std.specs.Prelude.{IsSome}
use Rattle.spool_disk.specs.Disk.{DiskView, IsLawful, LeavesOnly, ChangesNothing}
use Rattle.spool_disk.proofs.Moments.{at_return, started, runs_on, weaker_run}
use Rattle.spool_types.specs.declared.event.Event.{Event}
use Rattle.spool_types.specs.declared.event.Event.TheVariants.{Start, Stage}
use Rattle.spool_types.specs.declared.event.Reply.{Reply}
use Rattle.spool_types.specs.declared.refusal.Refusal.{Refusal}
use Rattle.spool_types.specs.Sent.{sent_by, sent_to}
use Rattle.spool_types.specs.State.{State}
use Rattle.job_table.specs.Attempts.{next_of}
use Rattle.job_table.specs.EventFold.{after_one, after_all}
use Rattle.job_table.specs.Step.{refusal_of}
use Rattle.spool_core.specs.Image.{HasTable, HasDocument, HasDocuments, HasWhole, documents_after_one, unless_refused_sent}
use Rattle.spool_core.specs.OpenSpools.{OpenSpool}
use Rattle.spool_core.specs.declared.spool.apply_fault.ApplyFault.TheVariants as faults
use Rattle.filter_args.specs.declared.place.Place.{Place}
use Rattle.child_pipeline.specs.StageSlots.{Slots, end_in}
use Rattle.child_pipeline.specs.ChildTraces.{ChildTrace}
use Rattle.print_rounds.specs.Counts.{tried_by, start_events, start_tried, starting_events, starting_tried, report_events, report_tried, ending_events, ending_tried}
use Rattle.print_rounds.specs.RunStates.{RunState, run_state, Answer, IsApplied, Starting, IsStartingOf, AreStartings, Launching, AreLaunchings, AreReads, AreHanded, Ending, IsEnding, IsEndingOf, AreEndings, IsReport, is_silent}
use Rattle.print_rounds.specs.declared.outcome.Report.{Report}
use Rattle.print_rounds.specs.declared.outcome.Report.TheVariants as reports
use Rattle.print_rounds.specs.Rounds.{HasSomeOf, HasSomeWhole, LeavesDocuments}
use Rattle.print_rounds.proofs.PartLaws.{IsPart, alive_before, both_parts, starts_part, start_part, reads_part, end_part, ends_part}
use Rattle.print_rounds.proofs.PrefixLaws.{after_both}
use Rattle.print_rounds.proofs.LaunchLaws.{some_of}
use Rattle.print_rounds.proofs.ReadLaws.{reads_state, reads_still, reads_handed}

-- The image is as required after the first of these events, some or all.
abbrev pub HasSome : (State → List ℕ → Type 0) → State → List Event → List ℕ → Type 0
HasSome Left s events image = (k : ℕ) × (k ≤ length events) × Left (after_all s (take k events)) image

module _ (Left : State → List ℕ → Type 0) where
  pub none_left : (s : State) (es : List Event) (c : List ℕ) → Left s c → HasSome Left s es c
  none_left s es c has = (0, omega arith, has)

  -- Some of the first events, and then more.
  pub first_left : (s : State) (es fs : List Event) (c : List ℕ) → HasSome Left s es c → HasSome Left s (es ++ fs) c
  first_left s es fs c (k, high, has) =
      (k, omega (arith, high, length-append es fs), subst (λ l. Left (after_all s l) c) (sym (take-append-le k es fs high)) has)

  -- All of the first events, and some more.
  pub later_left : (s t : State) (es fs : List Event) (c : List ℕ) → t ≡ after_all s es → HasSome Left t fs c → HasSome Left s (es ++ fs) c
  later_left s t es fs c is (k, high, has) = (
    length es + k,
    omega (arith, high, length-append es fs),
    subst (λ u. Left u c) (ap (λ u. after_all u (take k fs)) is ∙ sym (after_both s es (take k fs)) ∙ ap (after_all s) (sym (take-append-add es fs k))) has,
  )

-- A property of the images that a crash leaves, and the property of a spool that it requires. An event that sends nothing leaves images as
-- before or after it, and while the device works the spool keeps its property. Reads keep it too.
pub record IsLasting {D : Type 0} (device : DiskView D) (Given : OpenSpool D → Type 0) (Left : State → List ℕ → Type 0) : Type 0 where
  pub one : (old : OpenSpool D) (e : Event) (a : Answer) (new : OpenSpool D) → sent_by e ≡ None → IsApplied device old e a new → old.dead ≡ false → IsSome (device.bytes old.disk) → Given old →
      LeavesOnly device old.disk new.disk (λ c. Left old.state c ⊎ Left (after_one old.state e) c)
  pub next : (old : OpenSpool D) (e : Event) (a : Answer) (new : OpenSpool D) → sent_by e ≡ None → IsApplied device old e a new → new.dead ≡ false → IsSome (device.bytes old.disk) → Given old → Given new
  pub read : (old new : OpenSpool D) → new.state ≡ old.state → ChangesNothing device old.disk new.disk → Given old → Given new

module _ {D : Type 0} (device : DiskView D) (lawful : IsLawful device) (Given : OpenSpool D → Type 0) (Left : State → List ℕ → Type 0) (lasting : IsLasting device Given Left) where
  -- A crash in a part leaves an image that was possible before, or one after the first of the events.
  pub record Crashes (old : OpenSpool D) (tried : List Event) (new : OpenSpool D) : Type 0 where
    pub left : old.dead ≡ false → IsSome (device.bytes old.disk) → Given old → LeavesOnly device old.disk new.disk (λ c. device.image old.disk c ⊎ HasSome Left old.state tried c)
    pub keeps : new.dead ≡ false → IsSome (device.bytes old.disk) → Given old → Given new

  -- Nothing is done.
  still : (old new : OpenSpool D) (tried : List Event) → new ≡ old → Crashes old tried new
  still old new tried same = subst (λ (s : OpenSpool D). Crashes old tried s) (sym same) (record {
    left = λ alive tells given. started device old.disk _ (λ c since. inl (lawful.only_now old.disk c since));
    keeps = λ lives tells given. given;
  })

  -- One part, followed by another.
  module _ (old mid new : OpenSpool D) (es fs xs ys : List Event) (first : IsPart device old es xs mid) (more : IsPart device mid fs ys new) (one : Crashes old es mid) (two : Crashes mid fs new) where
    first_run : LeavesOnly device old.disk mid.disk (λ c. device.image old.disk c ⊎ HasSome Left old.state es c) → LeavesOnly device old.disk mid.disk (λ c. device.image old.disk c ⊎ HasSome Left old.state (es ++ fs) c)
    first_run run = weaker_run device old.disk mid.disk _ _ run (λ c. ⊎_elim (λ now. inl now) (λ some. inr (first_left Left old.state es fs c some)))

    by_dead : (b : Bool) → mid.dead ≡ b → IsSome (device.bytes old.disk) → Given old → LeavesOnly device old.disk mid.disk (λ c. device.image old.disk c ⊎ HasSome Left old.state es c)
        → LeavesOnly device old.disk new.disk (λ c. device.image old.disk c ⊎ HasSome Left old.state (es ++ fs) c)
    by_dead true is tells given run =
        subst (λ (s : OpenSpool D). LeavesOnly device old.disk s.disk (λ c. device.image old.disk c ⊎ HasSome Left old.state (es ++ fs) c)) (sym (more.dead is)) (first_run run)
    by_dead false is tells given run =
        let table : mid.state ≡ after_all old.state es = first.table ∙ ap (after_all old.state) (sym (first.acknowledged is)) in
        runs_on device old.disk mid.disk new.disk _ _ (first_run run) (two.left is (first.told.1 tells) (one.keeps is tells given))
        (λ c. ⊎_elim (λ now. at_return device lawful old.disk mid.disk _ (first_run run) c now) (λ some. inr (later_left Left old.state mid.state es fs c table some)))

    pub both_crash : Crashes old (es ++ fs) new
    both_crash = record {
      left = λ alive tells given. by_dead mid.dead refl tells given (one.left alive tells given);
      keeps = λ lives tells given.
          let works : mid.dead ≡ false = alive_before device mid new fs ys more lives in
          two.keeps lives (first.told.1 tells) (one.keeps works tells given);
    }

  one_crash : (old : OpenSpool D) (e : Event) (a : Answer) (new : OpenSpool D) → sent_by e ≡ None → IsApplied device old e a new → Crashes old (tried_by e a) new
  one_crash old e a new none is = record {
    left = by_answer a is;
    keeps = lasting.next old e a new none is;
  }
    where
      run : (x : Answer) → IsApplied device old e x new → old.dead ≡ false → IsSome (device.bytes old.disk) → Given old → LeavesOnly device old.disk new.disk (λ c. device.image old.disk c ⊎ HasSome Left old.state (e ∷ []) c)
      run x applied alive tells given = weaker_run device old.disk new.disk _ _ (lasting.one old e x new none applied alive tells given)
          (λ c. ⊎_elim (λ before. inr (none_left Left old.state (e ∷ []) c before)) (λ after. inr (1, omega arith, after)))

      by_answer : (x : Answer) → IsApplied device old e x new → old.dead ≡ false → IsSome (device.bytes old.disk) → Given old → LeavesOnly device old.disk new.disk (λ c. device.image old.disk c ⊎ HasSome Left old.state (tried_by e x) c)
      by_answer (Ok reply) applied = run (Ok reply) applied
      by_answer (Err faults.Dead) applied = (still old new [] applied.cause.1).left
      by_answer (Err (faults.Refused refusal)) applied = (still old new [] applied.cause.2).left
      by_answer (Err faults.Memory) applied = (still old new [] applied.cause.2).left
      by_answer (Err faults.Full) applied = (still old new [] applied.cause.1).left
      by_answer (Err faults.Disk) applied = run (Err faults.Disk) applied

  -- ## The steps

  start_crash : (old : OpenSpool D) (o : Option ℕ) (answer : Option Answer) (new : OpenSpool D) → IsStartingOf device old o answer new → Crashes old (start_tried o answer) new
  start_crash old None answer new (none, same) = still old new [] same
  start_crash old (Some j) None new is = absurd is
  start_crash old (Some j) (Some a) new (accepted, is) = one_crash old (Start j) a new refl is

  pub starts_crash : (old : OpenSpool D) (ts : List (Starting D)) (new : OpenSpool D) → AreStartings device old ts new → Crashes old (starting_tried old ts) new
  starts_crash old [] new same = still old new [] same
  starts_crash old (t ∷ ts) new (start, starts) =
      let o = next_of old.state t.queue in
      both_crash old t.next new (start_tried o t.answer) (starting_tried t.next ts) (start_events o t.answer) (starting_events t.next ts)
      (start_part device old o t.answer t.next start) (starts_part device t.next ts new starts) (start_crash old o t.answer t.next start) (starts_crash t.next ts new starts)

  reads_crash : (old : OpenSpool D) (ts : List Launching) (new : OpenSpool D) → AreReads device old ts new → Crashes old [] new
  reads_crash old ts new reads =
      let same = reads_still device lawful old ts new reads in
      record {
        left = λ alive tells given. weaker_run device old.disk new.disk _ _ same.images (λ c now. inl now);
        keeps = λ lives tells given. lasting.read old new (reads_state device old ts new reads) same given;
      }

  report_crash : (old : RunState D) (j : ℕ) (r : Report) (new : RunState D) → IsReport device old j r new → Crashes old.spool (report_tried (Stage (end_in old.slots j)) r) new.spool
  report_crash old j reports.Silent new none = absurd none
  report_crash old j reports.NoMemory new same = still old.spool new.spool [] (ap (λ (c : RunState D). c.spool) same)
  report_crash old j (reports.Answered a) new report = one_crash old.spool (Stage (end_in old.slots j)) a new.spool refl report.0

  end_crash : (old : RunState D) (e : Ending D) → IsEnding device old e → Crashes old.spool (report_tried (Stage (end_in e.kept.slots e.job)) e.report) e.next.spool
  end_crash old e ends = by_silence (is_silent (finite.get old.slots e.job)) ends
    where
      event : Event
      event = Stage (end_in e.kept.slots e.job)

      by_silence : (b : Bool) → IsEndingOf device old b e → Crashes old.spool (report_tried event e.report) e.next.spool
      by_silence true (silent, kept, same) = still old.spool e.next.spool (report_tried event e.report) (ap (λ (c : RunState D). c.spool) same)
      by_silence false (finishes, same, report) =
          subst (λ (x : OpenSpool D). Crashes x (report_tried event e.report) e.next.spool) same (report_crash e.kept e.job e.report e.next report)

  ends_crash : (old : RunState D) (es : List (Ending D)) (new : RunState D) → AreEndings device old es new → Crashes old.spool (ending_tried es) new.spool
  ends_crash old [] new same = still old.spool new.spool [] (ap (λ (c : RunState D). c.spool) same)
  ends_crash old (e ∷ es) new ends =
      let event = Stage (end_in e.kept.slots e.job) in
      both_crash old.spool e.next.spool new.spool (report_tried event e.report) (ending_tried es) (report_events event e.report) (ending_events es)
      (end_part device old e ends.0) (ends_part device e.next es new ends.1) (end_crash old e ends.0) (ends_crash e.next es new ends.1)

-- ## Tables, and documents

pub tables_last : {D : Type 0} (device : DiskView D) → IsLasting device (λ s. Unit {0}) HasTable
tables_last device = record {
  one = λ old e a new none is alive tells given. is.crash alive tells;
  next = λ old e a new none is lives tells given. tt;
  read = λ old new state same given. tt;
}

-- An event that sends nothing leaves the documents unchanged.
unsent : (s : State) (documents : ℕ → List ℕ) (e : Event) (j : ℕ) → sent_by e ≡ None → documents_after_one s documents e j ≡ documents j
unsent s documents e j none = by_cause (refusal_of s e)
  where
    by_cause : (cause : Option Refusal) → unless_refused_sent documents e cause j ≡ documents j
    by_cause None = ap (λ o. documents j ++ sent_to j o) none ∙ append-nil (documents j)
    by_cause (Some refusal) = refl

same_documents : (s t : State) (documents : ℕ → List ℕ) (e : Event) (c : List ℕ) → sent_by e ≡ None → HasDocuments t (documents_after_one s documents e) c → HasDocuments t documents c
same_documents s t documents e c none has = λ j lasts. subst (λ d. HasDocument j d c) (unsent s documents e j none) (has j lasts)

same_whole : (s t : State) (documents : ℕ → List ℕ) (e : Event) (c : List ℕ) → sent_by e ≡ None → HasWhole t (documents_after_one s documents e) c → HasWhole t documents c
same_whole s t documents e c none (table, has) = (table, same_documents s t documents e c none has)

-- The bytes that a disk reports have these documents.
abbrev pub TellsDocuments : {D : Type 0} → DiskView D → (ℕ → List ℕ) → OpenSpool D → Type 0
TellsDocuments device documents s = (bytes : List ℕ) → device.bytes s.disk ≡ Some bytes → HasDocuments s.state documents bytes

some_bytes : (o : Option (List ℕ)) → IsSome o → (bytes : List ℕ) × (o ≡ Some bytes)
some_bytes None some = absurd (cc)
some_bytes (Some bytes) some = (bytes, refl)

module _ {D : Type 0} (device : DiskView D) (lawful : IsLawful device) (documents : ℕ → List ℕ) where
  sent_run : (old : OpenSpool D) (e : Event) (a : Answer) (new : OpenSpool D) → sent_by e ≡ None → IsApplied device old e a new → old.dead ≡ false → IsSome (device.bytes old.disk) → TellsDocuments device documents old →
      LeavesOnly device old.disk new.disk (λ c. HasWhole old.state documents c ⊎ HasWhole (after_one old.state e) documents c)
  sent_run old e a new none is alive tells given =
      let (bytes, has) = some_bytes (device.bytes old.disk) tells in
      weaker_run device old.disk new.disk _ _ (is.whole alive bytes documents has (given bytes has))
      (λ c. ⊎_elim (λ before. inl before) (λ after. inr (same_whole old.state (after_one old.state e) documents e c none after)))

  sent_images : (old : OpenSpool D) (e : Event) (reply : Reply) (new : OpenSpool D) → sent_by e ≡ None → IsApplied device old e (Ok reply) new → IsSome (device.bytes old.disk) → TellsDocuments device documents old → LeavesDocuments device documents new
  sent_images old e reply new none is tells given = λ c now.
      let (bytes, has) = some_bytes (device.bytes old.disk) tells in
      same_documents old.state new.state documents e c none (is.sent bytes documents has (given bytes has) c now)

  pub told_of : (s : OpenSpool D) → LeavesDocuments device documents s → TellsDocuments device documents s
  told_of s given = λ bytes has. given bytes (lawful.reads_image s.disk bytes has)

  -- The property after an answer, given the property after an acknowledged event.
  by_answer : (Given : OpenSpool D → Type 0) (old : OpenSpool D) (e : Event) (a : Answer) (new : OpenSpool D) → IsApplied device old e a new → new.dead ≡ false → Given old → ((reply : Reply) → a ≡ Ok reply → Given new) → Given new
  by_answer Given old e (Ok reply) new is lives given sent = sent reply refl
  by_answer Given old e (Err faults.Dead) new is lives given sent = subst Given (sym is.cause.1) given
  by_answer Given old e (Err (faults.Refused refusal)) new is lives given sent = subst Given (sym is.cause.2) given
  by_answer Given old e (Err faults.Memory) new is lives given sent = subst Given (sym is.cause.2) given
  by_answer Given old e (Err faults.Full) new is lives given sent = subst Given (sym is.cause.1) given
  by_answer Given old e (Err faults.Disk) new is lives given sent = let died = is.cause.dead in absurd (cc)

  -- By the bytes that the disk reports.
  pub told_last : IsLasting device (TellsDocuments device documents) (λ s c. HasWhole s documents c)
  told_last = record {
    one = sent_run;
    next = λ old e a new none is lives tells given. by_answer (TellsDocuments device documents) old e a new is lives given (λ reply ok.
        told_of new (sent_images old e reply new none (subst (λ x. IsApplied device old e x new) ok is) tells given));
    read = λ old new state same given bytes has. subst (λ s. HasDocuments s documents bytes) (sym state) (given bytes (sym same.bytes ∙ has));
  }

  -- By all images.
  pub left_last : IsLasting device (LeavesDocuments device documents) (λ s c. HasWhole s documents c)
  left_last = record {
    one = λ old e a new none is alive tells given. sent_run old e a new none is alive tells (told_of old given);
    next = λ old e a new none is lives tells given. by_answer (LeavesDocuments device documents) old e a new is lives given (λ reply ok.
        sent_images old e reply new none (subst (λ x. IsApplied device old e x new) ok is) tells (told_of old given));
    read = λ old new state same given c now. subst (λ s. HasDocuments s documents c) (sym state) (given c (at_return device lawful old.disk new.disk _ same.images c now));
  }

-- ## A whole round

-- Until the device has failed, a crash leaves the table.
abbrev pub IsKept : {D : Type 0} → DiskView D → OpenSpool D → Type 0
IsKept device s = s.dead ≡ false → IsSome (device.bytes s.disk) → (c : List ℕ) → device.image s.disk c → HasTable s.state c

module _ {D : Type 0} (device : DiskView D) (lawful : IsLawful device) (old mid : OpenSpool D) (ts : List (Starting D)) (starts : AreStartings device old ts mid) (ls : List Launching) (read : OpenSpool D) (reads : AreReads device mid ls read) (slots : Slots) (told : Option ChildTrace) (es : List (Ending D)) (new : RunState D) (ends : AreEndings device (run_state read slots told) es new) where
  rest_part : IsPart device mid (ending_tried es) (ending_events es) new.spool
  rest_part = both_parts device mid read new.spool [] (ending_tried es) [] (ending_events es) (reads_part device mid ls read lawful reads) (ends_part device (run_state read slots told) es new ends)

  -- The starts, the reads and the ends.
  pub round_part : IsPart device old (starting_tried old ts ++ ending_tried es) (starting_events old ts ++ ending_events es) new.spool
  round_part = both_parts device old mid new.spool (starting_tried old ts) (ending_tried es) (starting_events old ts) (ending_events es) (starts_part device old ts mid starts) rest_part

  module _ (Given : OpenSpool D → Type 0) (Left : State → List ℕ → Type 0) (lasting : IsLasting device Given Left) where
    rest_crash : Crashes device lawful Given Left lasting mid (ending_tried es) new.spool
    rest_crash = both_crash device lawful Given Left lasting mid read new.spool [] (ending_tried es) [] (ending_events es) (reads_part device mid ls read lawful reads) (ends_part device (run_state read slots told) es new ends)
        (reads_crash device lawful Given Left lasting mid ls read reads) (ends_crash device lawful Given Left lasting (run_state read slots told) es new ends)

    round_crash : Crashes device lawful Given Left lasting old (starting_tried old ts ++ ending_tried es) new.spool
    round_crash = both_crash device lawful Given Left lasting old mid new.spool (starting_tried old ts) (ending_tried es) (starting_events old ts) (ending_events es) (starts_part device old ts mid starts) rest_part
        (starts_crash device lawful Given Left lasting old ts mid starts) rest_crash

  module _ (kept : IsKept device old) where
    -- A crash at any moment of the round leaves the table after the first of the events that were tried.
    pub any_moment : old.dead ≡ false → IsSome (device.bytes old.disk) → LeavesOnly device old.disk new.spool.disk (HasSomeOf old.state (starting_tried old ts ++ ending_tried es))
    any_moment alive tells = weaker_run device old.disk new.spool.disk _ _ ((round_crash (λ s. Unit {0}) HasTable (tables_last device)).left alive tells tt)
        (λ c. ⊎_elim (λ now. (0, omega arith, omega arith, kept alive tells c now)) (λ some. (some.0, omega arith, some.1, some.2)))

    -- It leaves the documents that all images had before the round.
    pub any_whole : old.dead ≡ false → IsSome (device.bytes old.disk) → (documents : ℕ → List ℕ) → LeavesDocuments device documents old → LeavesOnly device old.disk new.spool.disk (HasSomeWhole old.state documents (starting_tried old ts ++ ending_tried es))
    any_whole alive tells documents given = weaker_run device old.disk new.spool.disk _ _ ((round_crash (LeavesDocuments device documents) (λ s c. HasWhole s documents c) (left_last device lawful documents)).left alive tells given)
        (λ c. ⊎_elim (λ now. (0, omega arith, (kept alive tells c now, given c now))) (λ some. some))

  -- All images have these documents after the round.
  pub lasting : new.spool.dead ≡ false → IsSome (device.bytes old.disk) → (documents : ℕ → List ℕ) → LeavesDocuments device documents old → LeavesDocuments device documents new.spool
  lasting lives tells documents given = (round_crash (LeavesDocuments device documents) (λ s c. HasWhole s documents c) (left_last device lawful documents)).keeps lives tells given

  -- The documents that are read if the disk reports its bytes.
  pub handed : mid.dead ≡ false → (bytes : List ℕ) (documents : ℕ → List ℕ) → device.bytes old.disk ≡ Some bytes → HasDocuments old.state documents bytes → (place : Place) (own own' : Slots) (seen seen' : Option ChildTrace) → AreLaunchings place mid.state own seen ls own' seen' → AreHanded documents ls
  handed lives bytes documents has given place own own' seen seen' launches =
      let start = starts_crash device lawful (TellsDocuments device documents) (λ s c. HasWhole s documents c) (told_last device lawful documents) old ts mid starts in
      let tells : IsSome (device.bytes old.disk) = subst IsSome (sym has) refl in
      let (more, here) = some_bytes (device.bytes mid.disk) ((starts_part device old ts mid starts).told.1 tells) in
      let there : TellsDocuments device documents old = λ b is. subst (HasDocuments old.state documents) (some_of bytes b (sym has ∙ is)) given in
      reads_handed device place mid.state documents more (start.keeps lives tells there more here) mid own seen ls read own' seen' here launches reads
