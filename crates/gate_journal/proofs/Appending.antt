-- An append stages a record when nothing is staged, and settles it.
use Rattle.std.proofs.Common.{◌≡◌, ◌⊎◌, refl, sym, subst, ◌∙◌, ap, inl, inr, ⊎_elim, ℕ, ◌+◌, ◌-◌, ◌<◌, ◌≤◌, List, [], ◌∷◌, ◌++◌, length, arith, Option, Some, None, Result, Ok, Err}
use Rattle.std.proofs.lemmas.List.{append-nil}
use Rattle.std.specs.Option.{option_map}
use Rattle.std.specs.Prelude.{IsErrOf, IsTrue, true}
use Rattle.spool_disk.specs.Disk.{DiskView, IsLawful, LeavesOnly, ChangesOnly, overwritten}
use Rattle.spool_disk.proofs.Moments.{runs_on, weaker_run, wider_change, then_changes}
use Rattle.gate_journal.specs.Appends.{JournalState, Appends}
use Rattle.gate_journal.specs.Entries.{record_of, records, HasEntries, IsBeforeOrAfter, KeepsEntries}
use Rattle.gate_journal.specs.Frame.{payload_of}
use Rattle.gate_journal.specs.Staged.{gate_of, shown, KeepsStaged, IsBeforeOrAll}
use Rattle.gate_journal.specs.Stages.{Stages, Settles, ChangesGate}
use Rattle.gate_journal.specs.declared.journal.JournalFault.{JournalFault}
use Rattle.gate_journal.specs.declared.journal.JournalFault.TheVariants.{Full, Disk, Dead}

module _ {D : Type 0} (v : DiskView D) (lawful : IsLawful v) (room : ℕ) (old : JournalState) (none : old.held ≡ None) (before : D) where
  -- Entries are staged entries without a staged one.
  as_staged : (payloads : List (List ℕ)) → KeepsEntries v before old.base old.place payloads → KeepsStaged v before old.base old.place old.held payloads []
  as_staged payloads keeps =
      subst (λ (h : Option ℕ). KeepsStaged v before old.base old.place h payloads []) (sym none)
      (record {
        tells = keeps.tells;
        each = keeps.each;
        behind = λ r is. subst (λ (l : List (List ℕ)). HasEntries old.base l r) (sym (append-nil payloads)) (keeps.each r (lawful.reads_image before r is));
        gate_at = keeps.gate_at;
        place_at = keeps.gate_at ∙ ap (λ (l : List (List ℕ)). old.base + length (records l)) (sym (append-nil payloads));
      })

  module _ (frame filled : List ℕ) where
    abbrev payload : List ℕ
    payload = payload_of frame

    -- The images during the stage alone.
    part_run : (mid : D) (n : JournalState) (r : Result ℕ JournalFault) → Stages v room old n before mid frame filled r → (payloads : List (List ℕ)) → KeepsEntries v before old.base old.place payloads
        → LeavesOnly v before mid (IsBeforeOrAfter old.base payloads payload)
    part_run mid n r step payloads keeps =
        weaker_run v before mid (IsBeforeOrAfter old.base payloads payload) _ (step.any_moment payloads [] (as_staged payloads keeps)) (λ c is. inl is)

    pub stage_failed : (new : JournalState) (after : D) (fault : JournalFault) → Stages v room old new before after frame filled (Err fault) → Appends v room old new before after frame filled (Err fault)
    stage_failed new after fault step = record {
      dead = step.dead;
      full = step.full;
      blames = step.blames;
      fits = step.fits;
      answer = tt;
      untouched = step.untouched;
      dies = step.dies;
      same = step.same;
      place = tt;
      held = step.stays.0;
      none = step.stays.1;
      payload = step.payload;
      framed = tt;
      written = tt;
      changes = step.changes;
      inside = step.inside;
      durable = tt;
      added = tt;
      any_moment = part_run after new (Err fault) step;
    }

    module _ (some : old.place < old.end) (mid : D) (m : JournalState) (at : ℕ) (step : Stages v room old m before mid frame filled (Ok at)) where
      gate_is : m.held ≡ Some old.place
      gate_is = step.held ∙ ap (λ (h : Option ℕ). Some (gate_of h old.place)) none

      one_byte : (after : D) → ChangesGate v mid after m.held → ChangesOnly v mid after old.place 1
      one_byte after changes = subst (λ (h : Option ℕ). ChangesGate v mid after h) gate_is changes

      all_run : (after : D) (n : JournalState) (r : Result (Unit {0}) JournalFault) → Settles v m n mid after r → (payloads : List (List ℕ)) → KeepsEntries v before old.base old.place payloads
          → LeavesOnly v before after (IsBeforeOrAfter old.base payloads payload)
      all_run after n r settle payloads keeps =
          runs_on v before mid after (IsBeforeOrAfter old.base payloads payload) _ (part_run mid m (Ok at) step payloads keeps)
          (settle.any_moment payloads (payload ∷ []) (step.staged payloads [] (as_staged payloads keeps)))
          (λ c is. subst (λ (b : ℕ). IsBeforeOrAfter b payloads payload c) step.same.0 is)

      all_changes : (after : D) → ChangesGate v mid after m.held → ChangesOnly v before after old.place (1 + length frame)
      all_changes after changes =
          then_changes v before mid after old.place (1 + length frame) lawful step.changes
          (wider_change v mid after old.place 1 old.place (1 + length frame) (omega arith) (omega arith) (one_byte after changes))

      all_inside : (after : D) → ChangesGate v mid after m.held → ChangesOnly v before after old.place (old.end - old.place)
      all_inside after changes =
          then_changes v before mid after old.place (old.end - old.place) lawful step.inside
          (wider_change v mid after old.place 1 old.place (old.end - old.place) (omega arith) (omega (arith, some)) (one_byte after changes))

      abbrev done : Result ℕ JournalFault
      done = Ok at

      no_fault : (fault : JournalFault) → IsErrOf done fault → ⊥
      no_fault fault is = absurd (cc is)

      pub settled_ok : (after : D) (new : JournalState) → Settles v m new mid after (Ok tt) → Appends v room old new before after frame filled (Ok at)
      settled_ok after new settle = record {
        dead = step.dead;
        full = step.full;
        blames = record {
          later = omega (arith, step.blames.later, settle.blames.later);
          failed = λ is. absurd (no_fault Disk is);
          counted = λ other. settle.blames.counted (λ is. absurd (cc is)) ∙ step.blames.counted (no_fault Disk);
        };
        fits = λ is. absurd (no_fault Disk is);
        answer = step.answer;
        untouched = λ why. absurd (⊎_elim (no_fault Dead) (no_fault Full) why);
        dies = (λ is. ⊎_elim (λ d. step.dies.0 d) (λ e. absurd (cc e)) (settle.dies.0 is), λ why. settle.dies.1 (inl (step.dies.1 why)));
        same = (settle.same.0 ∙ step.same.0, settle.same.1 ∙ step.same.1);
        place = settle.same.2 ∙ step.place;
        held = tt;
        none = settle.held ∙ sym none;
        payload = step.payload;
        framed = step.framed;
        written = settle.written ∙ step.written ∙ ap (λ (h : Option ℕ). option_map (overwritten old.place (record_of payload ++ 0 ∷ [])) (shown h (v.bytes before))) none;
        changes = all_changes after settle.changes;
        inside = all_inside after settle.changes;
        durable = settle.durable old.place gate_is;
        added = λ payloads keeps. settle.settled payloads (payload ∷ []) (step.staged payloads [] (as_staged payloads keeps));
        any_moment = all_run after new (Ok tt) settle;
      }

      alive : IsTrue m.dead → ⊥
      alive d = ⊎_elim (λ was. no_fault Dead (step.dead.1 was)) (no_fault Disk) (step.dies.0 d)

      pub settled_failed : (after : D) (n new : JournalState) (fault : JournalFault) → Settles v m n mid after (Err fault) → new ≡ record { base = n.base; end = n.end; place = old.place; held = None; dead = n.dead }
          → Appends v room old new before after frame filled (Err fault)
      settled_failed after n new Full settle is = absurd (settle.roomy refl)
      settled_failed after n new Dead settle is = absurd (alive (settle.dead.0 refl))
      settled_failed after n new Disk settle is = subst (λ (s : JournalState). Appends v room old s before after frame filled (Err Disk)) (sym is) (record {
        dead = (λ e. absurd (cc e), λ d. absurd (no_fault Dead (step.dead.1 d)));
        full = (λ e. absurd (cc e), λ why. absurd (no_fault Full (step.full.1 why)));
        blames = record {
          later = omega (arith, step.blames.later, settle.blames.later);
          failed = λ e. let rose = settle.blames.failed refl in omega (arith, step.blames.later, rose);
          counted = λ other. absurd (other refl);
        };
        fits = λ e. settle.fits refl;
        answer = tt;
        untouched = λ why. absurd (⊎_elim (λ e. cc e) (λ e. cc e) why);
        dies = (λ d. inr refl, λ why. settle.dies.1 (inr refl));
        same = (settle.same.0 ∙ step.same.0, settle.same.1 ∙ step.same.1);
        place = tt;
        held = refl;
        none = sym none;
        payload = step.payload;
        framed = tt;
        written = tt;
        changes = all_changes after settle.changes;
        inside = all_inside after settle.changes;
        durable = tt;
        added = tt;
        any_moment = all_run after n (Err Disk) settle;
      })
