-- One more payload in the current area.
use Rattle.std.specs.Prelude.{◌↔◌, IsErrOf, IsTrue, true, false, Bool}
use Rattle.std.proofs.Common.{rules, refl, ◌≡◌, ◌⊎◌, inl, inr, ⊎_elim, ℕ, ◌+◌, ◌-◌, ◌≤◌, ◌<◌, List, [], ◌∷◌, ◌++◌, Result, Ok, Err, OnOk, length, drop, sym, ◌∙◌, subst, ap, arith, length-drop}
use Rattle.std.proofs.lemmas.Bool.{cases_lt}
use Rattle.std.proofs.lemmas.List.{length-take}
use Rattle.spool_disk.specs.Disk.{DiskView, IsLawful, IsOldOutside, IsSynced, LeavesOnly}
use Rattle.spool_disk.proofs.Moments.{started, weaker_run, both_runs, at_return, still_changes, no_change}
use Rattle.spool_disk.proofs.Ranges.{both_ok}
use Rattle.gate_journal.specs.Entries.{HasEntries, IsBeforeOrAfter, KeepsEntries}
use Rattle.gate_journal.specs.Appends.{Appends}
use Rattle.gate_journal.specs.Journal.{state_of}
use Rattle.gate_journal.specs.declared.journal.Journal.{Journal}
use Rattle.gate_journal.specs.declared.journal.JournalFault.{JournalFault}
use Rattle.gate_journal.specs.declared.journal.JournalFault.TheVariants.{Full, Disk, Dead}
use Rattle.gate_journal.specs.Frame.{payload_of}
use Rattle.gate_journal.specs.Window.{Stretch}
use Rattle.gate_journal.proofs.Steps.{length-records-push}
use Rattle.spool_areas.specs.Header.{half, header_len, header_at, version_of, epoch_of}
use Rattle.spool_areas.specs.Payloads.{HasPayloads, HasVersionAndPayloads, HasBeforeOrAfter, gate_after}
use Rattle.spool_areas.specs.Current.{Current, KeepsPayloads}
use Rattle.spool_areas.specs.AreaAppends.{AreaAppends, journal_of}
use Rattle.spool_areas.specs.AreaFields.{current_of, IsInside}
use Rattle.spool_areas.specs.declared.areas.Areas.TheInside.{Inside}
use Rattle.spool_areas.proofs.Sames.{IsBehindHeader, header_same, current_same, base_is}

-- The record of an append that did not fail with `Full` is in the area.
pub same_or_fits : (IsFull Alive Same : Type 0) (end needed : ℕ) → ((Alive × (end < needed)) → IsFull) → Alive → (IsFull → Same) → Same ⊎ (needed ≤ end)
same_or_fits IsFull Alive Same end needed full alive same = ⊎_elim (λ short. inl (same (full (alive, short)))) (λ fits. inr fits) (cases_lt end needed)

-- A result with a value is not this error.
pub ok_fits : {T E A B : Type 0} (r : Result T E) (fault : E) → OnOk r A → ((r ≡ Err fault → ⊥) → A → B) → OnOk r B
ok_fits (Ok x) fault has then = then (λ is. absurd (cc is)) has
ok_fits (Err e) fault has then = tt

-- The same as a pair.
pub ok_not : {T E : Type 0} (A : Type 0) (r : Result T E) (fault : E) → OnOk r A → OnOk r ((r ≡ Err fault → ⊥) × A)
ok_not A (Ok x) fault has = (λ is. absurd (cc is), has)
ok_not A (Err e) fault has = tt

module _ {D : Type 0} (v : DiskView D) (lawful : IsLawful v)
    (old : Current D) (start : ℕ) (payloads : List (List ℕ)) (starts : start ≡ old.base + header_len) (ends : old.end ≡ old.base + half (v.size old.disk)) (keeps : KeepsPayloads v old payloads) where
  pub entries_kept : KeepsEntries v old.disk start old.gate payloads
  entries_kept = record {
    tells = keeps.tells;
    each = λ c now. subst (λ (n : ℕ). HasEntries n payloads c) (sym starts) (keeps.each c now).entries;
    gate_at = omega (arith, keeps.gate_at, starts);
  }

  -- The header of an image's current area is that of an old image.
  header_in : (c : List ℕ) (outside : IsOldOutside (v.image old.disk) old.gate (old.end - old.gate) c) → header_at old.base c ≡ header_at old.base outside.0
  header_in c outside =
      let before : old.base + header_len ≤ old.gate = omega (arith, keeps.gate_at) in
      header_same old.base old.gate (old.end - old.gate) outside.0 c (inl before) outside.2

  epoch_in : (c : List ℕ) → IsOldOutside (v.image old.disk) old.gate (old.end - old.gate) c → epoch_of (header_at old.base c) ≡ old.epoch
  epoch_in c outside = ap epoch_of (header_in c outside) ∙ keeps.epoch outside.0 outside.1

  version_in : (c : List ℕ) → IsOldOutside (v.image old.disk) old.gate (old.end - old.gate) c → version_of (header_at old.base c) ≡ old.version
  version_in c outside = ap version_of (header_in c outside) ∙ keeps.version outside.0 outside.1

  -- The payloads of an image, by its header, which is that of an old image.
  payloads_in : (others : List (List ℕ)) (c : List ℕ) → IsOldOutside (v.image old.disk) old.gate (old.end - old.gate) c → HasEntries start others c → gate_after old.base others < old.end → HasVersionAndPayloads old.base old.version others c
  payloads_in others c outside has before_end =
      let b = outside.0 in
      let same = outside.2 in
      let was : HasPayloads old.base payloads b = keeps.each b outside.1 in
      let long = lawful.image_size old.disk b outside.1 in
      let behind : IsBehindHeader (length b) old.gate (old.end - old.gate) =
      ⊎_elim
      (λ first. inl (omega (arith, keeps.gate_at, first), omega (arith, keeps.gate_at, was.within, ends, first, long)))
      (λ second. inr (omega (arith, keeps.gate_at, second)))
      (base_is b old.base was.current) in
      record {
        area = record {
          current = current_same old.gate (old.end - old.gate) b c behind same ∙ was.current;
          entries = subst (λ (n : ℕ). HasEntries n others c) starts has;
          within = omega (arith, before_end, ends, same.size, long);
        };
        version_is = version_in c outside;
      }

  -- An old image has the payloads in its version.
  now_in : (c : List ℕ) → v.image old.disk c → HasVersionAndPayloads old.base old.version payloads c
  now_in c left = record { area = keeps.each c left; version_is = keeps.version c left }

  pub old_in : (c : List ℕ) → IsOldOutside (v.image old.disk) old.gate (old.end - old.gate) c → HasEntries start payloads c → HasVersionAndPayloads old.base old.version payloads c
  old_in c outside has =
      let was = keeps.each outside.0 outside.1 in
      payloads_in payloads c outside has (omega (arith, was.within, ends, lawful.image_size old.disk outside.0 outside.1))

  module _ (frame : List ℕ) (whole : 5 ≤ length frame) where
    abbrev payload : List ℕ
    payload = payload_of frame

    abbrev more : List (List ℕ)
    more = payloads ++ payload ∷ []

    -- The gate after the new record.
    pub gate_behind : old.gate + length frame ≡ gate_after old.base more
    gate_behind = omega (arith, whole, keeps.gate_at, length-records-push payloads payload, length-take (length frame - 5) (drop 4 frame), length-drop 4 frame)

    pub new_in : old.gate + length frame < old.end → (c : List ℕ) → IsOldOutside (v.image old.disk) old.gate (old.end - old.gate) c → HasEntries start more c → HasVersionAndPayloads old.base old.version more c
    new_in fits c outside has = payloads_in more c outside has (omega (arith, fits, gate_behind))

    pub run : (new : D) (room : ℕ)
        → 1 ≤ room → (new ≡ old.disk) ⊎ (old.gate + length frame + room ≤ old.end)
        → LeavesOnly v old.disk new (IsOldOutside (v.image old.disk) old.gate (old.end - old.gate))
        → LeavesOnly v old.disk new (IsBeforeOrAfter start payloads payload)
        → LeavesOnly v old.disk new (HasBeforeOrAfter old.base old.version payloads payload)
    run new room some (inl same) inside entries =
        subst (λ d. LeavesOnly v old.disk d (HasBeforeOrAfter old.base old.version payloads payload)) (sym same)
        (started v old.disk (HasBeforeOrAfter old.base old.version payloads payload) (λ c left. inl (now_in c (lawful.only_now old.disk c left))))
    run new room some (inr fits) inside entries =
        weaker_run v old.disk new (HasBeforeOrAfter old.base old.version payloads payload) _
        (both_runs v old.disk new (IsOldOutside (v.image old.disk) old.gate (old.end - old.gate)) (IsBeforeOrAfter start payloads payload) inside entries)
        (λ c h. ⊎_elim (λ before. inl (old_in c h.0 before)) (λ after. inr (new_in (omega (arith, fits, some)) c h.0 after)) h.1)

    pub added : (new : Current D) (new_start : ℕ) → new.base ≡ old.base → new.epoch ≡ old.epoch → new.version ≡ old.version → new_start ≡ start → IsSynced v new.disk → old.gate + length frame < old.end
        → ((c : List ℕ) → v.image new.disk c → IsOldOutside (v.image old.disk) old.gate (old.end - old.gate) c)
        → KeepsEntries v new.disk new_start new.gate more → KeepsPayloads v new more
    added new new_start same_base same_epoch same_version same_start synced fits outside entries = record {
      tells = entries.tells;
      synced = synced;
      each = λ c now. subst (λ (n : ℕ). HasPayloads n more c) (sym same_base)
          (new_in fits c (outside c now) (subst (λ (n : ℕ). HasEntries n more c) same_start (entries.each c now))).area;
      epoch = λ c now. ap (λ (n : ℕ). epoch_of (header_at n c)) same_base ∙ epoch_in c (outside c now) ∙ sym same_epoch;
      version = λ c now. ap (λ (n : ℕ). version_of (header_at n c)) same_base ∙ version_in c (outside c now) ∙ sym same_version;
      gate_at = omega (arith, entries.gate_at, same_base, same_start, starts);
    }

-- Two tests that imply each other are equal.
same_test : (a b : Bool) → (IsTrue a → IsTrue b) → (IsTrue b → IsTrue a) → a ≡ b
same_test true true one other = refl
same_test false false one other = refl
same_test true false one other = absurd (cc (one refl))
same_test false true one other = absurd (cc (other refl))

-- An append to the journal after a header is an append to the areas.
module _ {D : Type 0} (v : DiskView D) (lawful : IsLawful v) (room : ℕ) (some : 1 ≤ room) (old : Inside D) (inv : IsInside v old) (alive : old.dead ≡ false)
    (after : D) (journal : Journal) (dead : Bool) (window : Stretch) (frame filled : List ℕ) (whole : 5 ≤ length frame) (result : Result ℕ JournalFault)
    (step : Appends v room (state_of old.journal) (state_of journal) old.disk after frame filled result) (dies : IsTrue dead ↔ IsErrOf result Disk) where
  abbrev new : Inside D
  new = record { disk = after; base = old.base; len = old.len; epoch = old.epoch; version = old.version; journal = journal; dead = dead; window = window }

  old_state : state_of old.journal ≡ journal_of (current_of old)
  old_state = λ i. record { base = inv.journal i; end = old.journal.end; place = old.journal.place; held = old.journal.held; dead = (inv.alive alive ∙ sym alive) i }

  new_dead : journal.dead ≡ dead
  new_dead = same_test journal.dead dead
      (λ is. ⊎_elim (λ was. absurd (cc (was, inv.alive alive))) (λ disk. dies.1 disk) (step.dies.0 is))
      (λ is. step.dies.1 (inr (dies.0 is)))

  new_state : state_of journal ≡ journal_of (current_of new)
  new_state = λ i. record { base = (step.same.0 ∙ inv.journal) i; end = journal.end; place = journal.place; held = journal.held; dead = new_dead i }

  fits : (IsErrOf result Full → ⊥) → old.journal.place + length frame < old.journal.end
  fits not_full = ⊎_elim (λ short. absurd (not_full (step.full.1 (inv.alive alive, short)))) (λ enough. omega (arith, enough, some)) (cases_lt old.journal.end (old.journal.place + length frame + room))

  pub appended : AreaAppends v room (current_of old) (current_of new) frame filled result
  appended = record {
    appends = subst (λ s. Appends v room s (journal_of (current_of new)) old.disk after frame filled result) old_state
        (subst (λ s. Appends v room (state_of old.journal) s old.disk after frame filled result) new_state step);
    untouched = λ why.
        let same = step.untouched why in
        let place = ap (λ s. s.place) same.0 in
        let end = ap (λ s. s.end) same.0 in
        let held = ap (λ s. s.held) same.0 in
        let still : dead ≡ old.dead = sym new_dead ∙ ap (λ s. s.dead) same.0 ∙ inv.alive alive ∙ sym alive in
        (λ i. record { disk = same.1 i; base = old.base; end = end i; epoch = old.epoch; version = old.version; gate = place i; held = held i; dead = still i });
    same = (refl, step.same.1, refl, refl);
    added = both_ok result step.durable (ok_not _ result Full step.added) (λ synced both payloads keeps.
        added v lawful (current_of old) old.journal.base payloads inv.journal inv.area.end_is keeps frame whole
        (current_of new) journal.base refl refl refl step.same.0 synced (fits both.0)
        (at_return v lawful old.disk after _ step.inside.images)
        (both.1 payloads (entries_kept v lawful (current_of old) old.journal.base payloads inv.journal inv.area.end_is keeps)));
    any_moment = λ payloads keeps.
        run v lawful (current_of old) old.journal.base payloads inv.journal inv.area.end_is keeps frame whole after room some
        (same_or_fits _ _ _ old.journal.end (old.journal.place + length frame + room) step.full.1 (inv.alive alive) (λ full. (step.untouched (inr full)).1))
        step.inside.images
        (step.any_moment payloads (entries_kept v lawful (current_of old) old.journal.base payloads inv.journal inv.area.end_is keeps));
  }

-- Dead areas do not change.
pub refused : {D : Type 0} (v : DiskView D) (lawful : IsLawful v) (room : ℕ) (old : Current D) (frame : List ℕ) → IsTrue old.dead → AreaAppends v room old old frame frame (Err Dead)
refused v lawful room old frame dead = record {
  appends = record {
    dead = search rules;
    full = search rules;
    blames = record { later = omega arith; failed = search rules; counted = λ other. refl };
    fits = search rules;
    answer = tt;
    untouched = λ why. (refl, refl, refl);
    dies = search rules;
    same = (refl, refl);
    place = tt;
    held = refl;
    none = refl;
    payload = refl;
    framed = tt;
    written = tt;
    changes = still_changes v old.disk old.disk old.gate (1 + length frame) (no_change v old.disk lawful);
    inside = still_changes v old.disk old.disk old.gate (old.end - old.gate) (no_change v old.disk lawful);
    durable = tt;
    added = tt;
    any_moment = λ payloads keeps. started v old.disk (IsBeforeOrAfter (old.base + header_len) payloads (payload_of frame)) (λ c left. inl (keeps.each c (lawful.only_now old.disk c left)));
  };
  untouched = λ why. refl;
  same = (refl, refl, refl, refl);
  added = tt;
  any_moment = λ payloads keeps. started v old.disk (HasBeforeOrAfter old.base old.version payloads (payload_of frame))
      (λ c left. let now = lawful.only_now old.disk c left in inl (record { area = keeps.each c now; version_is = keeps.version c now }));
}
