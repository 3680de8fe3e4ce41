-- Records that are staged in the current area, and settled.
use Rattle.std.specs.Prelude.{◌↔◌, IsErrOf, IsSome, IsTrue, Bool, true, false}
use Rattle.std.proofs.Common.{rules, refl, ◌≡◌, ◌⊎◌, inl, inr, ⊎_elim, ℕ, ◌+◌, ◌-◌, ◌≤◌, ◌<◌, List, [], ◌∷◌, ◌++◌, Option, Some, None, Result, Ok, Err, OnOk, length, sym, ◌∙◌, subst, ap, arith, length-append, length-drop}
use Rattle.spool_disk.specs.Disk.{DiskView, IsLawful, IsOldOutside, SameOutside, IsSynced, LeavesOnly, ChangesOnly, overwritten}
use Rattle.spool_disk.proofs.Moments.{started, weaker_run, both_runs, at_return, still_changes, no_change}
use Rattle.spool_disk.proofs.Ranges.{both_ok, same_all}
use Rattle.spool_disk.proofs.Writes.{overwrites}
use Rattle.std.proofs.lemmas.Option.{same_Some}
use Rattle.gate_journal.specs.Entries.{HasEntries, KeepsEntries, records}
use Rattle.gate_journal.specs.Appends.{JournalState}
use Rattle.gate_journal.specs.Staged.{gate_of, shown, KeepsStaged, IsBeforeOrAll}
use Rattle.gate_journal.specs.Stages.{Stages, Settles, ChangesGate}
use Rattle.gate_journal.specs.Journal.{state_of}
use Rattle.gate_journal.specs.declared.journal.Journal.{Journal}
use Rattle.gate_journal.specs.declared.journal.JournalFault.{JournalFault}
use Rattle.gate_journal.specs.declared.journal.JournalFault.TheVariants.{Full, Disk, Dead}
use Rattle.gate_journal.specs.Frame.{payload_of}
use Rattle.gate_journal.specs.Window.{Stretch}
use Rattle.spool_areas.specs.Header.{half, header_len, header_at, version_of, epoch_of}
use Rattle.spool_areas.specs.Payloads.{HasPayloads, HasVersionAndPayloads, gate_after}
use Rattle.spool_areas.specs.Current.{Current, KeepsPayloads}
use Rattle.spool_areas.specs.AreaAppends.{journal_of}
use Rattle.spool_areas.specs.AreaStages.{KeepsStagedPayloads, HasBeforeOrAll, AreaStages, AreaSettles}
use Rattle.spool_areas.specs.AreaFields.{current_of, IsInside}
use Rattle.spool_areas.specs.declared.areas.Areas.TheInside.{Inside}
use Rattle.spool_areas.proofs.Sames.{IsBehindHeader, header_same, current_same, base_is}

-- Opening the held gate changes no other byte.
opened : (held : Option ℕ) (place : ℕ) (r s : List ℕ) → gate_of held place < length r → shown held (Some r) ≡ Some s → SameOutside (gate_of held place) 1 r s
opened None place r s within is = subst (SameOutside place 1 r) (same_Some r s is) (same_all place 1 r)
opened (Some gate) place r s within is = subst (SameOutside gate 1 r) (same_Some (overwritten gate (165 ∷ []) r) s is) (overwrites gate (165 ∷ []) r (omega (arith, within)))

module _ {D : Type 0} (v : DiskView D) (lawful : IsLawful v) (old : Current D) (ends : old.end ≡ old.base + half (v.size old.disk)) (payloads staged : List (List ℕ)) (keeps : KeepsStagedPayloads v old payloads staged) where
  -- A change of a range after the header leaves the area of each image.
  module _ (at n : ℕ) (low : old.base + header_len ≤ at) (high : at + n ≤ old.end) where
    header_in : (c : List ℕ) (outside : IsOldOutside (v.image old.disk) at n c) → header_at old.base c ≡ header_at old.base outside.0
    header_in c outside = header_same old.base at n outside.0 c (inl low) outside.2

    epoch_in : (c : List ℕ) → IsOldOutside (v.image old.disk) at n c → epoch_of (header_at old.base c) ≡ old.epoch
    epoch_in c outside = ap epoch_of (header_in c outside) ∙ keeps.epoch outside.0 outside.1

    version_in : (c : List ℕ) → IsOldOutside (v.image old.disk) at n c → version_of (header_at old.base c) ≡ old.version
    version_in c outside = ap version_of (header_in c outside) ∙ keeps.version outside.0 outside.1

    payloads_in : (others : List (List ℕ)) (c : List ℕ) → IsOldOutside (v.image old.disk) at n c → HasEntries (old.base + header_len) others c → gate_after old.base others < old.end → HasVersionAndPayloads old.base old.version others c
    payloads_in others c outside has before_end =
        let b = outside.0 in
        let was : HasPayloads old.base payloads b = keeps.each b outside.1 in
        let long = lawful.image_size old.disk b outside.1 in
        let behind : IsBehindHeader (length b) at n =
        ⊎_elim
        (λ first. inl (omega (arith, low, first), omega (arith, high, ends, first, long)))
        (λ second. inr (omega (arith, low, second)))
        (base_is b old.base was.current) in
        record {
          area = record {
            current = current_same at n b c behind outside.2 ∙ was.current;
            entries = has;
            within = omega (arith, before_end, ends, outside.2.size, long);
          };
          version_is = version_in c outside;
        }

  -- The gate in front of the staged records.
  pub gate_low : old.base + header_len ≤ gate_of old.held old.gate
  gate_low = omega (arith, keeps.kept.gate_at)

  more_records : (others more : List (List ℕ)) → length (records others) ≤ length (records (others ++ more))
  more_records [] more = omega arith
  more_records (p ∷ others) more =
      let rest = more_records others more in
      omega (arith, rest, length-append p (records others), length-append p (records (others ++ more)))

  pub gate_high : gate_of old.held old.gate < old.end
  gate_high = omega (arith, keeps.kept.gate_at, keeps.kept.place_at, keeps.inside, more_records payloads staged)

  pub place_low : old.base + header_len ≤ old.gate
  place_low = omega (arith, keeps.kept.place_at)

  first_end : gate_after old.base payloads < old.end
  first_end = omega (arith, keeps.kept.gate_at, gate_high)

  all_end : gate_after old.base (payloads ++ staged) < old.end
  all_end = omega (arith, keeps.kept.place_at, keeps.inside)

  -- The images during a stage.
  pub stage_run : (new : D) → LeavesOnly v old.disk new (IsOldOutside (v.image old.disk) old.gate (old.end - old.gate)) → LeavesOnly v old.disk new (HasEntries (old.base + header_len) payloads) → LeavesOnly v old.disk new (HasVersionAndPayloads old.base old.version payloads)
  stage_run new inside entries =
      weaker_run v old.disk new (HasVersionAndPayloads old.base old.version payloads) _
      (both_runs v old.disk new (IsOldOutside (v.image old.disk) old.gate (old.end - old.gate)) (HasEntries (old.base + header_len) payloads) inside entries)
      (λ c h. payloads_in old.gate (old.end - old.gate) place_low (omega (arith, keeps.inside)) payloads c h.0 h.1 first_end)

  pub stage_kept : (new : Current D) (more : List (List ℕ)) → new.base ≡ old.base → new.epoch ≡ old.epoch → new.version ≡ old.version → new.gate < new.end → (gate : ℕ) → new.held ≡ Some gate
      → LeavesOnly v old.disk new.disk (IsOldOutside (v.image old.disk) old.gate (old.end - old.gate))
      → KeepsStaged v new.disk (new.base + header_len) new.gate new.held payloads more → KeepsStagedPayloads v new payloads more
  stage_kept new more same_base same_epoch same_version within gate held inside kept =
      let outside : (c : List ℕ) → v.image new.disk c → IsOldOutside (v.image old.disk) old.gate (old.end - old.gate) c = at_return v lawful old.disk new.disk _ inside in
      let high : old.gate + (old.end - old.gate) ≤ old.end = omega (arith, keeps.inside) in
      record {
        kept = kept;
        synced = λ none. absurd (cc (none, held));
        each = λ c now. subst (λ (b : ℕ). HasPayloads b payloads c) (sym same_base)
            (payloads_in old.gate (old.end - old.gate) place_low high payloads c (outside c now) (subst (λ (b : ℕ). HasEntries (b + header_len) payloads c) same_base (kept.each c now)) first_end).area;
        epoch = λ c now. ap (λ (b : ℕ). epoch_of (header_at b c)) same_base ∙ epoch_in old.gate (old.end - old.gate) place_low high c (outside c now) ∙ sym same_epoch;
        version = λ c now. ap (λ (b : ℕ). version_of (header_at b c)) same_base ∙ version_in old.gate (old.end - old.gate) place_low high c (outside c now) ∙ sym same_version;
        inside = within;
      }

  -- Settling changes no byte except the held gate.
  one_gate : (new : D) (held : Option ℕ) (place : ℕ) → ChangesGate v old.disk new held → ChangesOnly v old.disk new (gate_of held place) 1
  one_gate new None place same = subst (λ d. ChangesOnly v old.disk d place 1) (sym same) (still_changes v old.disk old.disk place 1 (no_change v old.disk lawful))
  one_gate new (Some gate) place changes = changes

  pub settle_run : (new : D) → ChangesGate v old.disk new old.held → LeavesOnly v old.disk new (IsBeforeOrAll (old.base + header_len) payloads staged) → LeavesOnly v old.disk new (HasBeforeOrAll old.base old.version payloads staged)
  settle_run new changes entries =
      let gate = gate_of old.held old.gate in
      let high : gate + 1 ≤ old.end = omega (arith, gate_high) in
      weaker_run v old.disk new (HasBeforeOrAll old.base old.version payloads staged) _
      (both_runs v old.disk new (IsOldOutside (v.image old.disk) gate 1) (IsBeforeOrAll (old.base + header_len) payloads staged) (one_gate new old.held old.gate changes).images entries)
      (λ c h. ⊎_elim
      (λ first. inl (payloads_in gate 1 gate_low high payloads c h.0 first first_end))
      (λ all. inr (payloads_in gate 1 gate_low high (payloads ++ staged) c h.0 all all_end)) h.1)

  pub settle_kept : (new : Current D) → new.base ≡ old.base → new.epoch ≡ old.epoch → new.version ≡ old.version → ChangesGate v old.disk new.disk old.held → IsSynced v new.disk
      → KeepsEntries v new.disk (new.base + header_len) new.gate (payloads ++ staged) → KeepsPayloads v new (payloads ++ staged)
  settle_kept new same_base same_epoch same_version changes synced entries =
      let gate = gate_of old.held old.gate in
      let high : gate + 1 ≤ old.end = omega (arith, gate_high) in
      let outside : (c : List ℕ) → v.image new.disk c → IsOldOutside (v.image old.disk) gate 1 c = at_return v lawful old.disk new.disk _ (one_gate new.disk old.held old.gate changes).images in
      record {
        tells = entries.tells;
        synced = synced;
        each = λ c now. subst (λ (b : ℕ). HasPayloads b (payloads ++ staged) c) (sym same_base)
            (payloads_in gate 1 gate_low high (payloads ++ staged) c (outside c now) (subst (λ (b : ℕ). HasEntries (b + header_len) (payloads ++ staged) c) same_base (entries.each c now)) all_end).area;
        epoch = λ c now. ap (λ (b : ℕ). epoch_of (header_at b c)) same_base ∙ epoch_in gate 1 gate_low high c (outside c now) ∙ sym same_epoch;
        version = λ c now. ap (λ (b : ℕ). version_of (header_at b c)) same_base ∙ version_in gate 1 gate_low high c (outside c now) ∙ sym same_version;
        gate_at = entries.gate_at;
      }

  -- The bytes with the held gate open have all payloads, in an area of this epoch and version.
  gate_there : (r : List ℕ) → v.bytes old.disk ≡ Some r → gate_of old.held old.gate < length r
  gate_there r tells =
      let has = keeps.kept.each r (lawful.reads_image old.disk r tells) in
      omega (arith, keeps.kept.gate_at, length-drop (old.base + header_len) r, ap length has.stands, length-append (records payloads) (has.gate ∷ has.rest))

  shown_outside : (r s : List ℕ) → v.bytes old.disk ≡ Some r → shown old.held (v.bytes old.disk) ≡ Some s → IsOldOutside (v.image old.disk) (gate_of old.held old.gate) 1 s
  shown_outside r s tells is = (r, lawful.reads_image old.disk r tells, opened old.held old.gate r s (gate_there r tells) (ap (shown old.held) (sym tells) ∙ is))

  pub shown_payloads : (r s : List ℕ) → v.bytes old.disk ≡ Some r → shown old.held (v.bytes old.disk) ≡ Some s → HasVersionAndPayloads old.base old.version (payloads ++ staged) s
  shown_payloads r s tells is = payloads_in (gate_of old.held old.gate) 1 gate_low (omega (arith, gate_high)) (payloads ++ staged) s (shown_outside r s tells is) (keeps.kept.behind s is) all_end

  pub shown_epoch : (r s : List ℕ) → v.bytes old.disk ≡ Some r → shown old.held (v.bytes old.disk) ≡ Some s → epoch_of (header_at old.base s) ≡ old.epoch
  shown_epoch r s tells is = epoch_in (gate_of old.held old.gate) 1 gate_low (omega (arith, gate_high)) s (shown_outside r s tells is)

  pub shown_same : (r s : List ℕ) → v.bytes old.disk ≡ Some r → shown old.held (v.bytes old.disk) ≡ Some s → SameOutside (gate_of old.held old.gate) 1 r s
  shown_same r s tells is = opened old.held old.gate r s (gate_there r tells) (ap (shown old.held) (sym tells) ∙ is)

same_test : (a b : Bool) → (IsTrue a → IsTrue b) → (IsTrue b → IsTrue a) → a ≡ b
same_test true true one other = refl
same_test false false one other = refl
same_test true false one other = absurd (cc (one refl))
same_test false true one other = absurd (cc (other refl))

-- A call of the journal after the header is a call of the areas.
module _ {D : Type 0} (v : DiskView D) (lawful : IsLawful v) (old : Inside D) (inv : IsInside v old) (alive : old.dead ≡ false)
    (after : D) (journal : Journal) (dead : Bool) (window : Stretch) where
  abbrev new : Inside D
  new = record { disk = after; base = old.base; len = old.len; epoch = old.epoch; version = old.version; journal = journal; dead = dead; window = window }

  old_state : state_of old.journal ≡ journal_of (current_of old)
  old_state = λ i. record { base = inv.journal i; end = old.journal.end; place = old.journal.place; held = old.journal.held; dead = (inv.alive alive ∙ sym alive) i }

  module _ (same_base : journal.base ≡ old.journal.base) (new_dead : journal.dead ≡ dead) where
    new_state : state_of journal ≡ journal_of (current_of new)
    new_state = λ i. record { base = (same_base ∙ inv.journal) i; end = journal.end; place = journal.place; held = journal.held; dead = new_dead i }

    -- If the journal and the disk are unchanged, so are the areas.
    as_before : state_of journal ≡ state_of old.journal → after ≡ old.disk → current_of new ≡ current_of old
    as_before same disk =
        let place = ap (λ s. s.place) same in
        let end = ap (λ s. s.end) same in
        let held = ap (λ s. s.held) same in
        let still : dead ≡ old.dead = sym new_dead ∙ ap (λ s. s.dead) same ∙ inv.alive alive ∙ sym alive in
        λ i. record { disk = disk i; base = old.base; end = end i; epoch = old.epoch; version = old.version; gate = place i; held = held i; dead = still i }

  pub staged_in : (room : ℕ) (frame filled : List ℕ) (result : Result ℕ JournalFault) → Stages v room (state_of old.journal) (state_of journal) old.disk after frame filled result → (IsTrue dead ↔ IsErrOf result Disk)
      → AreaStages v room (current_of old) (current_of new) frame filled result
  staged_in room frame filled result step dies =
      let new_dead : journal.dead ≡ dead = same_test journal.dead dead
      (λ is. ⊎_elim (λ was. absurd (cc (was, inv.alive alive))) (λ disk. dies.1 disk) (step.dies.0 is))
      (λ is. step.dies.1 (inr (dies.0 is))) in
      let there : Stages v room (journal_of (current_of old)) (journal_of (current_of new)) old.disk after frame filled result =
      subst (λ s. Stages v room s (journal_of (current_of new)) old.disk after frame filled result) old_state
      (subst (λ s. Stages v room (state_of old.journal) s old.disk after frame filled result) (new_state step.same.0 new_dead) step) in
      record {
        stages = there;
        untouched = λ why. let same = step.untouched why in as_before step.same.0 new_dead same.0 same.1;
        same = (refl, step.same.1, refl, refl);
        staged = both_ok result there.held there.staged (λ held staged payloads st keeps.
            stage_kept v lawful (current_of old) inv.area.end_is payloads st keeps (current_of new) (st ++ payload_of frame ∷ []) refl refl refl journal.in_area (gate_of old.journal.held old.journal.place) held there.inside.images
            (staged payloads st keeps.kept));
        any_moment = λ payloads st keeps. stage_run v lawful (current_of old) inv.area.end_is payloads st keeps after there.inside.images (there.any_moment payloads st keeps.kept);
      }

  synced_by : (held : Option ℕ) → ChangesGate v old.disk after held → (held ≡ None → IsSynced v old.disk) → ((gate : ℕ) → held ≡ Some gate → IsSynced v after) → IsSynced v after
  synced_by None same was is = subst (λ d. IsSynced v d) (sym same) (was refl)
  synced_by (Some gate) changes was is = is gate refl

  pub settled_in : (result : Result (Unit {0}) JournalFault) → Settles v (state_of old.journal) (state_of journal) old.disk after result → (IsTrue dead ↔ IsErrOf result Disk)
      → AreaSettles v (current_of old) (current_of new) result
  settled_in result step dies =
      let new_dead : journal.dead ≡ dead = same_test journal.dead dead
      (λ is. ⊎_elim (λ was. absurd (cc (was, inv.alive alive))) (λ disk. dies.1 disk) (step.dies.0 is))
      (λ is. step.dies.1 (inr (dies.0 is))) in
      let there : Settles v (journal_of (current_of old)) (journal_of (current_of new)) old.disk after result =
      subst (λ s. Settles v s (journal_of (current_of new)) old.disk after result) old_state
      (subst (λ s. Settles v (state_of old.journal) s old.disk after result) (new_state step.same.0 new_dead) step) in
      record {
        settles = there;
        untouched = λ why. let same = step.untouched why in as_before step.same.0 new_dead same.0 same.1;
        none = λ a is. let same = step.none (inv.alive alive) is in as_before step.same.0 new_dead same.1 same.2;
        same = (refl, step.same.1, refl, refl);
        settled = both_ok result there.durable there.settled (λ durable settled payloads st keeps.
            settle_kept v lawful (current_of old) inv.area.end_is payloads st keeps (current_of new) refl refl refl there.changes
            (synced_by old.journal.held there.changes keeps.synced durable) (settled payloads st keeps.kept));
        any_moment = λ payloads st keeps. settle_run v lawful (current_of old) inv.area.end_is payloads st keeps after there.changes (there.any_moment payloads st keeps.kept);
      }

-- Dead areas do not change.
module _ {D : Type 0} (v : DiskView D) (lawful : IsLawful v) (old : Current D) (dead : IsTrue old.dead) where
  now_in : (payloads staged : List (List ℕ)) → KeepsStagedPayloads v old payloads staged → (c : List ℕ) → v.image_since old.disk (v.moment old.disk) c → HasVersionAndPayloads old.base old.version payloads c
  now_in payloads staged keeps c left = let now = lawful.only_now old.disk c left in record { area = keeps.each c now; version_is = keeps.version c now }

  pub stage_refused : (room : ℕ) (frame : List ℕ) → AreaStages v room old old frame frame (Err Dead)
  stage_refused room frame = record {
    stages = record {
      dead = search rules;
      full = search rules;
      blames = record { later = omega arith; failed = search rules; counted = λ other. refl };
      fits = search rules;
      answer = tt;
      untouched = λ why. (refl, refl, refl);
      dies = search rules;
      same = (refl, refl);
      place = tt;
      held = tt;
      stays = (refl, refl);
      payload = refl;
      framed = tt;
      written = tt;
      changes = still_changes v old.disk old.disk old.gate (1 + length frame) (no_change v old.disk lawful);
      behind = still_changes v old.disk old.disk (gate_of old.held old.gate + 1) (old.gate + length frame - gate_of old.held old.gate) (no_change v old.disk lawful);
      inside = still_changes v old.disk old.disk old.gate (old.end - old.gate) (no_change v old.disk lawful);
      staged = tt;
      any_moment = λ payloads staged keeps. started v old.disk (HasEntries (old.base + header_len) payloads) (λ c left. keeps.each c (lawful.only_now old.disk c left));
    };
    untouched = λ why. refl;
    same = (refl, refl, refl, refl);
    staged = tt;
    any_moment = λ payloads staged keeps. started v old.disk (HasVersionAndPayloads old.base old.version payloads) (now_in payloads staged keeps);
  }

  same_gate : (held : Option ℕ) → ChangesGate v old.disk old.disk held
  same_gate None = refl
  same_gate (Some gate) = still_changes v old.disk old.disk gate 1 (no_change v old.disk lawful)

  pub settle_refused : AreaSettles v old old (Err Dead)
  settle_refused = record {
    settles = record {
      dead = search rules;
      roomy = search rules;
      blames = record { later = omega arith; failed = search rules; counted = λ other. refl };
      fits = search rules;
      untouched = λ why. (refl, refl);
      none = λ alive is. absurd (cc (alive, dead));
      dies = search rules;
      same = (refl, refl, refl);
      held = tt;
      stays = refl;
      written = tt;
      changes = same_gate old.held;
      durable = tt;
      settled = tt;
      any_moment = λ payloads staged keeps. started v old.disk (IsBeforeOrAll (old.base + header_len) payloads staged) (λ c left. inl (keeps.each c (lawful.only_now old.disk c left)));
    };
    untouched = λ why. refl;
    none = λ alive is. refl;
    same = (refl, refl, refl, refl);
    settled = tt;
    any_moment = λ payloads staged keeps. started v old.disk (HasBeforeOrAll old.base old.version payloads staged) (λ c left. inl (now_in payloads staged keeps c left));
  }

-- A read does not change staged payloads.
pub keeps_staged_read : {D : Type 0} (v : DiskView D) (old new : Current D) (payloads staged : List (List ℕ)) → v.bytes new.disk ≡ v.bytes old.disk → ((c : List ℕ) → v.image new.disk c → v.image old.disk c) → new.base ≡ old.base → new.epoch ≡ old.epoch → new.version ≡ old.version → new.gate ≡ old.gate → new.end ≡ old.end → new.held ≡ old.held
    → KeepsStagedPayloads v old payloads staged → KeepsStagedPayloads v new payloads staged
keeps_staged_read v old new payloads staged same images base epoch version gate end held keeps = record {
  kept = record {
    tells = subst (λ (o : Option (List ℕ)). IsSome o) (sym same) keeps.kept.tells;
    each = λ c now. subst (λ (b : ℕ). HasEntries (b + header_len) payloads c) (sym base) (keeps.kept.each c (images c now));
    behind = λ r is. subst (λ (b : ℕ). HasEntries (b + header_len) (payloads ++ staged) r) (sym base)
        (keeps.kept.behind r (ap (shown old.held) (sym same) ∙ ap (λ (h : Option ℕ). shown h (v.bytes new.disk)) (sym held) ∙ is));
    gate_at = ap (λ (h : Option ℕ). gate_of h new.gate) held ∙ ap (gate_of old.held) gate ∙ keeps.kept.gate_at ∙ ap (λ (b : ℕ). b + header_len + length (records payloads)) (sym base);
    place_at = gate ∙ keeps.kept.place_at ∙ ap (λ (b : ℕ). b + header_len + length (records (payloads ++ staged))) (sym base);
  };
  synced = λ none r tells c now. keeps.synced (sym held ∙ none) r (sym same ∙ tells) c (images c now);
  each = λ c now. subst (λ (b : ℕ). HasPayloads b payloads c) (sym base) (keeps.each c (images c now));
  epoch = λ c now. ap (λ (b : ℕ). epoch_of (header_at b c)) base ∙ keeps.epoch c (images c now) ∙ sym epoch;
  version = λ c now. ap (λ (b : ℕ). version_of (header_at b c)) base ∙ keeps.version c (images c now) ∙ sym version;
  inside = omega (arith, gate, end, keeps.inside);
}
