use Rattle.std.proofs.Common.{◌≡◌, ◌⊎◌, ⊎_elim, ◌≤◌, inl, inr, ℕ, List, Option, None, Some, Result, Ok, Err, Bool, true, false, OnOk, length, refl, sym, ap, subst, ◌∙◌}
use Rattle.std.specs.Prelude.{IsSome, IsTrue}
use Rattle.spool_types.specs.State.{State}
use Rattle.gate_journal.specs.Stages.{ChangesGate}
use Rattle.gate_journal.specs.Staged.{shown}
use Rattle.spool_areas.specs.AreaStages.{AreaSettles, AreSettled}
use Rattle.gate_journal.specs.declared.journal.JournalFault.{JournalFault}
use Rattle.gate_journal.specs.declared.journal.JournalFault.TheVariants.{Full, Disk, Dead}
use Rattle.job_table.specs.Contents.{Contents}
use Rattle.spool_areas.specs.Current.{Current}
use Rattle.spool_disk.specs.Disk.{DiskView, IsLawful, IsSynced, LeavesOnly}
use Rattle.spool_disk.proofs.Moments.{as_long, started}
use Rattle.spool_disk.proofs.Ranges.{both_ok}
use Rattle.spool_core.specs.Batch.{IsTableOf, HasBeforeOrAllEvents, HasWholeBeforeOrAll}
use Rattle.spool_core.specs.Image.{HasTable, HasDocuments}
use Rattle.spool_core.specs.SpoolFields.{IsOpenSpoolAt, IsStagedAt}
use Rattle.spool_core.proofs.ImageLaws.{is_told, told_before, told_after, shows_table}
use Rattle.spool_core.proofs.BatchLaws.{before_is, settle_leaves, settle_leaves_whole, settled_stands, dead_areas, staged_on, open_staged}
use Rattle.spool_core.proofs.spool.batching.settle_records.Goals as goal

module _ {D : Type 0} (v : DiskView D) (lawful : IsLawful v) (old new : D) where
  long_gate : (held : Option ℕ) → ChangesGate v old new held → LeavesOnly v old new (λ c. length c ≡ v.size old)
  long_gate None same = subst (λ d. LeavesOnly v old d (λ c. length c ≡ v.size old)) (sym same) (started v old (λ c. length c ≡ v.size old) (λ c left. lawful.image_size old c (lawful.only_now old c left)))
  long_gate (Some gate) changes = as_long v old new gate 1 lawful changes

  told_gate : (held : Option ℕ) → ChangesGate v old new held → IsSome (v.bytes new) → IsSome (v.bytes old)
  told_gate None same told = subst (λ d. IsSome (v.bytes d)) same told
  told_gate (Some gate) changes told = told_before _ _ _ changes.bytes told

  told_on : (held : Option ℕ) → ChangesGate v old new held → IsSome (v.bytes old) → IsSome (v.bytes new)
  told_on None same told = subst (λ d. IsSome (v.bytes d)) (sym same) told
  told_on (Some gate) changes told = told_after _ _ _ changes.bytes told

  size_gate : (held : Option ℕ) → ChangesGate v old new held → v.size new ≡ v.size old
  size_gate None same = ap v.size same
  size_gate (Some gate) changes = changes.size

-- If the result is `Ok`, the areas were not dead.
alive_of : {T E A B : Type 0} (r : Result T E) (e : E) (dead : Bool) → (IsTrue dead → r ≡ Err e) → OnOk r A → (dead ≡ false → A → B) → OnOk r B
alive_of (Ok x) e true why a then = let is = why refl in absurd (cc is)
alive_of (Ok x) e false why a then = then refl a
alive_of (Err x) e dead why a then = tt

pub returns-clause-any_moment : goal.returns-clause-any_moment
returns-clause-any_moment g c alive before is =
    let v = g.D.Disk.device in
    let old = c.args.areas.now in
    let new = c.settle.new.self in
    let t = c.args.table.now in
    let keeps = c.requires.table alive (is_told (v.bytes old.disk) is.0 is.1) in
    subst (λ (s : State). LeavesOnly v old.disk new.disk (HasBeforeOrAllEvents s t.state)) (before_is v g.met.D.Disk.lawful old keeps.0 t c.requires.area.end_is c.requires.roomy keeps.1 before is)
    (settle_leaves v g.met.D.Disk.lawful old keeps.0 t c.requires.area.end_is c.requires.roomy keeps.1 new.disk (long_gate v g.met.D.Disk.lawful old.disk new.disk old.held c.settle.ensures.settles.changes)
    (c.settle.ensures.any_moment keeps.1.payloads keeps.1.staged keeps.1.kept))

-- If it is `Ok`, they are not dead afterwards.
alive_after : {T E A B : Type 0} (r : Result T E) (failed gone : E) (dead was : Bool) → (IsTrue dead → IsTrue was ⊎ (r ≡ Err failed)) → (IsTrue was → r ≡ Err gone) → OnOk r A → (dead ≡ false → A → B) → OnOk r B
alive_after (Ok x) failed gone true was why refused a then = absurd (⊎_elim (λ w. let e = refused w in cc e) (λ e. cc e) (why refl))
alive_after (Ok x) failed gone false was why refused a then = then refl a
alive_after (Err x) failed gone dead was why refused a then = tt

-- Whatever the result, the areas are those of an open spool.
stands_by : {D : Type 0} (v : DiskView D) (lawful : IsLawful v) (old new : Current D) (t : Contents) (r : Result (Unit {0}) JournalFault) → IsStagedAt v old t → OnOk r (IsOpenSpoolAt v new t) → OnOk r (new.held ≡ None)
    → new.base ≡ old.base → new.end ≡ old.end → new.version ≡ old.version → new.gate ≡ old.gate → v.size new.disk ≡ v.size old.disk → (r ≡ Err Disk → new.dead ≡ true) → (r ≡ Err Dead → new ≡ old) → (r ≡ Err Full → ⊥) → IsStagedAt v new t
stands_by v lawful old new t (Ok x) stands settled held base end version gate size dies dead roomy = open_staged v lawful new t (λ alive. held) settled
stands_by v lawful old new t (Err Disk) stands settled held base end version gate size dies dead roomy =
    staged_on v old new t t (dead_areas v old new base end version gate size (dies refl)) refl refl stands
stands_by v lawful old new t (Err Dead) stands settled held base end version gate size dies dead roomy = subst (λ a. IsStagedAt v a t) (sym (dead refl)) stands
stands_by v lawful old new t (Err Full) stands settled held base end version gate size dies dead roomy = absurd (roomy refl)

-- Nothing is staged afterwards, or the device has failed.
settled_by : {D : Type 0} (new : Current D) (was : Bool) (r : Result (Unit {0}) JournalFault) → OnOk r (new.held ≡ None) → ((IsTrue was ⊎ (r ≡ Err Disk)) → IsTrue new.dead) → (r ≡ Err Dead → IsTrue was) → (r ≡ Err Full → ⊥) → AreSettled new
settled_by new was (Ok x) held dies dead roomy alive = held
settled_by new was (Err Disk) held dies dead roomy alive = let d = dies (inr refl) in absurd (cc (d, alive))
settled_by new was (Err Dead) held dies dead roomy alive = let d = dies (inl (dead refl)) in absurd (cc (d, alive))
settled_by new was (Err Full) held dies dead roomy alive = absurd (roomy refl)

module _ {D : Type 0} (v : DiskView D) (lawful : IsLawful v) (old new : Current D) (t : Contents) (r : Result (Unit {0}) JournalFault) (stands : IsStagedAt v old t) (settles : AreaSettles v old new r) where
  -- After `Ok` they are those of an open spool without staged events.
  settled_at : OnOk r (IsOpenSpoolAt v new t)
  settled_at =
      let changes = settles.settles.changes in
      alive_of r Dead old.dead settles.settles.dead.1 settles.settled (λ alive settled.
      settled_stands v old new t stands alive (told_gate v lawful old.disk new.disk old.held changes) settles.same.0 settles.same.1 settles.same.3
      settles.settles.same.2 (size_gate v lawful old.disk new.disk old.held changes) settled)

  stands_after : IsStagedAt v new t
  stands_after =
      stands_by v lawful old new t r stands settled_at settles.settles.held settles.same.0 settles.same.1 settles.same.3 settles.settles.same.2 (size_gate v lawful old.disk new.disk old.held settles.settles.changes)
      (λ is. settles.settles.dies.1 (inr is)) settles.untouched settles.settles.roomy

  settled_kept : OnOk r (IsSome (v.bytes old.disk) → (c : List ℕ) → v.image new.disk c → HasTable t.state c)
  settled_kept =
      alive_after r Disk Dead new.dead old.dead settles.settles.dies.0 settles.settles.dead.1 settled_at (λ alive is tells.
      shows_table v lawful new t is.area.end_is is.roomy (is.table alive (told_on v lawful old.disk new.disk old.held settles.settles.changes tells)))

  settled_synced : OnOk r (IsSynced v new.disk)
  settled_synced =
      alive_after r Disk Dead new.dead old.dead settles.settles.dies.0 settles.settles.dead.1 settled_at (λ alive is x tells.
      (is.table alive (is_told (v.bytes new.disk) x tells)).kept.synced x tells)

  -- The bytes after it are those shown before it.
  settled_documents : OnOk r ((s : List ℕ) (documents : ℕ → List ℕ) → shown old.held (v.bytes old.disk) ≡ Some s → HasDocuments t.state documents s → (c : List ℕ) → v.image new.disk c → HasDocuments t.state documents c)
  settled_documents =
      both_ok r settles.settles.written settled_synced (λ written synced s documents shows has c left.
      subst (HasDocuments t.state documents) (sym (synced s (written ∙ shows) c left)) has)

pub returns-clause-stands : goal.returns-clause-stands
returns-clause-stands g c = stands_after g.D.Disk.device g.met.D.Disk.lawful c.args.areas.now c.settle.new.self c.args.table.now c.settle.result c.requires c.settle.ensures

pub returns-clause-kept : goal.returns-clause-kept
returns-clause-kept g c = settled_kept g.D.Disk.device g.met.D.Disk.lawful c.args.areas.now c.settle.new.self c.args.table.now c.settle.result c.requires c.settle.ensures

pub returns-clause-durable : goal.returns-clause-durable
returns-clause-durable g c = settled_synced g.D.Disk.device g.met.D.Disk.lawful c.args.areas.now c.settle.new.self c.args.table.now c.settle.result c.requires c.settle.ensures

pub returns-clause-sent : goal.returns-clause-sent
returns-clause-sent g c = settled_documents g.D.Disk.device g.met.D.Disk.lawful c.args.areas.now c.settle.new.self c.args.table.now c.settle.result c.requires c.settle.ensures

pub returns-clause-settled : goal.returns-clause-settled
returns-clause-settled g c =
    let settles = c.settle.ensures.settles in
    settled_by c.settle.new.self c.args.areas.now.dead c.settle.result settles.held settles.dies.1 settles.dead.0 settles.roomy

pub returns-clause-fixed : goal.returns-clause-fixed
returns-clause-fixed g c = size_gate g.D.Disk.device g.met.D.Disk.lawful c.args.areas.now.disk c.settle.new.self.disk c.args.areas.now.held c.settle.ensures.settles.changes

pub returns-clause-told : goal.returns-clause-told
returns-clause-told g c =
    let v = g.D.Disk.device in
    let old = c.args.areas.now in
    let new = c.settle.new.self in
    let changes = c.settle.ensures.settles.changes in
    (told_gate v g.met.D.Disk.lawful old.disk new.disk old.held changes, told_on v g.met.D.Disk.lawful old.disk new.disk old.held changes)

pub returns-clause-documents : goal.returns-clause-documents
returns-clause-documents g c alive r s before documents sent tells shows has all_has =
    let v = g.D.Disk.device in
    let lawful = g.met.D.Disk.lawful in
    let old = c.args.areas.now in
    let new = c.settle.new.self in
    let t = c.args.table.now in
    let keeps = c.requires.table alive (is_told (v.bytes old.disk) r tells) in
    let same = before_is v lawful old keeps.0 t c.requires.area.end_is c.requires.roomy keeps.1 before (r, tells, has.0) in
    subst (λ (x : State). LeavesOnly v old.disk new.disk (HasWholeBeforeOrAll x documents t.state sent)) same
    (settle_leaves_whole v lawful old keeps.0 t c.requires.area.end_is c.requires.roomy keeps.1 new.disk (long_gate v lawful old.disk new.disk old.held c.settle.ensures.settles.changes)
    (c.settle.ensures.any_moment keeps.1.payloads keeps.1.staged keeps.1.kept) r s documents sent tells shows (subst (λ (x : State). HasDocuments x documents r) (sym same) has.1) all_has)
