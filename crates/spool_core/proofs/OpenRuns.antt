-- The images that a crash leaves while a spool is opened, and afterwards.
use Rattle.std.proofs.Common.{◌≡◌, ℕ, List, Some, IsSome, sym, subst, ap, ◌∙◌}
use Rattle.spool_types.specs.State.{State}
use Rattle.spool_disk.specs.Disk.{DiskView, IsLawful, LeavesOnly}
use Rattle.spool_disk.proofs.Moments.{runs_on, at_return, weaker_run}
use Rattle.spool_disk.proofs.Ranges.{told}
use Rattle.job_table.specs.Contents.{Contents}
use Rattle.extents.specs.declared.extent.Extent.{Extent}
use Rattle.spool_areas.specs.Header.{header_at, epoch_of, version_of}
use Rattle.spool_areas.specs.Payloads.{HasPayloads, gate_after}
use Rattle.spool_areas.specs.Current.{Current, KeepsPayloads}
use Rattle.spool_areas.specs.PayloadExtents.{payloads_at}
use Rattle.spool_core.specs.Image.{HasTable}
use Rattle.spool_core.specs.SpoolFields.{ArePlacesOf, HasHistory, KeepsTable}
use Rattle.spool_core.specs.Folding.{IsRead}

module _ {D : Type 0} (v : DiskView D)
    (lawful : IsLawful v) (disk : D) (old new : Current D)
    (read : IsRead v old new) where
  -- A present image was one before.
  was_image : (c : List ℕ) → v.image new.disk c → v.image old.disk c
  was_image = at_return v lawful old.disk new.disk (v.image old.disk) read.disk.images

  keeps_on : (payloads : List (List ℕ)) → IsSome (v.bytes new.disk) → KeepsPayloads v old payloads → KeepsPayloads v new payloads
  keeps_on payloads now keeps = record {
    tells = now;
    synced = λ r tells c left. keeps.synced r (sym read.disk.bytes ∙ tells) c (was_image c left);
    each = λ c left. subst (λ (b : ℕ). HasPayloads b payloads c) (sym read.base) (keeps.each c (was_image c left));
    epoch = λ c left. ap (λ (b : ℕ). epoch_of (header_at b c)) read.base ∙ keeps.epoch c (was_image c left) ∙ sym read.epoch;
    version = λ c left. ap (λ (b : ℕ). version_of (header_at b c)) read.base ∙ keeps.version c (was_image c left) ∙ sym read.version;
    gate_at = read.gate ∙ keeps.gate_at ∙ ap (λ (b : ℕ). gate_after b payloads) (sym read.base);
  }

  pub table_kept : (extents : List Extent) (t : Contents) → v.bytes old.disk ≡ v.bytes disk → ((r : List ℕ) → v.bytes disk ≡ Some r → KeepsPayloads v old (payloads_at r extents))
      → ((r : List ℕ) → v.bytes disk ≡ Some r → HasHistory old.base old.version (payloads_at r extents) t) → IsSome (v.bytes new.disk) → KeepsTable v new t
  table_kept extents t same keeps history now =
      let there = told (v.bytes new.disk) now in
      let tells : v.bytes disk ≡ Some there.0 = sym same ∙ sym read.disk.bytes ∙ there.1 in
      let has = history there.0 tells in
      record {
        version = has.version;
        payloads = payloads_at there.0 extents;
        kept = keeps_on (payloads_at there.0 extents) now (keeps there.0 tells);
        number_is = read.version ∙ has.number_is;
        history = has.history;
        places = subst (λ (b : ℕ). ArePlacesOf has.version b has.history.rows has.history.events t) (sym read.base) has.places;
      }

  module _ (s : State) (opened : (r : List ℕ) → v.bytes disk ≡ Some r → HasTable s r) (synced : D)
      (since : LeavesOnly v synced old.disk (λ c. (r : List ℕ) → v.bytes disk ≡ Some r → c ≡ r)) where
    with_table : (c : List ℕ) → ((r : List ℕ) → v.bytes disk ≡ Some r → c ≡ r) → (r : List ℕ) → v.bytes disk ≡ Some r → (c ≡ r) × HasTable s c
    with_table c is r tells = (is r tells, subst (HasTable s) (sym (is r tells)) (opened r tells))

    old_image : (c : List ℕ) → v.image old.disk c → (r : List ℕ) → v.bytes disk ≡ Some r → (c ≡ r) × HasTable s c
    old_image c left = with_table c (at_return v lawful synced old.disk (λ c. (r : List ℕ) → v.bytes disk ≡ Some r → c ≡ r) since c left)

    pub since_sync : LeavesOnly v synced new.disk (λ c. (r : List ℕ) → v.bytes disk ≡ Some r → (c ≡ r) × HasTable s c)
    since_sync =
        runs_on v synced old.disk new.disk (λ c. (r : List ℕ) → v.bytes disk ≡ Some r → (c ≡ r) × HasTable s c) (v.image old.disk)
        (weaker_run v synced old.disk (λ c. (r : List ℕ) → v.bytes disk ≡ Some r → (c ≡ r) × HasTable s c) (λ c. (r : List ℕ) → v.bytes disk ≡ Some r → c ≡ r) since with_table)
        read.disk.images
        old_image

    pub image_kept : IsSome (v.bytes disk) → (c : List ℕ) → v.image new.disk c → HasTable s c
    image_kept now c left =
        let there = told (v.bytes disk) now in
        (old_image c (was_image c left) there.0 there.1).1
