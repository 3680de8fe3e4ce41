-- The effect of an opening if a job was processing.
use Rattle.std.proofs.Common.{◌≡◌, ℕ, List, Some, Err, arith, inl, refl, sym, subst, ◌∙◌}
use Rattle.std.specs.Prelude.{IsSome, IsErrOf}
use Rattle.job_table.specs.Attempts.{HasNoProcessing}
use Rattle.spool_types.specs.State.{State}
use Rattle.spool_types.specs.declared.event.Event.TheVariants.{Reopen}
use Rattle.spool_disk.specs.Disk.{DiskView, Blames, LeavesOnly}
use Rattle.spool_disk.proofs.Moments.{runs_on, weaker_run}
use Rattle.spool_areas.specs.declared.fault.OpenFault.{OpenFault}
use Rattle.spool_areas.specs.declared.fault.OpenFault.TheVariants.{NotASpool, Damaged, Memory, Disk}
use Rattle.spool_core.specs.Image.{HasTable, HasDocuments, HasBeforeOrAfterEvent, IsMidway, IsReopeningFault}

-- Except for the device, only memory can fail.
pub wants_memory : (f : OpenFault) → IsReopeningFault f → ¬ (f ≡ Disk) → f ≡ Memory
wants_memory NotASpool is other = absurd is
wants_memory (Damaged place) is other = absurd is
wants_memory Memory is other = refl
wants_memory Disk is other = absurd (other refl)

-- If the count was as before, the device is blamed for the later failure.
pub blames_disk : (before loaded reopened last : ℕ) (f : OpenFault) → loaded ≡ before → last ≡ reopened → Blames loaded reopened (IsErrOf {T = Unit {0}} (Err f) Disk) → Blames before last (f ≡ Disk)
blames_disk before loaded reopened last f first same is = record {
  later = omega (arith, first, same, is.later);
  failed = λ at. let less = is.failed (cc at) in omega (arith, first, same, less);
  counted = λ other. same ∙ is.counted (λ at. other (cc at)) ∙ first;
}

module _ {D : Type 0} (v : DiskView D) (disk loaded synced : D) (s : State)
    (opened : (r : List ℕ) → v.bytes disk ≡ Some r → HasTable s r) (same : v.bytes loaded ≡ v.bytes disk)
    (since : LeavesOnly v synced loaded (λ c. (r : List ℕ) → v.bytes disk ≡ Some r → (c ≡ r) × HasTable s c)) where
  abbrev Midway : List ℕ → Type 0
  Midway c = (r : List ℕ) → v.bytes disk ≡ Some r → IsMidway r c

  -- Until then nothing was written.
  pub still : LeavesOnly v synced loaded Midway
  still = weaker_run v synced loaded Midway (λ c. (r : List ℕ) → v.bytes disk ≡ Some r → (c ≡ r) × HasTable s c) since
      (λ c left r tells. record { table = s; found = opened r tells; left = inl (left r tells).1; documents = λ documents has. subst (HasDocuments s documents) (sym (left r tells).0) has; unwritten = λ idle. (left r tells).0 })

  -- The images that the record of a reopening leaves.
  abbrev Reopening : List ℕ → Type 0
  Reopening c = (IsSome (v.bytes loaded) → HasBeforeOrAfterEvent s Reopen c) × ((r : List ℕ) (documents : ℕ → List ℕ) → v.bytes loaded ≡ Some r → HasDocuments s documents r → HasDocuments s documents c)

  module _ (busy : ¬ (HasNoProcessing s)) (new : D) (run : LeavesOnly v loaded new Reopening) where
    changed : (c : List ℕ) → Reopening c → Midway c
    changed c left r tells =
        let told = same ∙ tells in
        record {
          table = s;
          found = opened r tells;
          left = left.0 (subst IsSome (sym told) refl);
          documents = λ documents has. left.1 r documents told has;
          unwritten = λ idle. absurd (busy idle);
        }

    pub since_sync : LeavesOnly v synced new Midway
    since_sync = runs_on v synced loaded new Midway Reopening still run changed
