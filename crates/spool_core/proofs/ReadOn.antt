-- The bytes that are read of a document.
use Rattle.std.proofs.Common.{◌≡◌, ◌⊎◌, inl, inr, ⊎_elim, ◌+◌, ◌≤◌, ℕ, Bool, List, [], length, Some, false, true, refl, sym, ap, ◌∙◌, arith}
use Rattle.spool_disk.specs.Disk.{DiskView, IsLawful}
use Rattle.extents.specs.declared.extent.Extent.{Extent}
use Rattle.extents.specs.Extents.{size_of}
use Rattle.spool_types.specs.Phases.{has_ended}
use Rattle.spool_types.specs.State.{Job, job_of, job_at}
use Rattle.spool_types.specs.declared.rows.JobRow.{JobRow}
use Rattle.spool_areas.specs.Current.{Current}
use Rattle.spool_areas.specs.Checkpoint.{other_base, area_len}
use Rattle.spool_areas.specs.Header.{header_len}
use Rattle.spool_areas.specs.AreaFields.{IsArea}
use Rattle.spool_areas.proofs.Plans.{two_of}
use Rattle.job_table.specs.Contents.{Contents, places_at}
use Rattle.job_table.specs.Over.{is_over, is_over_by}
use Rattle.job_table.specs.DocumentLengths.{document_len}
use Rattle.documents.specs.Documents.{joined, LieIn}
use Rattle.documents.proofs.Joined.{joined_len, kept}
use Rattle.spool_core.specs.ListingFilling.{TellsBut}
use Rattle.spool_core.specs.OpenSpools.{len_at, len_found}

pub some_same : (x y : Job) → Some x ≡ Some y → x ≡ y
some_same x y is = cc is

module _ {D : Type 0} (v : DiskView D) (lawful : IsLawful v) (a : Current D) where
  -- The bytes shown except in the other area are as long as the device.
  pub told_size : (r : List ℕ) → TellsBut v a r → length r ≡ v.size a.disk
  told_size r is = sym is.same.size ∙ lawful.image_size a.disk is.now (lawful.reads_image a.disk is.now is.tells)

  -- The bytes in the current area are the same.
  pub told_same : IsArea a.base a.end (v.size a.disk) → (xs : List Extent) → LieIn (a.base + header_len) a.end xs → (r : List ℕ) (is : TellsBut v a r) → joined is.now xs ≡ joined r xs
  told_same area xs lie r is = kept (a.base + header_len) a.end (other_base a) (area_len a) xs r is.now lie apart is.same
    where
      apart : (a.end ≤ other_base a) ⊎ (other_base a + area_len a ≤ a.base + header_len)
      apart = ⊎_elim (λ t. inl (omega (arith, t.0, t.1, area.end_is))) (λ t. inr (omega (arith, t.0, t.1, area.end_is))) (two_of (v.size a.disk) a.base a.end area)

-- A job's places contain the same number of bytes as its document.
module _ {D : Type 0} (v : DiskView D) (lawful : IsLawful v) (a : Current D) (c : Contents) (high : ℕ) (within : high ≤ v.size a.disk) (j : ℕ) (lie : is_over c.state j ≡ false → LieIn (a.base + header_len) high (places_at c j))
    (found : JobRow) (is : Some (job_of found) ≡ job_at c.state j) (places : found.document.items ≡ places_at c j) (sized : size_of found.document.items ≡ document_len (job_of found))
    (ended : has_ended found.job.phase ≡ true → found.document.items ≡ []) where
  long_by : (b : Bool) → has_ended found.job.phase ≡ b → (r : List ℕ) → length r ≡ v.size a.disk → length (joined r (places_at c j)) ≡ size_of (places_at c j)
  long_by true over r size = ap (λ (xs : List Extent). length (joined r xs)) (sym places ∙ ended over) ∙ ap size_of (sym (sym places ∙ ended over))
  long_by false lives r size = joined_len (a.base + header_len) high (places_at c j) r (lie (sym (ap (is_over_by c.state.highest j) is) ∙ lives)) (omega (arith, within, size))

  pub places_long : (r : List ℕ) → v.bytes a.disk ≡ Some r → length (joined r (places_at c j)) ≡ len_at c.state j
  places_long r tells = long_by (has_ended found.job.phase) refl r (lawful.image_size a.disk r (lawful.reads_image a.disk r tells)) ∙ ap size_of (sym places) ∙ sized ∙ ap len_found is
