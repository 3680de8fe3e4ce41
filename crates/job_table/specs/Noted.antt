-- The meaning of the fields of the list of new places.
use Rattle.std.specs.Prelude.{◌≡◌, ℕ, ◌-◌, ◌*◌, ◌≤◌, List, [], map, vec_len, vec_capacity, IsTrue}
use Rattle.std.specs.Ordering.{nat_cmp}
use Rattle.std.specs.FinMap as finite
use Rattle.extents.specs.declared.extent.Extent.{Extent}
use Rattle.spool_types.specs.Limits.{longest_send}
use Rattle.spool_types.specs.State.{Job}
use Rattle.spool_types.specs.declared.rows.JobRow.{JobRow}
use Rattle.job_table.specs.Contents.{Noted}
use Rattle.job_table.specs.DocumentLengths.{document_len}
use Rattle.job_table.specs.declared.new_places.NewDocument.{NewDocument}
use Rattle.job_table.specs.declared.new_places.NewPlaces.TheInside.{Inside}

abbrev pub new_entry : NewDocument → ℕ × List Extent
new_entry d = (d.job, d.extents.items)

-- The number of extents that can still be added without allocating.
abbrev pub new_spare : NewDocument → ℕ
new_spare d = vec_capacity d.extents - vec_len d.extents

abbrev pub spare_entry : NewDocument → ℕ × ℕ
spare_entry d = (d.job, new_spare d)

abbrev pub noted_of : Inside → Noted
noted_of a = record { places = map new_entry a.documents.items; room = map spare_entry a.documents.items; kept = vec_capacity a.documents }

-- The jobs are in ascending order, without duplicates.
abbrev pub AreNoted : Inside → Type 0
AreNoted a = IsTrue (finite.is_sorted nat_cmp (map new_entry a.documents.items))

-- A job without extents.
abbrev pub blank_entry : JobRow → ℕ × List Extent
blank_entry r = (r.job.id, [])

-- The job has no extents, and room for one extent for each piece of its document.
pub record IsNewFor (r : Job) (d : NewDocument) : Type 0 where
  pub job : d.job ≡ r.id
  pub none : d.extents.items ≡ []
  pub room : document_len r ≤ new_spare d * longest_send

abbrev pub IsNewOf : JobRow → NewDocument → Type 0
IsNewOf r d = IsNewFor r.job d
