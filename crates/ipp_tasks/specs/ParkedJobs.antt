-- The jobs that wait for their next request.
use Rattle.std.specs.Prelude.{◌≡◌, ◌≢◌, ℕ, ◌+◌, Bool, nat_lt, Option}
use Rattle.std.specs.BTreeMap.{btree_map_len, get}
use Rattle.std.specs.Ordering.{nat_cmp}
use Rattle.ipp_printing.specs.declared.printing.PrintingJob.{PrintingJob}
use Rattle.ipp_tasks.specs.declared.parked.Parked.{Parked}

abbrev pub most_parked : ℕ
most_parked = 1024

abbrev pub count_of : Parked → ℕ
count_of parked = btree_map_len parked.jobs

-- The job with this number.
abbrev pub job_with : Parked → ℕ → Option PrintingJob
job_with parked number = get nat_cmp parked.jobs number

-- Only the job with this number changes.
abbrev pub KeepsOthers : ℕ → Parked → Parked → Type 0
KeepsOthers number old new = (other : ℕ) → other ≢ number → job_with new other ≡ job_with old other

-- No client has used the job for more than five minutes.
abbrev pub is_late : ℕ → PrintingJob → Bool
is_late seconds job = nat_lt (job.used + 300) seconds
