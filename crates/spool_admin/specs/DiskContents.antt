-- The contents of a spool's disk.
use Rattle.std.specs.Prelude.{◌≡◌, ◌+◌, ℕ, List, count_by, length}
use Rattle.std.specs.FinMap as finite
use Rattle.spool_types.specs.State.{Job, State}
use Rattle.spool_types.specs.Phases.{has_ended, is_incoming, is_processing, is_waiting}
use Rattle.spool_areas.specs.Header.{half, header_at, epoch_of, version_of}
use Rattle.spool_areas.specs.Payloads.{HasPayloads, gate_after}
use Rattle.spool_core.specs.Image.{HasTable}
use Rattle.spool_admin.specs.declared.found.JobCounts.{JobCounts}

-- The number of jobs, and the number in each kind of phase.
pub record AreCounted (jobs : List Job) (counts : JobCounts) : Type 0 where
  pub all : counts.all ≡ length jobs
  pub incoming : counts.incoming ≡ count_by (λ job. is_incoming job.phase) jobs
  pub waiting : counts.waiting ≡ count_by (λ job. is_waiting job.phase) jobs
  pub processing : counts.processing ≡ count_by (λ job. is_processing job.phase) jobs
  pub ended : counts.ended ≡ count_by (λ job. has_ended job.phase) jobs

-- The image has a table with this number of queues, and with jobs that have these counts.
pub record HasCounts (queues : ℕ) (counts : JobCounts) (image : List ℕ) : Type 0 where
  pub table : State
  pub found : HasTable table image
  pub queues_are : queues ≡ length (finite.values table.queues)
  pub jobs_are : AreCounted (finite.values table.jobs) counts

-- The current area of the image begins at base and has this version and this epoch. It has `used` bytes before the closed gate
-- after its records, and `free` bytes from there on.
pub record HasArea (base version epoch used free : ℕ) (image : List ℕ) : Type 0 where
  pub payloads : List (List ℕ)
  pub area : HasPayloads base payloads image
  pub version_is : version_of (header_at base image) ≡ version
  pub epoch_is : epoch_of (header_at base image) ≡ epoch
  pub used_is : base + used ≡ gate_after base payloads
  pub free_is : base + used + free ≡ base + half (length image)
