-- The lengths of the documents of a table.
use Rattle.std.specs.Prelude.{◌≡◌, ℕ, List, length, cond, Some}
use Rattle.spool_types.specs.Phases.{has_ended}
use Rattle.spool_types.specs.State.{State, Job, job_at}

-- The length of a job's document in bytes, which is 0 for a job that has ended.
abbrev pub document_len : Job → ℕ
document_len r = cond (has_ended r.phase) 0 r.size

-- Each job has a document of its length.
abbrev pub AreDocuments : State → (ℕ → List ℕ) → Type 0
AreDocuments s documents = (j : ℕ) (r : Job) → job_at s j ≡ Some r → length (documents j) ≡ document_len r
