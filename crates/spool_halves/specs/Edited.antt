-- A spool with one queue changed or removed.
use Rattle.std.specs.Prelude.{◌≡◌, ℕ, false, List, Option, None, Some, Result, Ok, Err}
use Rattle.spool_types.specs.Phases.{has_ended}
use Rattle.spool_types.specs.State.{State, Job, job_at}
use Rattle.spool_core.specs.Image.{HasDocument}
use Rattle.queue_edits.specs.declared.refusals.EditRefusal.{EditRefusal}
use Rattle.spool_halves.specs.declared.edits.EditFault.{EditFault}
use Rattle.spool_halves.specs.declared.edits.EditFault.TheVariants.{Refused, Memory, Full, Disk}

-- Each job that has not ended has the same document in the image as in the bytes.
abbrev pub KeepsAllDocuments : State → List ℕ → List ℕ → Type 0
KeepsAllDocuments s bytes image =
    (j : ℕ) (row : Job) (document : List ℕ) → job_at s j ≡ Some row → has_ended row.phase ≡ false → HasDocument j document bytes → HasDocument j document image

-- Why an edit is refused, if it is.
abbrev pub refusal_in : {T : Type 0} → Result T EditFault → Option EditRefusal
refusal_in (Ok x) = None
refusal_in (Err (Refused refusal)) = Some refusal
refusal_in (Err Memory) = None
refusal_in (Err Full) = None
refusal_in (Err Disk) = None
