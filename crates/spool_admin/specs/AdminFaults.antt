-- The program's errors for the faults of a checkpoint, of a half and of an edit.
use Rattle.std.specs.Prelude.{◌≡◌, ◌⊎◌, ℕ, false, is_some, not, List, Option, None, Some, Result, Ok, Err, string_bytes}
use Rattle.std.specs.List.{find}
use Rattle.spool_types.specs.State.{State, queue_at}
use Rattle.spool_types.specs.Values.{is_queue_name}
use Rattle.spool_core.specs.declared.spool.checkpoint_fault.CheckpointFault.{CheckpointFault}
use Rattle.spool_core.specs.declared.spool.checkpoint_fault.CheckpointFault.TheVariants as checkpoint
use Rattle.split_rows.specs.declared.fault.HalfFault.{HalfFault}
use Rattle.split_rows.specs.declared.fault.HalfFault.TheVariants as half
use Rattle.spool_runtime.specs.DeviceLines.{IsOfPrinting}
use Rattle.spool_runtime.specs.Serving.{IsOfOpening}
use Rattle.spool_runtime.specs.declared.fault.DiskCause.TheVariants.{Failed}
use Rattle.spool_runtime.specs.declared.fault.ShellFault.{ShellFault}
use Rattle.spool_runtime.specs.declared.fault.ShellFault.TheVariants.{Disk, Memory}
use Rattle.spool_admin.specs.declared.fault.AdminFault.{AdminFault}
use Rattle.spool_admin.specs.declared.fault.AdminFault.TheVariants.{Ended, EpochEnd, Full, Missing, Queue, Shell, Smaller, Target, Unended}
use Rattle.queue_edits.specs.declared.refusals.EditRefusal.{EditRefusal}
use Rattle.queue_edits.specs.declared.refusals.EditRefusal.TheVariants as refusal
use Rattle.spool_halves.specs.declared.edits.EditFault.{EditFault}
use Rattle.spool_halves.specs.declared.edits.EditFault.TheVariants as edit

abbrev pub of_checkpoint : CheckpointFault → AdminFault
of_checkpoint checkpoint.Dead = Shell (Disk Failed)
of_checkpoint checkpoint.EpochEnd = EpochEnd
of_checkpoint checkpoint.Memory = Shell Memory
of_checkpoint checkpoint.Full = Full
of_checkpoint checkpoint.Disk = Shell (Disk Failed)

abbrev pub of_half : HalfFault → AdminFault
of_half half.Memory = Shell Memory
of_half half.Full = Full
of_half half.Disk = Shell (Disk Failed)

abbrev pub of_refusal : EditRefusal → AdminFault
of_refusal refusal.NoQueue = Queue
of_refusal refusal.Unended = Unended
of_refusal refusal.Ended = Ended

abbrev pub of_edit : EditFault → AdminFault
of_edit (edit.Refused cause) = of_refusal cause
of_edit edit.Memory = Shell Memory
of_edit edit.Full = Full
of_edit edit.Disk = Shell (Disk Failed)

-- The refusal of an edit that a result shows, if it shows one.
abbrev pub refusal_shown : {A : Type 0} → Result A AdminFault → Option EditRefusal
refusal_shown (Err Queue) = Some refusal.NoQueue
refusal_shown (Err Unended) = Some refusal.Unended
refusal_shown (Err Ended) = Some refusal.Ended
refusal_shown _ = None

-- The spool of the folder cannot be read.
abbrev pub IsOfLoading : AdminFault → Type 0
IsOfLoading told = (fault : ShellFault) × (told ≡ Shell fault) × IsOfOpening fault

-- Its figures cannot be read or written.
abbrev pub IsOfLooking : ShellFault → Type 0
IsOfLooking fault = IsOfOpening fault ⊎ IsOfPrinting fault

-- It cannot be listed in a larger file.
abbrev pub IsOfGrowth : AdminFault → Type 0
IsOfGrowth told = (told ≡ Smaller) ⊎ IsOfLoading told ⊎ ((fault : CheckpointFault) × (told ≡ of_checkpoint fault))

-- It cannot be listed with a queue edited.
abbrev pub IsOfEdit : AdminFault → Type 0
IsOfEdit told = (fault : EditFault) × (told ≡ of_edit fault)

-- The result of a call on the folder for the part.
abbrev pub at_target : {A : Type 0} → Result A ShellFault → Result A AdminFault
at_target (Ok value) = Ok value
at_target (Err fault) = Err (Target fault)

-- The spool has no queue with this name.
abbrev pub IsMissing : List ℕ → AdminFault → Type 0
IsMissing name (Missing found) = string_bytes found ≡ name
IsMissing name fault = ⊥

-- A word that cannot be the name of a queue is that of no queue.
abbrev pub IsNoName : AdminFault → Type 0
IsNoName fault = (name : List ℕ) × IsMissing name fault × (is_queue_name name ≡ false)

-- The first of these queues that the table does not have.
abbrev pub missing_queue : State → List (List ℕ) → Option (List ℕ)
missing_queue state names = find (λ name. not (is_some (queue_at state name))) names
