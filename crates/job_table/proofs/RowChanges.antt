-- The changes of a job's row by an event.
use Rattle.std.proofs.Common.{◌≡◌, ℕ, None, refl}
use Rattle.spool_types.specs.State.{State, Job}
use Rattle.spool_types.specs.declared.event.Event.{Event}
use Rattle.job_table.specs.RowChanges.{meant, IsAsked}
use Rattle.job_table.specs.Shapes.{OfJob}
use Rattle.job_table.specs.Step.{change_by, refusal_of}
use Rattle.job_table.specs.declared.store.row_changes.RowChange.{RowChange}
use Rattle.job_table.specs.declared.store.row_changes.RowChange.TheVariants.{Hold, End, Close}
use Rattle.job_table.proofs.Follows.{closed_same}

-- The job keeps its number.
pub meant_id : (change : RowChange) (x : Job) → (meant change x).id ≡ x.id
meant_id (Hold hold) x = refl
meant_id (End phase) x = refl
meant_id (Close closing) x = (closed_same closing x).id

pub asked : (s : State) (j : ℕ) (change : RowChange) (e : Event) → refusal_of s e ≡ None → change_by e ≡ OfJob j (meant change) → IsAsked s j change
asked s j change e accepted changes = record { event = e; accepted = accepted; changes = changes }
