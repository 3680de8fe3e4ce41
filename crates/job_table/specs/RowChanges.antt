-- The change of an event that changes only the row of its job.
use Rattle.std.specs.Prelude.{◌≡◌, ℕ, true, None}
use Rattle.spool_types.specs.Phases.{has_ended}
use Rattle.spool_types.specs.State.{State, Job}
use Rattle.spool_types.specs.declared.event.Event.{Event}
use Rattle.job_table.specs.EventChanges.{closed, ended, held}
use Rattle.job_table.specs.Shapes.{Change, OfJob, WithoutJob, OfClock, OfAll}
use Rattle.job_table.specs.Step.{change_by, refusal_of}
use Rattle.job_table.specs.declared.store.row_changes.RowChange.{RowChange}
use Rattle.job_table.specs.declared.store.row_changes.RowChange.TheVariants.{Hold, End, Close}

-- The job after the change.
abbrev pub meant : RowChange → Job → Job
meant (Hold hold) = held hold
meant (End phase) = ended phase
meant (Close closing) = closed closing

-- A job that ends gets a phase of jobs that have ended.
abbrev pub EndsInEnd : RowChange → Type 0
EndsInEnd (End phase) = has_ended phase ≡ true
EndsInEnd change = Unit {0}

-- An event that is not refused makes this change.
pub record IsAsked (s : State) (j : ℕ) (change : RowChange) : Type 0 where
  pub event : Event
  pub accepted : refusal_of s event ≡ None
  pub changes : change_by event ≡ OfJob j (meant change)

-- The change writes its rows at once, unlike a Clock or a Reopen, which are several events, and removes no row.
abbrev pub WritesRows : Change → Type 0
WritesRows (WithoutJob j) = ⊥
WritesRows (OfClock m) = ⊥
WritesRows OfAll = ⊥
WritesRows change = Unit {0}

abbrev pub IsOfRows : Event → Type 0
IsOfRows e = WritesRows (change_by e)
