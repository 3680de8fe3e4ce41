-- One event of a run.
use Rattle.spool_disk.specs.Disk.{DiskView}
use Rattle.std.specs.Prelude.{◌≡◌, false, IsTrue, Result, Ok, Err}
use Rattle.spool_types.specs.declared.event.Event.{Event}
use Rattle.spool_types.specs.declared.event.Reply.{Reply}
use Rattle.spool_types.specs.declared.refusal.Refusal.{Refusal}
use Rattle.job_table.specs.EventFold.{after_one}
use Rattle.spool_core.specs.OpenSpools.{OpenSpool, IsFailed, IsFull}
use Rattle.spool_core.specs.Driving.{room_after_one}
use Rattle.job_table.specs.Step.{answer_to}
use Rattle.spool_core.specs.declared.driving.Ending.{Ending}
use Rattle.spool_core.specs.declared.driving.Ending.TheVariants.{End, Memory, Full, Disk, Dead}

-- The event was answered.
pub record IsAnswered {D : Type 0} (old : OpenSpool D) (e : Event) (answer : Result Reply Refusal) (new : OpenSpool D) : Type 0 where
  pub alive : old.dead ≡ false
  pub answer_is : answer ≡ answer_to old.state e
  pub table : new.state ≡ after_one old.state e
  pub room : new.room ≡ room_after_one old.state old.room e
  pub dead : new.dead ≡ false

abbrev pub DrivesOne : {D : Type 0} → DiskView D → OpenSpool D → Event → Result (Result Reply Refusal) Ending → OpenSpool D → Type 0
DrivesOne v old e (Ok answer) new = IsAnswered old e answer new
DrivesOne v old e (Err End) new = ⊥
DrivesOne v old e (Err Memory) new = (old.dead ≡ false) × (new ≡ old)
DrivesOne v old e (Err Full) new = IsFull old e × (new ≡ old)
DrivesOne v old e (Err Disk) new = IsFailed v old e new
DrivesOne v old e (Err Dead) new = IsTrue old.dead × (new ≡ old)
