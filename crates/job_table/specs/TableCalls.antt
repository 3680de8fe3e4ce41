-- Calls of a table: how a call changes the stages of attempts, so that no stage begins twice.
use Rattle.std.specs.Prelude.{◌≡◌, ◌⊎◌, Bool, false, List, [], ◌∷◌, ◌++◌}
use Rattle.spool_types.specs.declared.event.Event.{Event}
use Rattle.spool_types.specs.State.{State}
use Rattle.job_table.specs.EventFold.{AreAccepted, after_all}
use Rattle.job_table.specs.Legal.{IsLegal}
use Rattle.job_table.specs.Stages.{Key, IsIn, IsSpent}
use Rattle.job_table.specs.TableVersions.{raised}

abbrev pub IsAmong : List Key → Key → Type 0
IsAmong [] k = ⊥
IsAmong (x ∷ xs) k = (x ≡ k) ⊎ IsAmong xs k

-- The list has no duplicates.
abbrev pub AreOnce : List Key → Type 0
AreOnce [] = Unit {0}
AreOnce (k ∷ ks) = (¬ (IsAmong ks k)) × AreOnce ks

-- After a prefix of the events the table has the job in that stage.
pub record IsReached (s : State) (more : List Event) (k : Key) : Type 0 where
  pub first : List Event
  pub rest : List Event
  pub split : more ≡ first ++ rest
  pub reached : IsIn (after_all s first) k

-- One call. At its start: the table and the stages that are held. During the call: the acknowledged events and the
-- stages of the new orders. At its return: the table, the stages that are held, and whether the device has failed. A
-- checkpoint during the call may raise the version, so the tables are compared in the newest version: an event that was
-- accepted before is accepted there too, with the same rows.
pub record IsTableCall (s : State) (Held : Key → Type 0) (more : List Event) (keys : List Key) (s' : State) (Held' : Key → Type 0) (over : Bool) : Type 0 where
  pub legal : IsLegal s
  pub accepted : AreAccepted (raised s) more
  pub table : raised s' ≡ after_all (raised s) more
  pub distinct : AreOnce keys
  pub outside : (k : Key) → IsAmong keys k → ¬ (Held k)
  pub reached : (k : Key) → IsAmong keys k → IsReached (raised s) more k
  pub settled : over ≡ false → (k : Key) → Held k ⊎ IsAmong keys k → Held' k ⊎ IsSpent s' k
