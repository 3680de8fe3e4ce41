-- A turn of the loop: its calls, and that it leaves nothing undone unless it reports that there is more.
use Rattle.std.specs.Prelude.{◌≡◌, ◌⊎◌, ℕ, ◌<◌, ◌≤◌, ◌/◌, Bool, false, not, ◌&&◌, ◌||◌, nat_lt, [], Option, None, Some, Result, Ok, Err, IfSome, is_some}
use Rattle.slab.specs.Slab.{Slab, get}
use Rattle.spool_types.specs.Limits.{greatest_moment}
use Rattle.spool_types.specs.State.{State}
use Rattle.spool_disk.specs.Disk.{DiskView}
use Rattle.command_lines.specs.declared.command.Command.TheVariants.{Checkpoint}
use Rattle.print_rounds.specs.declared.outcome.Round.{Round}
use Rattle.print_rounds.specs.declared.outcome.RoundFault.{RoundFault}
use Rattle.spool_engine.specs.EventSteps.{setting}
use Rattle.spool_engine.specs.EngineRuns.{Engine}
use Rattle.spool_engine.specs.EngineTicks.{Ticked}
use Rattle.spool_engine.specs.StagedSteps.{IsStagingTick}
use Rattle.service_rules.specs.Bounds.{most_clients}
use Rattle.service_rules.specs.Clocks.{clock_to_announce}
use Rattle.service_loop.specs.ServiceCalls.{GoesByCalls, HasAnswered}
use Rattle.service_loop.specs.Due.{clocks_of}
use Rattle.service_loop.specs.ClientSlots.{HasNoneNow}
use Rattle.service_loop.specs.Progress.{IsGiven}
use Rattle.service_loop.specs.declared.client.Client.{Client}
use Rattle.service_loop.specs.declared.maintenance.Maintenance.{Maintenance}

-- Each client was sent what its connection takes, and nothing can be done for it now.
abbrev pub AreAtRest : {L : Type 0} → Slab (Client L) → Type 0
AreAtRest slots = (key : ℕ) → key < most_clients → IfSome (get slots key) (λ c. IsGiven c × HasNoneNow c)

-- A new client may be connecting and can be accepted: the last one could, and no end was requested.
abbrev pub has_new_client_waiting : Bool → Bool → Option ℕ → Bool
has_new_client_waiting has_new_client barred ends = has_new_client && (not barred && not (is_some ends))

-- ## A tick

-- A stage was started or finished in it.
abbrev pub has_moved : Result Round RoundFault → Bool
has_moved (Ok counts) = nat_lt 0 counts.started || nat_lt 0 counts.finished
has_moved (Err fault) = false

-- An engine ticked, and `has` says whether a stage was started or finished.
pub record HasTicked {D : Type 0} (device : DiskView D) (old : Engine D) (has : Bool) (new : Engine D) : Type 0 where
  pub mime : new.mime ≡ old.mime
  pub place : new.place ≡ old.place
  pub ticked : Ticked D
  pub is : IsStagingTick (setting device old.mime old.place) old.run_state ticked
  pub next : ticked.next ≡ new.run_state
  pub moved : has_moved ticked.result ≡ has

-- ## Maintenance

-- No more jobs have ended than are retained, or none of them is listed.
abbrev pub HasNoneToPurge : Maintenance → Type 0
HasNoneToPurge maintenance = (maintenance.listed.items ≡ []) ⊎ (maintenance.ended ≤ maintenance.keep)

-- The last time of the service, if a clock could be read, leaves no due time to send over a table.
abbrev pub IsTimely : Maintenance → State → Option ℕ → Type 0
IsTimely maintenance s None = Unit {0}
IsTimely maintenance s (Some millis) = millis / 1000 ≤ greatest_moment → clock_to_announce (clocks_of maintenance s (millis / 1000)) ≡ None

-- The time was sent if it was due, and further commands followed.
pub record HasKeptTime {D : Type 0} (device : DiskView D) (old : Engine D) (maintenance : Maintenance) (last : Option ℕ) (new : Engine D) : Type 0 where
  pub between : Engine D
  pub time : GoesByCalls device old between
  pub timely : IsTimely maintenance between.run_state.spool.state last
  pub others : GoesByCalls device between new

-- The same, if the clock reports its last result.
abbrev pub KeepsTime : {D : Type 0} → DiskView D → Engine D → Maintenance → Option (Option ℕ) → Engine D → Type 0
KeepsTime device old maintenance told new = IfSome told (λ last. HasKeptTime device old maintenance last new)

-- No command was sent, or a checkpoint was tried.
abbrev pub HasTriedAtMost : {D : Type 0} → DiskView D → Engine D → Engine D → Type 0
HasTriedAtMost device old new = (new ≡ old) ⊎ HasAnswered device old Checkpoint new

-- ## The whole turn

-- The clients' commands, a tick, and the commands of maintenance. Unless there is more to do at once, the tick started and finished
-- nothing, and maintenance sent no command or tried a checkpoint in vain.
pub record HasTurned {D : Type 0} (device : DiskView D) (old : Engine D) (maintenance : Maintenance) (told : Option (Option ℕ)) (more : Bool) (new : Engine D) : Type 0 where
  pub before : Engine D
  pub behind : Engine D
  pub moved : Bool
  pub clients : GoesByCalls device old before
  pub tick : HasTicked device before moved behind
  pub kept : KeepsTime device behind maintenance told new
  pub still : more ≡ false → (moved ≡ false) × HasTriedAtMost device behind new
