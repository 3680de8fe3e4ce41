-- The calls of the service to its engine, each on the run state that the previous one left.
use Rattle.std.specs.Prelude.{◌≡◌, ℕ, List, [], ◌∷◌, ◌++◌, map, Option, None, Some}
use Rattle.std.specs.FinMap as finite
use Rattle.spool_types.specs.declared.event.Event.{Event}
use Rattle.spool_types.specs.declared.event.Event.TheVariants.{Purge}
use Rattle.spool_types.specs.State.{State}
use Rattle.spool_core.specs.OpenSpools.{IsSettled as NoneStaged}
use Rattle.spool_disk.specs.Disk.{DiskView}
use Rattle.job_table.specs.Attempts.{HasNoProcessing}
use Rattle.job_table.specs.EventFold.{after_all}
use Rattle.job_table.specs.Legal.{IsLegal}
use Rattle.job_table.specs.Stages.{Key}
use Rattle.job_table.specs.TableVersions.{raised}
use Rattle.command_lines.specs.declared.command.Command.{Command}
use Rattle.command_lines.specs.declared.command.Command.TheVariants.{Apply}
use Rattle.child_pipeline.specs.ChildTraces.{ChildTrace}
use Rattle.child_pipeline.specs.declared.order.Placed.{Placed}
use Rattle.print_rounds.specs.StageHistory.{keys_in}
use Rattle.print_rounds.specs.declared.start_room.TickLimits.{TickLimits}
use Rattle.spool_engine.specs.EngineCalls.{Call, AreCalls, last_by, round_call, run_call, tick_call, stage_call, settle_call}
use Rattle.spool_engine.specs.EventSteps.{setting}
use Rattle.spool_engine.specs.EngineRuns.{Engine, CommandStep, HasNoRounds, commands_in}
use Rattle.spool_engine.specs.StagedSteps.{TakesStagingStep}

-- An engine changed by calls alone, and kept its rules and its place.
pub record GoesByCalls {D : Type 0} (device : DiskView D) (old new : Engine D) : Type 0 where
  pub mime : new.mime ≡ old.mime
  pub place : new.place ≡ old.place
  pub calls : List (Call D)
  pub are : AreCalls (setting device old.mime old.place) old.run_state calls
  pub last : last_by old.run_state calls ≡ new.run_state

-- ## The limit of running children

-- The limits of a tick with this limit of running children.
abbrev pub HasLimit : ℕ → Option TickLimits → Type 0
HasLimit most None = ⊥
HasLimit most (Some limits) = limits.most ≡ most

-- Children are started only in ticks with this limit.
abbrev pub IsWithin : {D : Type 0} → ℕ → Call D → Type 0
IsWithin most (round_call r) = ⊥
IsWithin most (tick_call t) = HasLimit most t.limits
IsWithin most (run_call turns) = HasNoRounds (commands_in turns)
IsWithin most (stage_call t) = Unit {0}
IsWithin most (settle_call next) = Unit {0}

abbrev pub AreWithin : {D : Type 0} → ℕ → List (Call D) → Type 0
AreWithin most [] = Unit {0}
AreWithin most (c ∷ cs) = IsWithin most c × AreWithin most cs

-- An engine changed by ticks with this limit and by commands that run no round, and the limit is as it was.
pub record GoesWithin {D : Type 0} (device : DiskView D) (most : ℕ) (old : Engine D) (left : ℕ) (new : Engine D) : Type 0 where
  pub mime : new.mime ≡ old.mime
  pub place : new.place ≡ old.place
  pub calls : List (Call D)
  pub are : AreCalls (setting device old.mime old.place) old.run_state calls
  pub last : last_by old.run_state calls ≡ new.run_state
  pub within : AreWithin most calls
  pub same : left ≡ most

-- ## Commands of maintenance

-- An engine answered a command, in a command step.
pub record HasAnswered {D : Type 0} (device : DiskView D) (old : Engine D) (command : Command) (new : Engine D) : Type 0 where
  pub mime : new.mime ≡ old.mime
  pub place : new.place ≡ old.place
  pub turn : CommandStep D
  pub takes : TakesStagingStep (setting device old.mime old.place) old.run_state command turn new.run_state

-- It answered these commands in order, and did nothing else.
abbrev pub HasAnsweredAll : {D : Type 0} → DiskView D → Engine D → List Command → Engine D → Type 0
HasAnsweredAll device old [] new = new ≡ old
HasAnsweredAll {D} device old (c ∷ cs) new = (mid : Engine D) × HasAnswered device old c mid × HasAnsweredAll device mid cs new

-- The commands that purge these jobs.
abbrev pub purges : List ℕ → List Command
purges jobs = map (λ job. Apply (Purge job)) jobs

-- ## Several services in order

-- A service: its engine as made and as left, the trace of its children at its start, and the orders since then.
pub record ServiceLife (D : Type 0) : Type 0 where
  pub start : Engine D
  pub last : Engine D
  pub told : ChildTrace
  pub orders : List Placed

-- Its engine was made on a legal table without a processing job, as an opening leaves it, and changed by calls. It held no slot, nothing
-- was staged, its children report their trace, and none was running.
pub record IsServiceLife {D : Type 0} (device : DiskView D) (l : ServiceLife D) : Type 0 where
  pub legal : IsLegal (l.start).run_state.spool.state
  pub idle : HasNoProcessing (l.start).run_state.spool.state
  pub empty : (l.start).run_state.slots ≡ finite.empty
  pub settled : NoneStaged (l.start).run_state.spool
  pub tells : (l.start).run_state.told ≡ Some l.told
  pub quiet : (l.told).running ≡ []
  pub goes : GoesByCalls device l.start l.last
  pub now : ChildTrace
  pub tells_then : (l.last).run_state.told ≡ Some now
  pub added : now.orders ≡ (l.told).orders ++ l.orders

-- Each is made on the table that the previous one left, plus some further events: the event that was being written, and the Reopen of the
-- opening.
abbrev pub AreServiceLives : {D : Type 0} → DiskView D → State → List (ServiceLife D) → Type 0
AreServiceLives device s [] = Unit {0}
AreServiceLives device s (l ∷ ls) =
    IsServiceLife device l × ((further : List Event) × (raised (l.start).run_state.spool.state ≡ after_all (raised s) further)) × AreServiceLives device (l.last).run_state.spool.state ls

abbrev pub IsServiceHistory : {D : Type 0} → DiskView D → List (ServiceLife D) → Type 0
IsServiceHistory device [] = Unit {0}
IsServiceHistory device (l ∷ ls) = IsServiceLife device l × AreServiceLives device (l.last).run_state.spool.state ls

-- The stages of all orders.
abbrev pub keys_ordered : {D : Type 0} → List (ServiceLife D) → List Key
keys_ordered [] = []
keys_ordered (l ∷ ls) = keys_in l.orders ++ keys_ordered ls
