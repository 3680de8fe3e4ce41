-- A tick of an engine, also if something failed.
use Rattle.std.specs.Prelude.{◌≡◌, ◌≤◌, ◌↔◌, ◌⊎◌, ℕ, Bool, true, false, List, [], IfSome, IsSome, Option, Result}
use Rattle.spool_types.specs.declared.event.Event.{Event}
use Rattle.filter_args.specs.declared.place.Place.{Place}
use Rattle.spool_disk.specs.Disk.{DiskView, LeavesOnly}
use Rattle.print_rounds.specs.RunStates.{RunState}
use Rattle.print_rounds.specs.Rounds.{HasSomeOf, HasSomeWhole, LeavesDocuments, IsUnbegun, tried_in}
use Rattle.print_rounds.specs.RoundTicks.{IsTickOf, IsTickBy, count_running}
use Rattle.print_rounds.specs.declared.start_room.TickLimits.{TickLimits}
use Rattle.print_rounds.specs.declared.outcome.Round.{Round}
use Rattle.print_rounds.specs.declared.outcome.RoundFault.{RoundFault}
use Rattle.spool_engine.specs.EventSteps.{Setting, IsKept}

-- A tick: its limits, the run state after it, its result, and the events that were tried in it.
pub record Ticked (D : Type 0) : Type 0 where
  pub limits : Option TickLimits
  pub next : RunState D
  pub result : Result Round RoundFault
  pub tried : List Event

-- The events that were tried in a tick: the acknowledged ones, followed by the current one if the device failed. A tick that did
-- nothing tried none.
abbrev pub IsTickWith : {D : Type 0} → DiskView D → Place → RunState D → Bool → Ticked D → Type 0
IsTickWith device place old true t = IsTickBy device place t.limits old true t.next t.result × (t.tried ≡ [])
IsTickWith device place old false t =
    (IsUnbegun old t.next t.result × (t.tried ≡ []))
    ⊎ ((made : IsTickOf device place t.limits old t.next t.result) × (t.tried ≡ tried_in old made.steps.parts))

-- A tick. Unless the device had failed before, a crash at any moment of it leaves the table after the first of the events that were tried,
-- some or all.
pub record IsTicked {D : Type 0} (v : Setting D) (old : RunState D) (t : Ticked D) : Type 0 where
  pub tick : IsTickWith v.device v.place old old.spool.dead t
  pub counted : v.device.failures old.spool.disk ≤ v.device.failures t.next.spool.disk
  -- No more children run than may at once.
  pub most : IfSome t.limits (λ l. count_running old.slots ≤ l.most → count_running t.next.slots ≤ l.most)
  pub told : IsSome (v.device.bytes t.next.spool.disk) ↔ IsSome (v.device.bytes old.spool.disk)
  pub crash : old.spool.dead ≡ false → IsSome (v.device.bytes old.spool.disk) →
      LeavesOnly v.device old.spool.disk t.next.spool.disk (HasSomeOf old.spool.state t.tried)
  pub kept : IsKept v.device t.next.spool
  -- The same with the documents, which a tick does not change.
  pub whole : old.spool.dead ≡ false → IsSome (v.device.bytes old.spool.disk) → (documents : ℕ → List ℕ) → LeavesDocuments v.device documents old.spool →
      LeavesOnly v.device old.spool.disk t.next.spool.disk (HasSomeWhole old.spool.state documents t.tried)
  pub lasting : t.next.spool.dead ≡ false → IsSome (v.device.bytes old.spool.disk) → (documents : ℕ → List ℕ) → LeavesDocuments v.device documents old.spool →
      LeavesDocuments v.device documents t.next.spool
