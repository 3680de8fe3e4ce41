-- The effect of the loop on all clients, each in its own slot. A slot is named by its key.
use Rattle.std.specs.Prelude.{◌≡◌, ◌≢◌, ◌⊎◌, ℕ, zero, suc, Bool, true, false, List, [], Option, None, Some, is_some}
use Rattle.slab.specs.Slab.{Slab, SameValues, Updates, get}
use Rattle.spool_disk.specs.Disk.{DiskView}
use Rattle.spool_engine.specs.EngineRuns.{Engine}
use Rattle.service_rules.specs.Bounds.{most_clients}
use Rattle.service_rules.specs.declared.slots.Admission.{Admission}
use Rattle.service_rules.specs.declared.slots.Admission.TheVariants.{InsteadOf}
use Rattle.service_loop.specs.ServiceCalls.{GoesByCalls}
use Rattle.service_loop.specs.AdmissionViews.{watches}
use Rattle.service_loop.specs.ClientActions.{Action}
use Rattle.service_loop.specs.ConnectionViews.{ConnectionView, IsUntouched}
use Rattle.service_loop.specs.Progress.{IsBacklogged, Leaves, misses, signed, text_for}
use Rattle.service_loop.specs.ClientSteps.{Goes, IsAdded, IsEntry, IsNotified, IsClientStep, is_starved, status_of}
use Rattle.service_loop.specs.declared.client.Client.{Client}
use Rattle.service_loop.specs.declared.client.Disconnect.{Disconnect}
use Rattle.service_loop.specs.declared.client.Sending.{Sending}
use Rattle.service_loop.specs.declared.client.Turn.{Turn}

-- The client in a slot after a turn, or none if it was disconnected.
abbrev pub unless_parted : {L : Type 0} → Option Disconnect → Client L → Option (Client L)
unless_parted None c = Some c
unless_parted (Some disconnect) c = None

-- A client had a turn, and left its slot only if it was disconnected. Unless memory ran out for it, the turn was a client step. It left for
-- a cause.
pub record HadTurn {D L : Type 0} (device : DiskView D) (view : ConnectionView L) (old : Engine D) (was : Client L) (disconnect : Option Disconnect) (new : Engine D) (left : Option (Client L)) : Type 0 where
  pub calls : GoesByCalls device old new
  pub is : Client L
  pub client_step : is_starved disconnect ≡ false → (actions : List (Action D)) × IsClientStep device view old was actions new is
  pub leaves : Leaves view new.run_state.spool was disconnect is
  pub stays : left ≡ unless_parted disconnect is

-- A slot had a turn, with the cause for which its client was disconnected, if it was. If the slot was empty, nothing was done.
abbrev pub SlotHadTurn : {D L : Type 0} → DiskView D → ConnectionView L → Engine D → Option (Client L) → Option (Option Disconnect) → Engine D → Option (Client L) → Type 0
SlotHadTurn device view old None None new left = (new ≡ old) × (left ≡ None)
SlotHadTurn device view old None (Some disconnect) new left = ⊥
SlotHadTurn device view old (Some was) None new left = ⊥
SlotHadTurn device view old (Some was) (Some disconnect) new left = HadTurn device view old was disconnect new left

-- All other slots are unchanged.
abbrev pub KeepsOthers : {L : Type 0} → ℕ → Slab (Client L) → Slab (Client L) → Type 0
KeepsOthers key old new = (other : ℕ) → other ≢ key → get new other ≡ get old other

-- The slot had a turn, and no other slot changed.
pub record HasTurn {D L : Type 0} (device : DiskView D) (view : ConnectionView L) (old : Engine D) (slots : Slab (Client L)) (key : ℕ) (turn : Option (Option Disconnect)) (new : Engine D) (left : Slab (Client L)) : Type 0 where
  pub own : SlotHadTurn device view old (get slots key) turn new (get left key)
  pub others : KeepsOthers key slots left

-- Each slot below a key had a turn, in the order of the keys, each on the engine and the slots that the previous one left.
unfoldable pub HaveTurns : {D L : Type 0} → DiskView D → ConnectionView L → Engine D → Slab (Client L) → ℕ → Engine D → Slab (Client L) → Type 0
HaveTurns device view old slots zero new left = (new ≡ old) × (left ≡ slots)
HaveTurns {D} {L} device view old slots (suc key) new left =
    (between : Engine D) × (mid : Slab (Client L)) × (turn : Option (Option Disconnect)) × HaveTurns device view old slots key between mid × HasTurn device view between mid key turn new left

-- Each slot had two turns: first requests of all clients were served, and then their replies were written.
pub record HaveServed {D L : Type 0} (device : DiskView D) (view : ConnectionView L) (old : Engine D) (slots : Slab (Client L)) (new : Engine D) (left : Slab (Client L)) : Type 0 where
  pub between : Engine D
  pub mid : Slab (Client L)
  pub requests : HaveTurns device view old slots most_clients between mid
  pub replies : HaveTurns device view between mid most_clients new left

-- A slot had its own turn, between some engines.
abbrev pub HadOwnTurn : {D L : Type 0} → DiskView D → ConnectionView L → Option (Client L) → Option (Client L) → Type 0
HadOwnTurn {D} device view was left = (old : Engine D) × (turn : Option (Option Disconnect)) × (new : Engine D) × SlotHadTurn device view old was turn new left

-- A slot had its own two turns.
abbrev pub HadOwnTurns : {D L : Type 0} → DiskView D → ConnectionView L → Option (Client L) → Option (Client L) → Type 0
HadOwnTurns {D} {L} device view was left = (mid : Option (Client L)) × HadOwnTurn device view was mid × HadOwnTurn device view mid left

-- Nothing can be done for it now, judged by the client alone.
abbrev pub HasNoneNow : {L : Type 0} → Client L → Type 0
HasNoneNow c = (is_some c.waits ≡ true) ⊎ (c.readable ≡ false) ⊎ IsBacklogged c

-- Whether a turn left something to do at once.
abbrev pub leaves_more : Option Turn → Bool
leaves_more None = false
leaves_more (Some turn) = turn.more

-- Whether the replies that were written left something to do at once.
abbrev pub goes_on : Option Sending → Bool
goes_on None = false
goes_on (Some sending) = sending.more

-- The effect of a notice on a slot: its client was sent its part of it, or it watches and was disconnected because memory ran out.
abbrev pub IsSlotNotified : {L : Type 0} → (Client L → List ℕ) → Option (Client L) → Option (Client L) → Type 0
IsSlotNotified news None left = left ≡ None
IsSlotNotified news (Some c) None = watches c ≡ true
IsSlotNotified news (Some c) (Some left) = IsNotified (news c) (text_for c (news c)) × IsAdded c (text_for c (news c)) left × (left.missed ≡ misses c) × (status_of left ≡ status_of c)

-- The effect of readiness on a slot.
abbrev pub IsSlotSignaled : {L : Type 0} → ConnectionView L → Bool → Bool → Option (Client L) → Option (Client L) → Type 0
IsSlotSignaled view writable gone None left = left ≡ None
IsSlotSignaled view writable gone (Some c) None = ⊥
IsSlotSignaled view writable gone (Some c) (Some left) = Goes view c [] [] left × (left ≡ signed c writable gone)

-- A new client with this connection is in the slot, and nothing was read from its connection or written to it.
abbrev pub IsNewcomer : {L : Type 0} → ConnectionView L → L → Option (Client L) → Type 0
IsNewcomer view connection None = ⊥
IsNewcomer {L} view connection (Some c) = (own : L) × IsUntouched view connection own × IsEntry view own c

-- The client that is replaced has left, and no other.
abbrev pub HasGone : {L : Type 0} → Admission → Slab (Client L) → Slab (Client L) → Type 0
HasGone (InsteadOf key) old new = Updates old new key None
HasGone admission old new = SameValues old new

-- A new client is in a slot that was free, and no other client changed.
pub record HasEntered {L : Type 0} (view : ConnectionView L) (connection : L) (old new : Slab (Client L)) : Type 0 where
  pub key : ℕ
  pub none : get old key ≡ None
  pub own : IsNewcomer view connection (get new key)
  pub others : KeepsOthers key old new

-- It has a slot, or no client changed.
abbrev pub IsEntered : {L : Type 0} → ConnectionView L → L → Slab (Client L) → Slab (Client L) → Type 0
IsEntered view connection old new = SameValues old new ⊎ HasEntered view connection old new

-- The client that is replaced leaves, and then the new client has a slot, or none.
pub record IsLetIn {L : Type 0} (view : ConnectionView L) (connection : L) (admission : Admission) (old new : Slab (Client L)) : Type 0 where
  pub left : Slab (Client L)
  pub gone : HasGone admission old left
  pub entered : IsEntered view connection left new
