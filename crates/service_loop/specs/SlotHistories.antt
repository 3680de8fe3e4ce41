-- The history of the loop: all that happens to its engine and to its clients' slots, in order. A text is sent to a client only in its own
-- turn or as a notice, and a client leaves its slot only in one of the ways below.
use Rattle.std.specs.Prelude.{◌≡◌, ◌⊎◌, ℕ, ◌<◌, ◌≤◌, Bool, true, List, [], ◌∷◌, ◌++◌, Option, None, Some, IfSome}
use Rattle.slab.specs.Slab.{Slab, SameValues, Updates, get}
use Rattle.spool_disk.specs.Disk.{DiskView}
use Rattle.spool_engine.specs.EngineRuns.{Engine}
use Rattle.service_rules.specs.Bounds.{most_clients}
use Rattle.service_rules.specs.ClientAdmission.{IsAdmission}
use Rattle.service_rules.specs.declared.slots.Admission.{Admission}
use Rattle.service_rules.specs.declared.slots.Admission.TheVariants.{InsteadOf}
use Rattle.service_texts.specs.Notices.{Noted}
use Rattle.client_reader.specs.Asks.{asks_of}
use Rattle.client_reader.specs.ReaderCalls.{AreFirstOf}
use Rattle.service_loop.specs.AdmissionViews.{heard_of, watches}
use Rattle.client_standing.specs.ClientStanding.{first_standing}
use Rattle.service_loop.specs.ClientActions.{Action, asks_in, texts_in, proofs_in, standing_after_all}
use Rattle.service_loop.specs.ClientSlots.{HasEntered, HasTurn, IsLetIn, IsSlotNotified, IsSlotSignaled, KeepsOthers}
use Rattle.service_loop.specs.ClientSteps.{AreClientSteps, ClientStep, HasAll, IsClientStep, IsEntry, actions_of}
use Rattle.service_loop.specs.ConnectionViews.{ConnectionView, IsUntouched, ProofStep}
use Rattle.service_loop.specs.Progress.{HasLeft, news_for}
use Rattle.service_loop.specs.ServiceCalls.{GoesByCalls}
use Rattle.service_loop.specs.declared.client.Client.{Client}
use Rattle.service_loop.specs.declared.client.Disconnect.{Disconnect}
use Rattle.service_loop.specs.declared.client.Disconnect.TheVariants.{Device, Memory}

-- ## Events of the loop

pub data LoopEvent (L : Type 0) : Type 0 where
  -- The engine made calls of the service itself, a tick or commands of maintenance, or nothing happened.
  works : LoopEvent L
  -- The connection of the client in this slot was ready: whether it may take more, and whether it has hung up.
  readies : ℕ → Bool → Bool → LoopEvent L
  -- The client in this slot had been idle for long enough, and gave its slot up at this moment. There is this number of places.
  gives_up : ℕ → ℕ → ℕ → LoopEvent L
  -- A new client with this connection got a free slot.
  enters : L → LoopEvent L
  -- The slot had a turn, for requests or for replies, with the cause for which its client was disconnected, if it was.
  takes_turn : ℕ → Option (Option Disconnect) → LoopEvent L
  -- The watching clients were sent these changes. The last one has this number.
  notifies : Noted → ℕ → LoopEvent L

-- No free place was left, and it was the idle client that was heard least recently.
pub record HasGivenUp {L : Type 0} (old : Slab (Client L)) (key now places : ℕ) (new : Slab (Client L)) : Type 0 where
  pub idle : IsAdmission places (heard_of old) now (InsteadOf key)
  pub gone : Updates old new key None

-- Each client was sent its part of a text, or it watches and was disconnected because memory ran out.
pub record AreNotified {L : Type 0} (news : Client L → List ℕ) (old new : Slab (Client L)) : Type 0 where
  pub each : (key : ℕ) → key < most_clients → IsSlotNotified news (get old key) (get new key)
  pub others : (key : ℕ) → most_clients ≤ key → get new key ≡ get old key

-- An event, from an engine and its slots to those that it leaves.
abbrev pub IsLoopEvent : {D L : Type 0} → DiskView D → ConnectionView L → Engine D → Slab (Client L) → LoopEvent L → Engine D → Slab (Client L) → Type 0
IsLoopEvent device view e slots works new left = GoesByCalls device e new × SameValues slots left
IsLoopEvent device view e slots (readies key writable gone) new left =
    (new ≡ e) × IsSlotSignaled view writable gone (get slots key) (get left key) × KeepsOthers key slots left
IsLoopEvent device view e slots (gives_up key now places) new left = (new ≡ e) × HasGivenUp slots key now places left
IsLoopEvent device view e slots (enters connection) new left = (new ≡ e) × HasEntered view connection slots left
IsLoopEvent device view e slots (takes_turn key turn) new left = HasTurn device view e slots key turn new left
IsLoopEvent device view e slots (notifies noted last) new left = (new ≡ e) × AreNotified (news_for e.run_state.spool.state noted last) slots left

-- These events happened in order, each on the engine and the slots that the previous one left.
abbrev pub AreLoopEvents : {D L : Type 0} → DiskView D → ConnectionView L → Engine D → Slab (Client L) → List (LoopEvent L) → Engine D → Slab (Client L) → Type 0
AreLoopEvents device view e slots [] new left = (new ≡ e) × (left ≡ slots)
AreLoopEvents {D} {L} device view e slots (x ∷ xs) new left =
    (mid : Engine D) × (between : Slab (Client L)) × IsLoopEvent device view e slots x mid between × AreLoopEvents device view mid between xs new left

-- The engine and the slots changed by such events alone.
pub record GoesByEvents {D L : Type 0} (device : DiskView D) (view : ConnectionView L) (e : Engine D) (slots : Slab (Client L)) (new : Engine D) (left : Slab (Client L)) : Type 0 where
  pub events : List (LoopEvent L)
  pub are : AreLoopEvents device view e slots events new left

-- ## Admission

-- Nothing changed, or a new client was admitted or rejected by the rules of admission.
abbrev pub HasAdmitted : {L : Type 0} → ConnectionView L → ℕ → L → ℕ → Slab (Client L) → Slab (Client L) → Type 0
HasAdmitted view places connection now old new =
    SameValues old new ⊎ ((admission : Admission) × IsAdmission places (heard_of old) now admission × IsLetIn view connection admission old new)

-- A client with this connection was admitted.
abbrev pub HasBrought : {L : Type 0} → List (LoopEvent L) → L → Type 0
HasBrought [] connection = ⊥
HasBrought (x ∷ xs) connection = (x ≡ enters connection) ⊎ HasBrought xs connection

-- ## Leaving

-- A client whose turn was a client step had then left: its connection was lost, it had hung up while it waited, or its text had ended and it
-- had all replies.
pub record HasParted {D L : Type 0} (device : DiskView D) (view : ConnectionView L) (e : Engine D) (c : Client L) (new : Engine D) : Type 0 where
  pub is : Client L
  pub actions : List (Action D)
  pub client_step : IsClientStep device view e c actions new is
  pub left : HasLeft view is

-- This event makes the client of this slot leave: in its own turn it had left, memory ran out for it, or the device failed; it was the
-- idle client that a new one replaced; or it watched, and memory ran out for a notice.
abbrev pub IsCause : {D L : Type 0} → DiskView D → ConnectionView L → Engine D → Slab (Client L) → LoopEvent L → Engine D → ℕ → Client L → Type 0
IsCause device view e slots works new key c = ⊥
IsCause device view e slots (readies other writable gone) new key c = ⊥
IsCause device view e slots (gives_up other now places) new key c = (other ≡ key) × IsAdmission places (heard_of slots) now (InsteadOf other)
IsCause device view e slots (enters connection) new key c = ⊥
IsCause device view e slots (takes_turn other None) new key c = ⊥
IsCause device view e slots (takes_turn other (Some disconnect)) new key c = (other ≡ key) × ((disconnect ≡ Some Memory) ⊎ ((disconnect ≡ Some Device) × (new.run_state.spool.dead ≡ true)) ⊎ HasParted device view e c new)
IsCause device view e slots (notifies noted last) new key c = watches c ≡ true

-- ## Each client

-- A client was admitted with a connection that `came` holds of. Nothing had been read from it or written to it, and since then the client
-- made client steps alone.
pub record IsServedApart {D L : Type 0} (device : DiskView D) (view : ConnectionView L) (came : L → Type 0) (c : Client L) : Type 0 where
  pub connection : L
  pub admitted : came connection
  pub own : L
  pub untouched : IsUntouched view connection own
  pub first : Client L
  pub entry : IsEntry view own first
  pub client_steps : List (ClientStep D L)
  pub are : AreClientSteps device view first client_steps c

abbrev pub AreServedApart : {D L : Type 0} → DiskView D → ConnectionView L → (L → Type 0) → Slab (Client L) → Type 0
AreServedApart device view came slots = (key : ℕ) → IfSome (get slots key) (IsServedApart device view came)

-- It was admitted in one of these events. If its connection reports the bytes that it brings, its actions answer the first of the requests
-- in them, whatever may follow. If it reports the bytes written to it, these and the replies not taken are the texts of its actions. Its
-- rights are those of the socket that it came by, changed by its actions alone. If its connection reports the steps of proofs, they are
-- those of its actions.
pub record IsServedRight {D L : Type 0} (device : DiskView D) (view : ConnectionView L) (events : List (LoopEvent L)) (c : Client L) : Type 0 where
  pub served : IsServedApart device view (HasBrought events) c
  pub asks : (text : List ℕ) → view.remaining served.connection ≡ Some text → (more : List ℕ) → AreFirstOf (asks_in (actions_of served.client_steps)) (asks_of (text ++ more))
  pub texts : (said : List ℕ) → view.contents served.connection ≡ Some said → HasAll view said (texts_in (actions_of served.client_steps)) c
  pub standing : c.standing ≡ standing_after_all (first_standing (view.rules served.connection) (view.is_operators served.connection)) (actions_of served.client_steps)
  pub proofs : (steps : List ProofStep) → view.proofs served.connection ≡ Some steps → view.proofs c.connection ≡ Some (steps ++ proofs_in (actions_of served.client_steps))

-- A service without clients went by these events.
pub record HasServed {D L : Type 0} (device : DiskView D) (view : ConnectionView L) (e : Engine D) (slots : Slab (Client L)) (events : List (LoopEvent L)) (new : Engine D) (left : Slab (Client L)) : Type 0 where
  pub empty : (key : ℕ) → get slots key ≡ None
  pub are : AreLoopEvents device view e slots events new left
