-- A list of events, applied in order.
use Rattle.std.specs.Prelude.{◌≡◌, ◌<◌, ◌≤◌, ℕ, ◌+◌, ◌-◌, List, [], ◌∷◌, length, take, true, false, Option, Some, None, IsSome, IsTrue, Result, slice_get}
use Rattle.spool_types.specs.declared.event.Event.{Event}
use Rattle.spool_types.specs.declared.event.Reply.{Reply}
use Rattle.spool_types.specs.declared.refusal.Refusal.{Refusal}
use Rattle.spool_types.specs.State.{State}
use Rattle.job_table.specs.Step.{answer_to, refusal_of}
use Rattle.job_table.specs.EventFold.{after_one, after_all}
use Rattle.spool_disk.specs.Disk.{DiskView, Blames, LeavesOnly}
use Rattle.spool_core.specs.Image.{HasTable, HasDocuments, HasWhole, HasBeforeOrAfterEvent, HasWholeBeforeOrAfterEvent, documents_after_one}
use Rattle.gate_journal.specs.Appends.{kept_room}
use Rattle.spool_core.specs.OpenSpools.{OpenSpool, IsFull, record_len}
use Rattle.spool_core.specs.declared.driving.Ending.{Ending}
use Rattle.spool_core.specs.declared.driving.Ending.TheVariants.{End, Memory, Full, Disk, Dead}

-- The replies to the events, each for the table after the previous events.
abbrev pub replies_to : State → List Event → List (Result Reply Refusal)
replies_to s [] = []
replies_to s (e ∷ es) = answer_to s e ∷ replies_to (after_one s e) es

-- The room after an event: less its record, unless it is refused.
abbrev pub unless_refused_room : ℕ → Event → Option Refusal → ℕ
unless_refused_room room e None = room - record_len e
unless_refused_room room e (Some r) = room

abbrev pub room_after_one : State → ℕ → Event → ℕ
room_after_one s room e = unless_refused_room room e (refusal_of s e)

-- The room after the events, each applied to the table after the previous events.
abbrev pub room_after : State → ℕ → List Event → ℕ
room_after s room [] = room
room_after s room (e ∷ es) = room_after (after_one s e) (room_after_one s room e) es

-- The documents after the events, with the parts that the accepted ones send.
abbrev pub documents_after : State → (ℕ → List ℕ) → List Event → ℕ → List ℕ
documents_after s documents [] = documents
documents_after s documents (e ∷ es) = documents_after (after_one s e) (documents_after_one s documents e) es

-- The image has the table after k of the events, with k from `least` to `most`.
abbrev pub HasPrefixTable : State → List Event → ℕ → ℕ → List ℕ → Type 0
HasPrefixTable s events least most image = (k : ℕ) × (least ≤ k) × (k ≤ most) × HasTable (after_all s (take k events)) image

-- The same, with the documents after these events.
abbrev pub HasWholePrefix : State → (ℕ → List ℕ) → List Event → ℕ → ℕ → List ℕ → Type 0
HasWholePrefix s documents events least most image =
    (k : ℕ) × (least ≤ k) × (k ≤ most) × HasWhole (after_all s (take k events)) (documents_after s documents (take k events)) image

-- The greatest number of events that may be on the device after n replies: includes the current event if the device failed.
abbrev pub reach : Ending → ℕ → ℕ
reach End n = n
reach Memory n = n
reach Full n = n
reach Disk n = n + 1
reach Dead n = n

-- The event at n is the current one.
abbrev pub IsInHand : List Event → ℕ → Event → Type 0
IsInHand events n e = slice_get events n ≡ Some e

-- Why the run ended after n replies, and its effect.
abbrev pub IsEnding : {D : Type 0} → DiskView D → OpenSpool D → List Event → ℕ → Ending → OpenSpool D → Type 0
IsEnding v old events n End new = (n ≡ length events) × (new.dead ≡ old.dead)
IsEnding v old events n Memory new = (n < length events) × (old.dead ≡ false) × (new.dead ≡ false)
IsEnding v old events n Full new = (e : Event) × IsInHand events n e × IsFull new e × (old.dead ≡ false)
IsEnding v old events n Disk new =
    (e : Event) × IsInHand events n e × (refusal_of new.state e ≡ None) × (record_len e + kept_room ≤ new.room) × (old.dead ≡ false) × (new.dead ≡ true) × (v.failures old.disk < v.failures new.disk)
IsEnding v old events n Dead new = IsTrue old.dead × (n ≡ 0) × (0 < length events) × (new ≡ old)

-- A crash leaves only this table.
abbrev pub LeavesTable : {D : Type 0} → DiskView D → State → D → Type 0
LeavesTable v s d = (c : List ℕ) → v.image d c → HasTable s c

-- A crash leaves these documents of the table's jobs.
abbrev pub LeavesDocuments : {D : Type 0} → DiskView D → State → (ℕ → List ℕ) → D → Type 0
LeavesDocuments v s documents d = (c : List ℕ) → v.image d c → HasDocuments s documents c

-- A crash leaves this table with these documents.
abbrev pub LeavesWhole : {D : Type 0} → DiskView D → State → (ℕ → List ℕ) → D → Type 0
LeavesWhole v s documents d = (c : List ℕ) → v.image d c → HasWhole s documents c

-- A chain of disks, with one more disk for each event. Between two neighbours a crash leaves the table from before the event or
-- the one after it. From the later of the two on the event is not lost.
abbrev pub IsChain : {D : Type 0} → DiskView D → State → List Event → D → D → Type 0
IsChain v s [] d new = d ≡ new
IsChain {D} v s (e ∷ es) d new =
    (next : D) × LeavesOnly v d next (HasBeforeOrAfterEvent s e) × LeavesTable v (after_one s e) next × IsChain v (after_one s e) es next new

-- The answered events form a chain. After it a crash leaves the table after at least n and at most `most` events.
abbrev pub IsAcknowledged : {D : Type 0} → DiskView D → State → List Event → ℕ → ℕ → D → D → Type 0
IsAcknowledged {D} v s events n most old new =
    (last : D) × IsChain v s (take n events) old last × LeavesOnly v last new (HasPrefixTable s events n most)

-- Such a chain with the documents: from the later of two neighbours on the part that the event sent is not lost.
abbrev pub IsWholeChain : {D : Type 0} → DiskView D → State → (ℕ → List ℕ) → List Event → D → D → Type 0
IsWholeChain v s documents [] d new = d ≡ new
IsWholeChain {D} v s documents (e ∷ es) d new =
    (next : D) × LeavesOnly v d next (HasWholeBeforeOrAfterEvent s documents e) × LeavesWhole v (after_one s e) (documents_after_one s documents e) next
    × IsWholeChain v (after_one s e) (documents_after_one s documents e) es next new

abbrev pub IsAcknowledgedWhole : {D : Type 0} → DiskView D → State → (ℕ → List ℕ) → List Event → ℕ → ℕ → D → D → Type 0
IsAcknowledgedWhole {D} v s documents events n most old new =
    (last : D) × IsWholeChain v s documents (take n events) old last × LeavesOnly v last new (HasWholePrefix s documents events n most)

-- A crash leaves the spool's table. This holds as long as the device has not failed.
abbrev pub KeepsImages : {D : Type 0} → DiskView D → OpenSpool D → Type 0
KeepsImages v spool = LeavesTable v spool.state spool.disk

-- As many of the first events were answered as there are replies, and the device has not failed since.
pub record IsDriven {D : Type 0} (v : DiskView D) (old : OpenSpool D) (events : List Event) (replies : List (Result Reply Refusal)) (new : OpenSpool D) : Type 0 where
  pub fits : length replies ≤ length events
  pub replies_are : replies ≡ replies_to old.state (take (length replies) events)
  pub table : new.state ≡ after_all old.state (take (length replies) events)
  pub room : new.room ≡ room_after old.state old.room (take (length replies) events)
  pub alive : 0 < length replies → old.dead ≡ false
  pub dead : new.dead ≡ old.dead
  pub same : IsTrue old.dead → new ≡ old
  pub counted : v.failures new.disk ≡ v.failures old.disk
  pub fixed : v.size new.disk ≡ v.size old.disk
  pub told : IsSome (v.bytes new.disk) → IsSome (v.bytes old.disk)
  pub tells : IsSome (v.bytes old.disk) → IsSome (v.bytes new.disk)
  pub kept : old.dead ≡ false → IsSome (v.bytes old.disk) → KeepsImages v new
  pub any_moment : old.dead ≡ false → IsSome (v.bytes old.disk) → LeavesOnly v old.disk new.disk (HasPrefixTable old.state events 0 (length replies))
  pub chain : old.dead ≡ false → IsSome (v.bytes old.disk) → IsChain v old.state (take (length replies) events) old.disk new.disk
  pub documents : old.dead ≡ false → (r : List ℕ) (documents : ℕ → List ℕ) → v.bytes old.disk ≡ Some r → HasDocuments old.state documents r →
      LeavesOnly v old.disk new.disk (HasWholePrefix old.state documents events 0 (length replies))
  pub sent : old.dead ≡ false → (r : List ℕ) (documents : ℕ → List ℕ) → v.bytes old.disk ≡ Some r → HasDocuments old.state documents r →
      LeavesDocuments v new.state (documents_after old.state documents (take (length replies) events)) new.disk
  pub whole_chain : old.dead ≡ false → (r : List ℕ) (documents : ℕ → List ℕ) → v.bytes old.disk ≡ Some r → HasDocuments old.state documents r →
      IsWholeChain v old.state documents (take (length replies) events) old.disk new.disk

-- The run ended with this ending and these replies.
pub record IsOutcome {D : Type 0} (v : DiskView D) (old : OpenSpool D) (events : List Event) (replies : List (Result Reply Refusal)) (ending : Ending) (new : OpenSpool D) : Type 0 where
  pub replies_are : replies ≡ replies_to old.state (take (length replies) events)
  pub table : new.state ≡ after_all old.state (take (length replies) events)
  pub room : new.room ≡ room_after old.state old.room (take (length replies) events)
  pub ending_is : IsEnding v old events (length replies) ending new
  pub alive : 0 < length replies → old.dead ≡ false
  pub blames : Blames (v.failures old.disk) (v.failures new.disk) (ending ≡ Disk)
  pub fixed : v.size new.disk ≡ v.size old.disk
  pub told : IsSome (v.bytes new.disk) → IsSome (v.bytes old.disk)
  pub tells : IsSome (v.bytes old.disk) → IsSome (v.bytes new.disk)
  pub kept : new.dead ≡ false → IsSome (v.bytes old.disk) → KeepsImages v new
  pub any_moment : old.dead ≡ false → IsSome (v.bytes old.disk) →
      LeavesOnly v old.disk new.disk (HasPrefixTable old.state events 0 (reach ending (length replies)))
  pub acknowledged : old.dead ≡ false → IsSome (v.bytes old.disk) →
      IsAcknowledged v old.state events (length replies) (reach ending (length replies)) old.disk new.disk
  pub documents : old.dead ≡ false → (r : List ℕ) (documents : ℕ → List ℕ) → v.bytes old.disk ≡ Some r → HasDocuments old.state documents r →
      LeavesOnly v old.disk new.disk (HasWholePrefix old.state documents events 0 (reach ending (length replies)))
  pub sent : old.dead ≡ false → (r : List ℕ) (documents : ℕ → List ℕ) → v.bytes old.disk ≡ Some r → HasDocuments old.state documents r →
      (c : List ℕ) → v.image new.disk c → HasWholePrefix old.state documents events (length replies) (reach ending (length replies)) c
  pub whole : old.dead ≡ false → (r : List ℕ) (documents : ℕ → List ℕ) → v.bytes old.disk ≡ Some r → HasDocuments old.state documents r →
      IsAcknowledgedWhole v old.state documents events (length replies) (reach ending (length replies)) old.disk new.disk
