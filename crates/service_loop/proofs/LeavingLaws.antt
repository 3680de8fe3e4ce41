-- A client leaves its slot for one of the listed causes alone.
use Rattle.std.proofs.Common.{◌≡◌, ◌⊎◌, inl, inr, ℕ, ◌<◌, ◌≤◌, Bool, true, List, Option, None, Some, ap, refl, sym, ◌∙◌, subst, arith}
use Rattle.std.proofs.lemmas.Bool.{cases_eq}
use Rattle.slab.specs.Slab.{Slab, get}
use Rattle.spool_disk.specs.Disk.{DiskView}
use Rattle.spool_engine.specs.EngineRuns.{Engine}
use Rattle.service_rules.specs.Bounds.{most_clients}
use Rattle.service_loop.specs.AdmissionViews.{watches}
use Rattle.service_loop.specs.ClientSlots.{HadTurn, IsSlotNotified, IsSlotSignaled, KeepsOthers, SlotHadTurn}
use Rattle.service_loop.specs.ConnectionViews.{ConnectionView}
use Rattle.service_loop.specs.Progress.{news_for}
use Rattle.service_loop.specs.SlotHistories.{HasParted, IsCause, IsLoopEvent, LoopEvent, enters, gives_up, notifies, readies, takes_turn, works}
use Rattle.service_loop.specs.declared.client.Client.{Client}
use Rattle.service_loop.specs.declared.client.Disconnect.{Disconnect}
use Rattle.service_loop.specs.declared.client.Disconnect.TheVariants.{Left, Memory, Device}

no_client : {L : Type 0} (P : Type 0) (c : Client L) (slot : Option (Client L)) → slot ≡ Some c → slot ≡ None → P
no_client P c slot some none = absurd (let k = sym some ∙ none in cc)

-- Only this slot changed.
own_slot : {L : Type 0} (P : Type 0) (changed key : ℕ) (s s1 : Slab (Client L)) (c : Client L) → KeepsOthers changed s s1 → get s key ≡ Some c → get s1 key ≡ None → (changed ≡ key → P) → P
own_slot P changed key s s1 c others was none own =
    elim (cases_eq key changed) [
      | inl same ↦ own (sym same)
      | inr differs ↦ no_client P c (get s1 key) (others key differs ∙ was) none
    ]

module _ {D L : Type 0} (device : DiskView D) (view : ConnectionView L) where
  -- Readiness and notices.
  signaled : (writable gone : Bool) (c : Client L) (was is : Option (Client L)) → IsSlotSignaled view writable gone was is → was ≡ Some c → is ≡ None → ⊥
  signaled writable gone c None is same there none = cc
  signaled writable gone c (Some d) None same there none = same
  signaled writable gone c (Some d) (Some d1) same there none = cc

  notified : (news : Client L → List ℕ) (c : Client L) (was is : Option (Client L)) → IsSlotNotified news was is → was ≡ Some c → is ≡ None → watches c ≡ true
  notified news c None is told there none = absurd (cc)
  notified news c (Some d) None told there none = subst (λ (x : Client L). watches x ≡ true) (let same : d ≡ c = cc in same) told
  notified news c (Some d) (Some d1) told there none = absurd (cc)

  -- Its own turn.
  parted : (e : Engine D) (c : Client L) (disconnect : Option Disconnect) (new : Engine D) (slot : Option (Client L)) → HadTurn device view e c disconnect new slot → slot ≡ None →
      (disconnect ≡ Some Memory) ⊎ ((disconnect ≡ Some Device) × (new.run_state.spool.dead ≡ true)) ⊎ HasParted device view e c new
  parted e c None new slot had none = no_client _ had.is slot had.stays none
  parted e c (Some Memory) new slot had none = inl refl
  parted e c (Some Device) new slot had none = inr (inl (refl, had.leaves.fails refl))
  parted e c (Some Left) new slot had none =
      let took = had.client_step refl in
      inr (inr (record { is = had.is; actions = took.0; client_step = took.1; left = had.leaves.left refl }))

  in_turn : (slots : Slab (Client L)) (e : Engine D) (changed key : ℕ) (was : Option (Client L)) (turn : Option (Option Disconnect)) (new : Engine D) (is : Option (Client L)) (c : Client L) →
      SlotHadTurn device view e was turn new is → was ≡ Some c → is ≡ None → changed ≡ key → IsCause device view e slots (takes_turn changed turn) new key c
  in_turn slots e changed key None turn new is c had there none same = absurd (cc)
  in_turn slots e changed key (Some d) None new is c had there none same = had
  in_turn slots e changed key (Some d) (Some disconnect) new is c had there none same =
      (same, subst (λ (x : Client L). (disconnect ≡ Some Memory) ⊎ ((disconnect ≡ Some Device) × (new.run_state.spool.dead ≡ true)) ⊎ HasParted device view e x new) (let e1 : d ≡ c = cc in e1) (parted e d disconnect new is had none))

  pub left_for : (e : Engine D) (s : Slab (Client L)) (x : LoopEvent L) (new : Engine D) (s1 : Slab (Client L)) → IsLoopEvent device view e s x new s1 → (key : ℕ) (c : Client L) → get s key ≡ Some c →
      get s1 key ≡ None → IsCause device view e s x new key c
  left_for e s works new s1 (calls, same) key c was none = no_client ⊥ c (get s1 key) (same key ∙ was) none
  left_for e s (readies changed writable gone) new s1 (same, own, others) key c was none =
      own_slot ⊥ changed key s s1 c others was none
      (λ e1. signaled writable gone c (get s changed) (get s1 changed) own (ap (λ (k : ℕ). get s k) e1 ∙ was) (ap (λ (k : ℕ). get s1 k) e1 ∙ none))
  left_for e s (gives_up changed now places) new s1 (same, left) key c was none = own_slot _ changed key s s1 c left.gone.others was none (λ e1. (e1, left.idle))
  left_for e s (enters connection) new s1 (same, has) key c was none =
      own_slot ⊥ has.key key s s1 c has.others was none (λ e1. no_client ⊥ c (get s has.key) (ap (λ (k : ℕ). get s k) e1 ∙ was) has.none)
  left_for e s (takes_turn changed turn) new s1 had key c was none =
      own_slot (IsCause device view e s (takes_turn changed turn) new key c) changed key s s1 c had.others was none
      (λ e1. in_turn s e changed key (get s changed) turn new (get s1 changed) c had.own (ap (λ (k : ℕ). get s k) e1 ∙ was) (ap (λ (k : ℕ). get s1 k) e1 ∙ none) e1)
  left_for e s (notifies noted last) new s1 (same, notes) key c was none = by_place (place key)
    where
      place : (k : ℕ) → (k < most_clients) ⊎ (most_clients ≤ k)
      place k = grind arith

      by_place : (key < most_clients) ⊎ (most_clients ≤ key) → watches c ≡ true
      by_place (inl lt) = notified (news_for e.run_state.spool.state noted last) c (get s key) (get s1 key) (notes.each key lt) was none
      by_place (inr le) = no_client (watches c ≡ true) c (get s1 key) (notes.others key le ∙ was) none
