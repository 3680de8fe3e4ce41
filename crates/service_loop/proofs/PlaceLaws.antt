-- The effect of all clients' turns on each client.
use Rattle.std.proofs.Common.{◌≡◌, ◌⊎◌, inl, inr, ℕ, zero, suc, ◌+◌, ◌<◌, ◌≤◌, List, Option, None, Some, IfSome, true, false, is_some, refl, ap, sym, ◌∙◌, subst, add-one, arith}
use Rattle.slab.specs.Slab.{Slab, Updates, get, with_value}
use Rattle.slab.proofs.SlabLemmas.{Updates-with_value}
use Rattle.spool_disk.specs.Disk.{DiskView}
use Rattle.spool_types.specs.State.{State}
use Rattle.spool_engine.specs.EngineRuns.{Engine}
use Rattle.service_loop.specs.ServiceCalls.{GoesByCalls}
use Rattle.service_loop.specs.ConnectionViews.{ConnectionView}
use Rattle.service_loop.specs.ClientActions.{Action}
use Rattle.service_loop.specs.ClientSlots.{HadOwnTurn, HasNoneNow, HasTurn, HaveTurns, KeepsOthers, SlotHadTurn, unless_parted}
use Rattle.service_loop.specs.Progress.{IsAtRest, IsBacklogged, Leaves}
use Rattle.service_loop.specs.ClientSteps.{IsClientStep, is_starved}
use Rattle.service_loop.specs.declared.client.Client.{Client}
use Rattle.service_loop.specs.declared.client.Disconnect.{Disconnect}

either : (a b : ℕ) → a < b + 1 → (a < b) ⊎ (a ≡ b)
either a b lt = grind arith

module _ {D L : Type 0} (device : DiskView D) (view : ConnectionView L) where
  pub none_yet : (e : Engine D) (slots : Slab (Client L)) → HaveTurns device view e slots 0 e slots
  unfolding HaveTurns
  none_yet e slots = (refl, refl)

  pub one_more : (e : Engine D) (slots : Slab (Client L)) (key : ℕ) (between : Engine D) (mid : Slab (Client L)) (turn : Option (Option Disconnect)) (new : Engine D) (left : Slab (Client L)) →
      HaveTurns device view e slots key between mid → HasTurn device view between mid key turn new left → HaveTurns device view e slots (key + 1) new left
  unfolding HaveTurns
  one_more e slots key between mid turn new left so_far next = rw add-one (between, mid, turn, so_far, next)

  pub untouched : (e : Engine D) (slots : Slab (Client L)) (n : ℕ) (new : Engine D) (left : Slab (Client L)) → HaveTurns device view e slots n new left →
      (key : ℕ) → n ≤ key → get left key ≡ get slots key
  unfolding HaveTurns
  untouched e slots zero new left (same, kept) key le = ap (λ (s : Slab (Client L)). get s key) kept
  untouched e slots (suc n) new left (between, mid, turn, so_far, next) key le =
      next.others key (omega arith) ∙ untouched e slots n between mid so_far key (omega arith)

  -- A slot below the last one had its turn before, and the last one just now.
  own_of : (slots mid left : Slab (Client L)) (n : ℕ) → KeepsOthers n mid left → get mid n ≡ get slots n → HadOwnTurn device view (get mid n) (get left n) →
      (key : ℕ) → (key < n → HadOwnTurn device view (get slots key) (get mid key)) → (key < n) ⊎ (key ≡ n) → HadOwnTurn device view (get slots key) (get left key)
  own_of slots mid left n others before own key earlier (inl below) =
      subst (λ (c : Option (Client L)). HadOwnTurn device view (get slots key) c) (sym (others key (omega arith))) (earlier below)
  own_of slots mid left n others before own key earlier (inr same) =
      subst (λ (k : ℕ). HadOwnTurn device view (get slots k) (get left k)) (sym same)
      (subst (λ (c : Option (Client L)). HadOwnTurn device view c (get left n)) before own)

  pub each_own : (e : Engine D) (slots : Slab (Client L)) (n : ℕ) (new : Engine D) (left : Slab (Client L)) → HaveTurns device view e slots n new left →
      (key : ℕ) → key < n → HadOwnTurn device view (get slots key) (get left key)
  unfolding HaveTurns
  each_own e slots zero new left so_far key lt = absurd (omega arith)
  each_own e slots (suc n) new left (between, mid, turn, so_far, next) key lt =
      own_of slots mid left n next.others (untouched e slots n between mid so_far n (omega arith)) (between, turn, new, next.own) key
      (each_own e slots n between mid so_far key) (either key n (omega arith))

-- ## One slot

pub updates_then : {T : Type 0} (a b c : Slab T) (key : ℕ) (one two : Option T) → Updates a b key one → Updates b c key two → Updates a c key two
updates_then a b c key one two first then = record { changed = then.changed; others = λ other ne. then.others other ne ∙ first.others other ne }

pub written : {T : Type 0} (slots : Slab T) (key : ℕ) (was value : T) → get slots key ≡ Some was → Updates slots (with_value slots key value) key (Some value)
written slots key was value there = Updates-with_value slots key value (rw there refl)

module _ {D L : Type 0} (device : DiskView D) (view : ConnectionView L) where
  pub had_none : (e : Engine D) (slots : Slab (Client L)) (key : ℕ) → get slots key ≡ None → HasTurn device view e slots key None e slots
  had_none e slots key none = record {
    own = subst (λ (c : Option (Client L)). SlotHadTurn device view e c None e c) (sym none) (refl, refl);
    others = λ other ne. refl;
  }

  pub had_turn : (e : Engine D) (slots : Slab (Client L)) (key : ℕ) (was is : Client L) (disconnect : Option Disconnect) (e' : Engine D) (left : Slab (Client L)) → get slots key ≡ Some was →
      GoesByCalls device e e' → (is_starved disconnect ≡ false → (actions : List (Action D)) × IsClientStep device view e was actions e' is) →
      Leaves view e'.run_state.spool was disconnect is →
      Updates slots left key (unless_parted disconnect is) → HasTurn device view e slots key (Some disconnect) e' left
  had_turn e slots key was is disconnect e' left there calls client_step leaves updates = record {
    own = subst (λ (c : Option (Client L)). SlotHadTurn device view e c (Some disconnect) e' (get left key)) (sym there)
        (record { calls = calls; is = is; client_step = client_step; leaves = leaves; stays = updates.changed });
    others = updates.others;
  }

gone : {L : Type 0} (disconnect : Option Disconnect) (c : Client L) → is_some disconnect ≡ true → None ≡ unless_parted disconnect c
gone None c parts = cc
gone (Some disconnect) c parts = refl

stayed : {L : Type 0} (disconnect : Option Disconnect) (c : Client L) → is_some disconnect ≡ false → Some c ≡ unless_parted disconnect c
stayed None c stays = refl
stayed (Some disconnect) c stays = cc

-- A client that had a turn is in its slot, or has left.
pub has_gone : {L : Type 0} (slots left : Slab (Client L)) (key : ℕ) (was is : Client L) (disconnect : Option Disconnect) → get slots key ≡ Some was → is_some disconnect ≡ true →
    Updates (with_value slots key is) left key None → Updates slots left key (unless_parted disconnect is)
has_gone {L} slots left key was is disconnect there parts removed =
    subst (λ (slot : Option (Client L)). Updates slots left key slot) (gone disconnect is parts)
    (updates_then slots (with_value slots key is) left key (Some is) None (written slots key was is there) removed)

pub has_stayed : {L : Type 0} (slots : Slab (Client L)) (key : ℕ) (was is : Client L) (disconnect : Option Disconnect) → get slots key ≡ Some was → is_some disconnect ≡ false →
    Updates slots (with_value slots key is) key (unless_parted disconnect is)
has_stayed {L} slots key was is disconnect there stays =
    subst (λ (slot : Option (Client L)). Updates slots (with_value slots key is) key slot) (stayed disconnect is stays) (written slots key was is there)

-- ## Clients that stay

who_stays : {L : Type 0} (P : Client L → Type 0) (disconnect : Option Disconnect) (c : Client L) → (disconnect ≡ None → P c) → IfSome (unless_parted disconnect c) P
who_stays P None c holds = holds refl
who_stays P (Some disconnect) c holds = tt

pub has_none_now : {L : Type 0} (s : State) (c : Client L) → IsAtRest s c ⊎ IsBacklogged c → HasNoneNow c
has_none_now s c (inl (inl waiting)) = inl (ap is_some waiting.1)
has_none_now s c (inl (inr none)) = inr (inl none)
has_none_now s c (inr full) = inr (inr full)

-- What holds of a client that stays holds of its slot.
pub holds_there : {L : Type 0} (P : Client L → Type 0) (left : Slab (Client L)) (slots : Slab (Client L)) (key : ℕ) (disconnect : Option Disconnect) (c : Client L) →
    Updates slots left key (unless_parted disconnect c) → (disconnect ≡ None → P c) → IfSome (get left key) P
holds_there {L} P left slots key disconnect c updates holds = subst (λ (slot : Option (Client L)). IfSome slot P) (sym updates.changed) (who_stays P disconnect c holds)

-- What holds of a client holds of its slot.
pub holds_here : {L : Type 0} (P : Client L → Type 0) (slots : Slab (Client L)) (key : ℕ) (c : Client L) → get slots key ≡ Some c → IfSome (get slots key) P → P c
holds_here {L} P slots key c there holds = subst (λ (slot : Option (Client L)). IfSome slot P) there holds

pub none_there : {L : Type 0} (P : Client L → Type 0) (slots : Slab (Client L)) (key : ℕ) → get slots key ≡ None → IfSome (get slots key) P
none_there {L} P slots key none = subst (λ (slot : Option (Client L)). IfSome slot P) (sym none) tt

each_of : {L : Type 0} (P : Client L → Type 0) (slots left : Slab (Client L)) (key : ℕ) → KeepsOthers key slots left →
    ((k : ℕ) → k < key → IfSome (get slots k) P) → IfSome (get left key) P → (k : ℕ) → (k < key) ⊎ (k ≡ key) → IfSome (get left k) P
each_of {L} P slots left key others below here k (inl lt) = subst (λ (c : Option (Client L)). IfSome c P) (sym (others k (omega arith))) (below k lt)
each_of {L} P slots left key others below here k (inr same) = subst (λ (j : ℕ). IfSome (get left j) P) (sym same) here

-- A property of each slot below a key, and of the slot that had its turn, holds of each slot below the next key.
pub each_more : {L : Type 0} (P : Client L → Type 0) (slots left : Slab (Client L)) (key : ℕ) → KeepsOthers key slots left →
    ((k : ℕ) → k < key → IfSome (get slots k) P) → IfSome (get left key) P → (k : ℕ) → k < key + 1 → IfSome (get left k) P
each_more {L} P slots left key others below here k lt = each_of P slots left key others below here k (either k key lt)

-- ## Empty slots

module _ {D L : Type 0} (device : DiskView D) (view : ConnectionView L) where
  -- They have turns in which nothing is done.
  pub rest_turns : (e : Engine D) (slots : Slab (Client L)) (end : ℕ) (new : Engine D) (left : Slab (Client L)) (n : ℕ) → end ≤ n → ((key : ℕ) → end ≤ key → key < n → get left key ≡ None) →
      HaveTurns device view e slots end new left → HaveTurns device view e slots n new left
  unfolding HaveTurns
  rest_turns e slots end new left zero le none so_far =
      subst (λ (k : ℕ). HaveTurns device view e slots k new left) (let same : end ≡ 0 = omega arith in same) so_far
  rest_turns e slots end new left (suc n) le none so_far =
      by_place (λ below. rest_turns e slots end new left n below (λ key from to. none key from (omega arith)) so_far) (place end n le)
    where
      place : (a b : ℕ) → a ≤ suc b → (a ≤ b) ⊎ (a ≡ suc b)
      place a b le = grind arith

      by_place : (end ≤ n → HaveTurns device view e slots n new left) → (end ≤ n) ⊎ (end ≡ suc n) → HaveTurns device view e slots (suc n) new left
      by_place earlier (inl below) = (new, left, None, earlier below, had_none device view new left n (none n below (omega arith)))
      by_place earlier (inr same) = subst (λ (k : ℕ). HaveTurns device view e slots k new left) same so_far

-- A property that each empty slot has, and each slot below the end.
pub each_of_all : {L : Type 0} (P : Client L → Type 0) (slots : Slab (Client L)) (end n : ℕ) → ((key : ℕ) → end ≤ key → key < n → get slots key ≡ None) →
    ((key : ℕ) → key < end → IfSome (get slots key) P) → (key : ℕ) → key < n → IfSome (get slots key) P
each_of_all {L} P slots end n none below key lt = by_place (place key end)
  where
    place : (a b : ℕ) → (a < b) ⊎ (b ≤ a)
    place a b = grind arith

    by_place : (key < end) ⊎ (end ≤ key) → IfSome (get slots key) P
    by_place (inl inside) = below key inside
    by_place (inr past) = subst (λ (c : Option (Client L)). IfSome c P) (sym (none key past lt)) tt
