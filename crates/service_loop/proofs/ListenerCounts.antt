-- The number of clients that listen, when one slot changes.
use Rattle.std.proofs.Common.{◌≡◌, ◌⊎◌, inl, inr, ℕ, zero, suc, ◌+◌, ◌-◌, ◌<◌, ◌≤◌, Bool, true, false, ◌&&◌, ◌||◌, nat_lt, is_some, Option, None, Some, refl, ap, subst, add-one, arith}
use Rattle.slab.specs.Slab.{Slab, Updates, get}
use Rattle.std.proofs.lemmas.Bool.Decides.{nat_tests}
use Rattle.service_loop.specs.ClientListening.{BeginsAtMost, is_listened, is_listened_by, listeners_below, listeners_like, one_if}
use Rattle.client_standing.specs.ClientStanding.{ClientStanding}
use Rattle.service_rules.specs.Listeners.{has_share_left, may_listen, most_listeners}
use Rattle.service_rules.specs.declared.listening.Listening.{Listening}
use Rattle.service_loop.specs.ClientSlots.{KeepsOthers}
use Rattle.service_loop.specs.ClientSteps.{is_starved}
use Rattle.service_loop.specs.declared.client.Client.{Client}
use Rattle.service_loop.specs.declared.client.Disconnect.{Disconnect}

pub none_counted : {L : Type 0} (slots : Slab (Client L)) → listeners_below slots 0 ≡ 0
unfolding listeners_below
none_counted slots = refl

pub one_counted : {L : Type 0} (slots : Slab (Client L)) (key : ℕ) → listeners_below slots (key + 1) ≡ listeners_below slots key + one_if (is_listened (get slots key))
unfolding listeners_below
one_counted slots key = rw add-one refl

pub none_like : {L : Type 0} (c : ClientStanding) (slots : Slab (Client L)) → listeners_like c slots 0 ≡ 0
unfolding listeners_like
none_like c slots = refl

pub one_like : {L : Type 0} (c : ClientStanding) (slots : Slab (Client L)) (key : ℕ) → listeners_like c slots (key + 1) ≡ listeners_like c slots key + one_if (is_listened_by c (get slots key))
unfolding listeners_like
one_like c slots key = rw add-one refl

-- Empty slots count nothing.
pub rest_uncounted : {L : Type 0} (slots : Slab (Client L)) (end n : ℕ) → end ≤ n → ((key : ℕ) → end ≤ key → key < n → get slots key ≡ None) →
    listeners_below slots n ≡ listeners_below slots end
unfolding listeners_below
rest_uncounted slots end zero le none = ap (listeners_below slots) (let same : 0 ≡ end = omega arith in same)
rest_uncounted {L} slots end (suc n) le none = by_place (λ below. rest_uncounted slots end n below (λ key from to. none key from (omega arith))) (place end n le)
  where
    place : (a b : ℕ) → a ≤ suc b → (a ≤ b) ⊎ (suc b ≡ a)
    place a b le = grind arith

    by_place : (end ≤ n → listeners_below slots n ≡ listeners_below slots end) → (end ≤ n) ⊎ (suc n ≡ end) → listeners_below slots n + one_if (is_listened (get slots n)) ≡ listeners_below slots end
    by_place earlier (inl below) =
        let rest = earlier below in
        let here : one_if (is_listened (get slots n)) ≡ 0 = ap (λ (c : Option (Client L)). one_if (is_listened c)) (none n below (omega arith)) in
        omega arith
    by_place earlier (inr same) = ap (listeners_below slots) same

-- The slots below a changed one count the same.
same_below : {L : Type 0} (old new : Slab (Client L)) (key n : ℕ) → KeepsOthers key old new → n ≤ key → listeners_below new n ≡ listeners_below old n
unfolding listeners_below
same_below old new key zero others le = refl
same_below {L} old new key (suc n) others le =
    let below = same_below old new key n others (omega arith) in
    let here : one_if (is_listened (get new n)) ≡ one_if (is_listened (get old n)) = ap (λ (c : Option (Client L)). one_if (is_listened c)) (others n (omega arith)) in
    omega arith

-- One slot changed: the numbers differ by what it counts.
pub one_changed : {L : Type 0} (old new : Slab (Client L)) (key n : ℕ) → KeepsOthers key old new → key < n →
    listeners_below new n + one_if (is_listened (get old key)) ≡ listeners_below old n + one_if (is_listened (get new key))
unfolding listeners_below
one_changed old new key zero others lt = absurd (omega arith)
one_changed {L} old new key (suc n) others lt = by_place (λ below. one_changed old new key n others below) (place key n (omega arith))
  where
    place : (a b : ℕ) → a < suc b → (a < b) ⊎ (a ≡ b)
    place a b le = grind arith

    by_place : (key < n → listeners_below new n + one_if (is_listened (get old key)) ≡ listeners_below old n + one_if (is_listened (get new key))) → (key < n) ⊎ (key ≡ n) →
        listeners_below new n + one_if (is_listened (get new n)) + one_if (is_listened (get old key)) ≡ listeners_below old n + one_if (is_listened (get old n)) + one_if (is_listened (get new key))
    by_place earlier (inl below) =
        let rest = earlier below in
        let here : one_if (is_listened (get new n)) ≡ one_if (is_listened (get old n)) = ap (λ (c : Option (Client L)). one_if (is_listened c)) (others n (omega arith)) in
        omega arith
    by_place earlier (inr same) =
        let rest = same_below old new key n others (omega arith) in
        let was : one_if (is_listened (get old key)) ≡ one_if (is_listened (get old n)) = ap (λ (k : ℕ). one_if (is_listened (get old k))) same in
        let is : one_if (is_listened (get new key)) ≡ one_if (is_listened (get new n)) = ap (λ (k : ℕ). one_if (is_listened (get new k))) same in
        omega arith

-- A slot that listens is counted.
pub itself_counted : {L : Type 0} (slots : Slab (Client L)) (key n : ℕ) → key < n → one_if (is_listened (get slots key)) ≤ listeners_below slots n
unfolding listeners_below
itself_counted slots key zero lt = absurd (omega arith)
itself_counted {L} slots key (suc n) lt = by_place (λ below. itself_counted slots key n below) (place key n (omega arith))
  where
    place : (a b : ℕ) → a < suc b → (a < b) ⊎ (a ≡ b)
    place a b le = grind arith

    by_place : (key < n → one_if (is_listened (get slots key)) ≤ listeners_below slots n) → (key < n) ⊎ (key ≡ n) →
        one_if (is_listened (get slots key)) ≤ listeners_below slots n + one_if (is_listened (get slots n))
    by_place earlier (inl below) = let rest = earlier below in omega arith
    by_place earlier (inr same) =
        let is : one_if (is_listened (get slots key)) ≡ one_if (is_listened (get slots n)) = ap (λ (k : ℕ). one_if (is_listened (get slots k))) same in
        omega arith

-- ## Who begins to listen

pub may_not : (a b : Bool) → (a || b) ≡ false → b ≡ false
may_not false b none = none
may_not true b none = cc

pub begins_then : {L : Type 0} (may : Bool) (a b c : Client L) → BeginsAtMost may a b → BeginsAtMost may b c → BeginsAtMost may a c
begins_then may a b c one two = λ is. elim (two is) [ inl was ↦ one was | inr granted ↦ inr granted ]

-- One more step, after others that left the places of other clients as they were.
pub listens_then : {L : Type 0} (first now : Listening) (a b c : Client L) → now ≡ first → BeginsAtMost (may_listen first) a b → BeginsAtMost (may_listen now) b c →
    BeginsAtMost (may_listen first) a c
listens_then first now a b c same one two = begins_then (may_listen first) a b c one (subst (λ (l : Listening). BeginsAtMost (may_listen l) b c) same two)

-- ## A client's turn

-- The count is kept: it loses what the slot counted, and gains what the slot counts then.
pub counted_then : {L : Type 0} (slots left : Slab (Client L)) (key listeners mine after : ℕ) (is : Option (Client L)) → key < 1000 → listeners ≡ listeners_below slots 1000 →
    mine ≡ one_if (is_listened (get slots key)) → Updates slots left key is → one_if (is_listened is) ≡ after → listeners - mine + after ≡ listeners_below left 1000
counted_then {L} slots left key listeners mine after is lt counted own updates then =
    let changed = one_changed slots left key 1000 updates.others lt in
    let least = itself_counted slots key 1000 lt in
    let now : one_if (is_listened (get left key)) ≡ one_if (is_listened is) = ap (λ (c : Option (Client L)). one_if (is_listened c)) updates.changed in
    omega arith

below : (a b : ℕ) → nat_lt a b ≡ true → a < b
below a b holds = grind (arith, nat_tests)

first_of : (a b : Bool) → (a && b) ≡ true → a ≡ true
first_of true b holds = refl
first_of false b holds = cc

-- No more clients listen than may, after one listens that did before, or that one more was let.
pub few_then : (l : Listening) (places listeners mine : ℕ) (was : Bool) → l.places ≡ places → l.others ≡ listeners - mine → mine ≡ one_if was → mine ≤ listeners →
    (was ≡ true) ⊎ (may_listen l ≡ true) → listeners ≤ most_listeners places → listeners - mine + 1 ≤ most_listeners places
few_then l places listeners mine was same_places same_others own le (inl listened) few = let one = ap one_if listened in omega arith
few_then l places listeners mine was same_places same_others own le (inr may) few =
    let lt = below l.others (most_listeners l.places) (first_of (nat_lt l.others (most_listeners l.places)) (has_share_left l.places l.own) may) in
    omega arith

pub not_starved : (d : Option Disconnect) → is_some d ≡ false → is_starved d ≡ false
not_starved None stays = refl
not_starved (Some d) stays = cc
