-- The end of a client's turn: its unchanged fields, and when it was heard, over two calls.
use Rattle.std.proofs.Common.{◌≡◌, ◌⊎◌, inl, inr, ℕ, ◌<◌, ◌≤◌, Bool, true, false, ◌&&◌, ◌||◌, cond, nat_le, nat_lt, is_some, ap, refl, ◌∙◌, arith}
use Rattle.std.proofs.lemmas.Bool.Decides.{nat_tests}
use Rattle.service_rules.specs.Bounds.{most_unread}
use Rattle.service_loop.specs.AdmissionViews.{unread}
use Rattle.service_loop.specs.ConnectionViews.{ConnectionView}
use Rattle.service_loop.specs.ClientSlots.{HasNoneNow}
use Rattle.service_loop.specs.Progress.{HasLeft, IsUnheard, as_given, heard_after}
use Rattle.service_loop.specs.declared.client.Client.{Client}

pub given_then : {L : Type 0} (a b c : Client L) → b ≡ as_given a b → c ≡ as_given b c → c ≡ as_given a c
given_then a b c one two = two ∙ ap (λ x. as_given x c) one

later_of : (now was mid new : ℕ) (first second both : Bool) → (first ≡ true → both ≡ true) → (second ≡ true → both ≡ true) → (first ≡ false → second ≡ false → both ≡ false) →
    mid ≡ cond first now was → new ≡ cond second now mid → new ≡ cond both now was
later_of now was mid new true true both f s n e h = rw (f refl) h
later_of now was mid new true false both f s n e h = rw (f refl) (h ∙ e)
later_of now was mid new false true both f s n e h = rw (s refl) h
later_of now was mid new false false both f s n e h = rw (n refl refl) (h ∙ e)

heard_of : (x y z now was mid new : ℕ) → y ≤ x → z ≤ y → mid ≡ cond (nat_lt y x) now was → new ≡ cond (nat_lt z y) now mid → new ≡ cond (nat_lt z x) now was
heard_of x y z now was mid new fewer less one two =
    later_of now was mid new (nat_lt y x) (nat_lt z y) (nat_lt z x) (λ e. grind (arith, nat_tests)) (λ e. grind (arith, nat_tests)) (λ e f. grind (arith, nat_tests)) one two

pub heard_then : {L : Type 0} (now : ℕ) (a b c : Client L) → unread b ≤ unread a → unread c ≤ unread b → b.last_active ≡ heard_after a now b → c.last_active ≡ heard_after b now c → c.last_active ≡ heard_after a now c
heard_then now a b c fewer less one two = heard_of (unread a) (unread b) (unread c) now a.last_active b.last_active c.last_active fewer less one two

not_later : (x now was : ℕ) (less : Bool) → less ≡ nat_lt x x → was ≡ cond less now was
not_later x now was false same = refl
not_later x now was true same = absurd (let lt : x < x = grind (arith, nat_tests, same) in omega (arith, lt))

-- It took nothing.
pub heard_none : {L : Type 0} (now : ℕ) (c : Client L) → c.last_active ≡ heard_after c now c
heard_none now c = not_later (unread c) now c.last_active (nat_lt (unread c) (unread c)) refl

pub fewer_by : (old new : ℕ) (P : Type 0) → (new < old) ⊎ (P × (new ≡ old)) → new ≤ old
fewer_by old new P (inl less) = omega arith
fewer_by old new P (inr same) = let e = same.1 in omega arith

-- ## The end of a turn

pub not_less : (n : ℕ) → nat_lt n most_unread ≡ false → most_unread ≤ n
not_less n none = grind (arith, nat_tests)

pub neither : (a b : Bool) → (a || b) ≡ false → (a ≡ false) × (b ≡ false)
neither false false none = (refl, refl)
neither false true none = cc
neither true b none = cc

still_full : (was : Bool) (n : ℕ) → was ≡ true → (was && nat_lt n most_unread) ≡ false → most_unread ≤ n
still_full true n full none = not_less n none
still_full false n full none = cc

at_least : (n : ℕ) → most_unread ≤ n → nat_le most_unread n ≡ true
at_least n le = grind (arith, nat_tests)

-- If nothing could be done for it before its replies were written, and it did not become able to do more, nothing can be done after.
pub has_none_still : {L : Type 0} (mid new : Client L) (other : Bool) → new ≡ as_given mid new → ((nat_le most_unread (unread mid) && nat_lt (unread new) most_unread) || other) ≡ false →
    HasNoneNow mid → HasNoneNow new
has_none_still mid new other kept none (inl waits) = inl (ap (λ x. is_some x.waits) kept ∙ waits)
has_none_still mid new other kept none (inr (inl read)) = inr (inl (ap (λ x. x.readable) kept ∙ read))
has_none_still mid new other kept none (inr (inr full)) =
    inr (inr (still_full (nat_le most_unread (unread mid)) (unread new) (at_least (unread mid) full) (neither (nat_le most_unread (unread mid) && nat_lt (unread new) most_unread) other none).0))

-- After its replies were written it leaves for the same reasons.
pub has_left : {L : Type 0} (view : ConnectionView L) (c : Client L) → IsUnheard view c ⊎ ((c.over ≡ true) × (unread c ≡ 0)) → HasLeft view c
has_left view c (inl unheard) = inl unheard
has_left view c (inr ended) = inr (inr (inr ended))
