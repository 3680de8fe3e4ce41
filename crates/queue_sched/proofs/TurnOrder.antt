-- Entries in order, with one more and with one less entry.
use Rattle.std.proofs.Common.{◌≡◌, ℕ, ◌<◌, ◌⊎◌, ◌↔◌, true, false, List, length, get_or}
use Rattle.std.specs.List.{Contains, insert, remove}
use Rattle.queue_sched.specs.WaitingIndex.{goes_before, InOrder}
use Rattle.queue_sched.specs.declared.entry.Entry.{Entry}
use Rattle.queue_sched.proofs.Order.{first_itself, first_on, first_not_on, first_other_way}
use Rattle.queue_sched.proofs.Ordered as ordered

pub itself : (e : Entry) → goes_before e e ≡ false
itself e = first_itself e.first e.priority e.id

pub onward : (e f g : Entry) → goes_before e f ≡ true → goes_before f g ≡ true → goes_before e g ≡ true
onward e f g = first_on e.first e.priority e.id f.first f.priority f.id g.first g.priority g.id

pub not_onward : (e f g : Entry) → goes_before e f ≡ false → goes_before f g ≡ false → goes_before e g ≡ false
not_onward e f g = first_not_on e.first e.priority e.id f.first f.priority f.id g.first g.priority g.id

pub other_way : (e f : Entry) → ¬ (e.id ≡ f.id) → goes_before f e ≡ false → goes_before e f ≡ true
other_way e f = first_other_way e.first e.priority e.id f.first f.priority f.id

module _ (xs : List Entry) (e : Entry) where
  -- The entries of the longer list.
  pub has_more : (at : ℕ) (f : Entry) → Contains (insert xs at e) f ↔ (Contains xs f ⊎ (f ≡ e))
  has_more = ordered.has_more goes_before itself onward xs e

  module _ (at : ℕ) (inside : at < length xs) (here : get_or xs at e ≡ e) where
    pub in_order_remove : InOrder xs → InOrder (remove xs at)
    in_order_remove = ordered.in_order_remove goes_before itself onward xs e at inside here

    -- The entries of the shorter list.
    pub has_less : InOrder xs → (f : Entry) → Contains (remove xs at) f ↔ (Contains xs f × ¬ (f ≡ e))
    has_less = ordered.has_less goes_before itself onward xs e at inside here
