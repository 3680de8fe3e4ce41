-- Loops over slots: the entries of a slot and of those after it.
use Rattle.std.proofs.Common.{◌≡◌, ℕ, Bool, true, false, not, ◌&&◌, ◌==◌, eq-eqb, List, [], ◌∷◌, length, Option, refl, sym, ap, subst, ◌∙◌, arith}
use borrow.Author.Tests.{eqb-true}
use Rattle.std.proofs.Math.Logic.{⊎_elim}
use Rattle.std.proofs.lemmas.Bool.{both_ways}
use Rattle.std.proofs.lemmas.List.Elements.{Contains-append_left, Contains-append_right, Contains-append_cases, Contains-push}
use Rattle.std.specs.List.{Contains}
use Rattle.queue_sched.specs.WaitingIndex.{is_startable, LacksJob}
use Rattle.queue_sched.specs.Lists.{IsBefore}
use Rattle.queue_sched.specs.OrderSlots.{is_there, items_of}
use Rattle.queue_sched.specs.declared.entry.Entry.{Entry}
use Rattle.queue_sched.specs.declared.slots.Slot.{Slot}
use Rattle.queue_sched.proofs.Due.{IsSameSoFar, IsStart, one_ready, one_waiting}
use Rattle.queue_sched.proofs.Ordered.{single}
use Rattle.queue_sched.proofs.SlotLists.{IsSought, items_gone, items_there}

-- No slots have no entries.
pub no_items : (rest : List Slot) → length rest ≡ 0 → length (items_of rest) ≡ 0
no_items [] none = refl
no_items (s ∷ rest) none = absurd (omega (arith, none))

-- The moment until which the same entries may be started.
module _ (xs : List Entry) (left : List Slot) (s : Slot) (rest : List Slot) (now : ℕ) (due : Option ℕ) (is : left ≡ s ∷ rest) (before : IsSameSoFar xs (items_of left) now due) where
  so_far : IsSameSoFar xs (items_of (s ∷ rest)) now due
  so_far = subst (λ l. IsSameSoFar xs (items_of l) now due) is before

  pub due_passed : (is_there s && not (is_startable now s.entry)) ≡ false → IsSameSoFar xs (items_of rest) now due
  due_passed test = by s.gone (is_startable now s.entry) refl refl test
    where
      by : (b c : Bool) → s.gone ≡ b → is_startable now s.entry ≡ c → (not b && not c) ≡ false → IsSameSoFar xs (items_of rest) now due
      by true c g h t = subst (λ l. IsSameSoFar xs l now due) (items_gone s rest g) so_far
      by false true g h t = one_ready xs (items_of (s ∷ rest)) s.entry (items_of rest) now due so_far (items_there s rest g) h
      by false false g h t = absurd (both_ways true t refl)

  pub due_waiting : (is_there s && not (is_startable now s.entry)) ≡ true → (start due' : Option ℕ) → IsStart s.entry start → ((m : ℕ) → IsBefore m due' → IsBefore m due × IsBefore m start) → IsSameSoFar xs (items_of rest) now due'
  due_waiting test start due' starts sooner = by s.gone (is_startable now s.entry) refl refl test
    where
      by : (b c : Bool) → s.gone ≡ b → is_startable now s.entry ≡ c → (not b && not c) ≡ true → IsSameSoFar xs (items_of rest) now due'
      by true c g h t = absurd (both_ways false refl t)
      by false true g h t = absurd (both_ways false refl t)
      by false false g h t = one_waiting xs (items_of (s ∷ rest)) s.entry (items_of rest) now due so_far (items_there s rest g) start due' starts h sooner

-- The search for a job.
module _ (all : List Entry) (left : List Slot) (s : Slot) (rest : List Slot) (id : ℕ) (is : left ≡ s ∷ rest) (before : IsSought all (items_of left) id) where
  sought : IsSought all (items_of (s ∷ rest)) id
  sought = subst (λ l. IsSought all (items_of l) id) is before

  pub sought_on : (is_there s && (s.entry.id == id)) ≡ false → IsSought all (items_of rest) id
  sought_on test = by s.gone (s.entry.id == id) refl refl test
    where
      by : (b c : Bool) → s.gone ≡ b → (s.entry.id == id) ≡ c → (not b && c) ≡ false → IsSought all (items_of rest) id
      by true c g h t = subst (λ l. IsSought all l id) (items_gone s rest g) sought
      by false true g h t = absurd (both_ways true t refl)
      by false false g h t = record {
        only = λ e there. sought.only e (subst (λ l. Contains l e) (sym (items_there s rest g)) (Contains-append_right (s.entry ∷ []) (items_of rest) e there));
        each = λ e there own.
            ⊎_elim
            (λ (one : Contains (s.entry ∷ []) e).
            absurd (both_ways (s.entry.id == id) h (eq-eqb s.entry.id id (ap (λ (f : Entry). f.id) (sym (single s.entry e one)) ∙ own))))
            (λ (later : Contains (items_of rest) e). later)
            (Contains-append_cases (s.entry ∷ []) (items_of rest) e (subst (λ l. Contains l e) (items_there s rest g) (sought.each e there own)));
      }

  pub sought_here : (is_there s && (s.entry.id == id)) ≡ true → Contains all s.entry × (s.entry.id ≡ id)
  sought_here test = by s.gone (s.entry.id == id) refl refl test
    where
      by : (b c : Bool) → s.gone ≡ b → (s.entry.id == id) ≡ c → (not b && c) ≡ true → Contains all s.entry × (s.entry.id ≡ id)
      by true c g h t = absurd (both_ways false refl t)
      by false true g h t = (
        sought.only s.entry (subst (λ l. Contains l s.entry) (sym (items_there s rest g)) (Contains-append_left (s.entry ∷ []) (items_of rest) s.entry (Contains-push [] s.entry))),
        eqb-true s.entry.id id h,
      )
      by false false g h t = absurd (both_ways false refl t)

pub sought_none : (all : List Entry) (rest : List Slot) (id : ℕ) → IsSought all (items_of rest) id → length rest ≡ 0 → LacksJob all id
sought_none all [] id sought none = λ e there same. let left = sought.each e there same in absurd (omega (arith, left.1))
sought_none all (s ∷ rest) id sought none = absurd (omega (arith, none))
