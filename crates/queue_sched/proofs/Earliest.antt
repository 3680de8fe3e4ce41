-- The order of deadlines: by the moment, then by the number.
use Rattle.std.proofs.Common.{◌≡◌, ℕ, ◌<◌, ◌≤◌, Bool, true, false, cond, ◌==◌, nat_lt, nat_le, List, length, get_or, sym, ap, subst, ◌∙◌, arith}
use Rattle.std.proofs.Math.Logic.{⊎_elim}
use Rattle.std.proofs.lemmas.Bool.{cases_order}
use Rattle.std.proofs.lemmas.Bool.Decides.{nat_tests}
use Rattle.std.proofs.lemmas.List.{get_or_default}
use Rattle.std.specs.List.{Contains}
use Rattle.std.specs.List.Sorted.{IsPartitionedBy}
use Rattle.queue_sched.specs.Deadlines.{InTurn, comes_before}
use Rattle.queue_sched.specs.declared.deadlines.Deadline.{Deadline}

abbrev comes : ℕ → ℕ → ℕ → ℕ → Bool
comes a i b j = cond (a == b) (nat_lt i j) (nat_lt a b)

comes_itself : (a i : ℕ) → comes a i a i ≡ false
comes_itself a i = grind (arith, nat_tests)

comes_on : (a i b j c k : ℕ) → comes a i b j ≡ true → comes b j c k ≡ true → comes a i c k ≡ true
comes_on a i b j c k h g = grind (arith, nat_tests)

comes_not_on : (a i b j c k : ℕ) → comes a i b j ≡ false → comes b j c k ≡ false → comes a i c k ≡ false
comes_not_on a i b j c k h g = grind (arith, nat_tests)

comes_other_way : (a i b j : ℕ) → ¬ (i ≡ j) → comes b j a i ≡ false → comes a i b j ≡ true
comes_other_way a i b j other not_so = grind (arith, nat_tests)

pub itself : (d : Deadline) → comes_before d d ≡ false
itself d = comes_itself d.by d.id

pub onward : (d e f : Deadline) → comes_before d e ≡ true → comes_before e f ≡ true → comes_before d f ≡ true
onward d e f = comes_on d.by d.id e.by e.id f.by f.id

pub not_onward : (d e f : Deadline) → comes_before d e ≡ false → comes_before e f ≡ false → comes_before d f ≡ false
not_onward d e f = comes_not_on d.by d.id e.by e.id f.by f.id

pub other_way : (d e : Deadline) → ¬ (d.id ≡ e.id) → comes_before e d ≡ false → comes_before d e ≡ true
other_way d e = comes_other_way d.by d.id e.by e.id

comes_no_later : (a i b j : ℕ) → comes a i b j ≡ true → a ≤ b
comes_no_later a i b j h = grind (arith, nat_tests)

-- No deadline is earlier than the first one.
pub first_is_least : (xs : List Deadline) (first : Deadline) → InTurn xs → get_or xs 0 first ≡ first → (d : Deadline) → Contains xs d → first.by ≤ d.by
first_is_least xs first order here d there =
    ⊎_elim
    (λ (same : 0 ≡ there.0).
    let is : first ≡ d = sym here ∙ get_or_default xs 0 first d (omega (arith, same, there.1)) ∙ ap (λ n. get_or xs n d) same ∙ there.2 in
    subst (λ (e : Deadline). first.by ≤ e.by) is (omega arith))
    (λ other. ⊎_elim
    (λ (lt : 0 < there.0).
    let before : comes_before first d ≡ true =
    subst (λ e. comes_before e d ≡ true) (sym (get_or_default xs 0 first d (omega (arith, lt, there.1))) ∙ here) (subst (λ e. comes_before (get_or xs 0 d) e ≡ true) there.2 (order 0 there.0 d lt there.1)) in
    comes_no_later first.by first.id d.by d.id before)
    (λ (gt : there.0 < 0). absurd (omega arith))
    other)
    (cases_order 0 there.0)

-- ## Deadlines before a moment

rising : (xs : List Deadline) → InTurn xs → (i j : ℕ) (d : Deadline) → i ≤ j → j < length xs → (get_or xs i d).by ≤ (get_or xs j d).by
rising xs order i j d le inside =
    ⊎_elim (λ (same : i ≡ j). subst (λ k. (get_or xs i d).by ≤ (get_or xs k d).by) same (omega arith))
    (λ other. ⊎_elim
    (λ (lt : i < j). comes_no_later (get_or xs i d).by (get_or xs i d).id (get_or xs j d).by (get_or xs j d).id (order i j d lt inside))
    (λ (gt : j < i). absurd (omega (arith, gt, le)))
    other)
    (cases_order i j)

-- If a moment passes, each earlier one passes: then the deadlines that pass are the first ones.
pub parted_by : (p : ℕ → Bool) → ((a b : ℕ) → a ≤ b → p b ≡ true → p a ≡ true) → (xs : List Deadline) → InTurn xs → IsPartitionedBy (λ (d : Deadline). p d.by) xs
parted_by p earlier xs order i j d le inside passes = earlier (get_or xs i d).by (get_or xs j d).by (rising xs order i j d le inside) passes

pub before_earlier : (m a b : ℕ) → a ≤ b → nat_lt b m ≡ true → nat_lt a m ≡ true
before_earlier m a b le passes = grind (arith, nat_tests)

pub until_earlier : (m a b : ℕ) → a ≤ b → nat_le b m ≡ true → nat_le a m ≡ true
until_earlier m a b le passes = grind (arith, nat_tests)
