-- The reply about a queue, and the count of its held jobs.
use Rattle.std.proofs.Common.{◌≡◌, ℕ, zero, suc, ◌+◌, ◌-◌, ◌<◌, cond, List, [], ◌∷◌, Option, Some, take, refl, sym, ap, subst, arith}
use Rattle.std.proofs.lemmas.List.Sums.{sum_by-append}
use Rattle.client_standing.specs.ClientStanding.{ClientStanding}
use Rattle.job_table.specs.Attempts.{busy_of}
use Rattle.queue_sayings.specs.QueueSayings.{has_spoken, shown_row}
use Rattle.spool_types.specs.State.{State, job_at, queue_at}
use Rattle.spool_types.specs.declared.rows.QueueRow.{QueueRow}
use Rattle.service_texts.specs.QueueShown.{AreCounts, IsQueueShown, IsShownQueue, held_among, is_held, queue_fields}
use Rattle.service_texts.specs.declared.queue_texts.QueueCounts.{QueueCounts}

pub shown : (c : ClientStanding) (changed : Option ℕ) (s : State) (name : List ℕ) (q : QueueRow) (counts : QueueCounts) (text : List ℕ) →
    queue_at s name ≡ Some q → AreCounts s name counts → text ≡ queue_fields c counts (busy_of s name) changed (shown_row c (has_spoken s name) q) → IsShownQueue c changed s name text
shown c changed s name q counts text is are e = subst (λ (o : Option QueueRow). IsQueueShown c changed s name o text) (sym is) (counts, are, e)

-- ## Held jobs

abbrev pub held : State → ℕ → ℕ
held s job = cond (is_held s.moment (job_at s job)) 1 0

searched : (s : State) (job : ℕ) (after : List ℕ) (n k : ℕ) → n ≡ suc k → held_among s (take n (job ∷ after)) ≡ held s job + held_among s (take k after)
searched s job after n k is =
    let first = ap (λ m. held_among s (take m (job ∷ after))) is in
    let parts = sum_by-append (held s) (job ∷ []) (take k after) in
    omega (arith, first, parts)

pub next_held : (s : State) (job : ℕ) (before after : List ℕ) (i i' count count' whole : ℕ) → before ≡ job ∷ after → i < 1000 → i' ≡ i + 1 →
    count' ≡ count + held s job → count + held_among s (take (1000 - i) before) ≡ whole → count' + held_among s (take (1000 - i') after) ≡ whole
next_held s job before after i i' count count' whole is lt next more so_far =
    let here : count + held_among s (take (1000 - i) (job ∷ after)) ≡ whole = subst (λ (l : List ℕ). count + held_among s (take (1000 - i) l) ≡ whole) is so_far in
    let step = searched s job after (1000 - i) (1000 - i') (omega (arith, lt, next)) in
    omega (arith, here, step, more)

nothing_held : (s : State) (n : ℕ) → held_among s (take n []) ≡ 0
nothing_held s zero = refl
nothing_held s (suc n) = refl

-- No job is left.
pub none_left : (s : State) (left : List ℕ) (n count whole : ℕ) → left ≡ [] → count + held_among s (take n left) ≡ whole → count ≡ whole
none_left s left n count whole is so_far =
    let here : count + held_among s (take n []) ≡ whole = subst (λ (l : List ℕ). count + held_among s (take n l) ≡ whole) is so_far in
    let none = nothing_held s n in
    omega (arith, here, none)

-- Enough jobs were searched.
pub enough : (s : State) (left : List ℕ) (n count whole : ℕ) → n ≡ 0 → count + held_among s (take n left) ≡ whole → count ≡ whole
enough s left n count whole is so_far =
    let here : count + held_among s (take 0 left) ≡ whole = subst (λ m. count + held_among s (take m left) ≡ whole) is so_far in
    omega (arith, here)
