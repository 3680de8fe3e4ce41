-- The count of the jobs before a job.
use Rattle.std.proofs.Common.{◌≡◌, ℕ, zero, suc, Bool, true, false, ◌==◌, ◌+◌, ◌-◌, ◌<◌, cond, List, [], ◌∷◌, length, take, Option, None, Some, refl, ap, subst, sym, ◌∙◌, arith}
use Rattle.std.proofs.lemmas.Bool.{false≢true}
use Rattle.spool_types.specs.State.{State, Job, job_at, queue_at}
use Rattle.spool_types.specs.declared.rows.QueueRow.{QueueRow}
use Rattle.wait_causes.specs.WaitCauses.{IsAhead, IsAheadBy, IsWhy, IsWhyOf, before, cause_of, why_line}
use Rattle.wait_causes.specs.declared.cause.ServiceFacts.{ServiceFacts}

-- The next job is another one.
one_more : (job other : ℕ) (after : List ℕ) (n k : ℕ) → n ≡ suc k → (other == job) ≡ false → length (before job (take n (other ∷ after))) ≡ suc (length (before job (take k after)))
one_more job other after n k is apart =
    ap (λ m. length (before job (take m (other ∷ after)))) is
    ∙ ap (λ (b : Bool). length (cond b [] (other ∷ before job (take k after)))) apart

-- The next job is the one itself.
no_more : (job other : ℕ) (after : List ℕ) (n k : ℕ) → n ≡ suc k → (other == job) ≡ true → length (before job (take n (other ∷ after))) ≡ 0
no_more job other after n k is same =
    ap (λ m. length (before job (take m (other ∷ after)))) is
    ∙ ap (λ (b : Bool). length (cond b [] (other ∷ before job (take k after)))) same

pub next_counted : (job other : ℕ) (left after : List ℕ) (i count whole : ℕ) → left ≡ other ∷ after → i < 1000 → (other == job) ≡ false →
    count + length (before job (take (1000 - i) left)) ≡ whole → count + 1 + length (before job (take (1000 - (i + 1)) after)) ≡ whole
next_counted job other left after i count whole is lt apart so_far =
    let here : count + length (before job (take (1000 - i) (other ∷ after))) ≡ whole = subst (λ (l : List ℕ). count + length (before job (take (1000 - i) l)) ≡ whole) is so_far in
    let step = one_more job other after (1000 - i) (1000 - (i + 1)) (omega (arith, lt)) apart in
    omega (arith, here, step)

pub found : (job other : ℕ) (left after : List ℕ) (i count whole : ℕ) → left ≡ other ∷ after → i < 1000 → (other == job) ≡ true →
    count + length (before job (take (1000 - i) left)) ≡ whole → count ≡ whole
found job other left after i count whole is lt same so_far =
    let here : count + length (before job (take (1000 - i) (other ∷ after))) ≡ whole = subst (λ (l : List ℕ). count + length (before job (take (1000 - i) l)) ≡ whole) is so_far in
    let step = no_more job other after (1000 - i) (1000 - (i + 1)) (omega (arith, lt)) same in
    omega (arith, here, step)

nothing_before : (job n : ℕ) → length (before job (take n [])) ≡ 0
nothing_before job zero = refl
nothing_before job (suc n) = refl

pub none_left : (job : ℕ) (left : List ℕ) (n count whole : ℕ) → left ≡ [] → count + length (before job (take n left)) ≡ whole → count ≡ whole
none_left job left n count whole is so_far =
    let here : count + length (before job (take n [])) ≡ whole = subst (λ (l : List ℕ). count + length (before job (take n l)) ≡ whole) is so_far in
    let none = nothing_before job n in
    omega (arith, here, none)

pub enough : (job : ℕ) (left : List ℕ) (n count whole : ℕ) → n ≡ 0 → count + length (before job (take n left)) ≡ whole → count ≡ whole
enough job left n count whole is so_far =
    let here : count + length (before job (take 0 left)) ≡ whole = subst (λ m. count + length (before job (take m left)) ≡ whole) is so_far in
    omega (arith, here)

-- The queue exists.
pub ahead_at : (s : State) (name : List ℕ) (job count : ℕ) (o : Option QueueRow) → (o ≡ None → true ≡ false) → IsAhead s name job count → IsAheadBy s name job o count
ahead_at s name job count None there is = absurd (false≢true (sym (there refl)))
ahead_at s name job count (Some q) there is = is

-- The reply about a job that exists.
pub told : (f : ServiceFacts) (s : State) (job : ℕ) (r : Job) (count : ℕ) (text : List ℕ) → job_at s job ≡ Some r → IsAheadBy s r.queue r.id (queue_at s r.queue) count → text ≡ why_line (cause_of f s r) count → IsWhy f s job text
told f s job r count text is ahead line = subst (λ (o : Option Job). IsWhyOf f s o text) (sym is) (count, ahead, line)
