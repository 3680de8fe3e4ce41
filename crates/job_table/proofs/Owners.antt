-- A job belongs to the queue that its creation named, for as long as the job exists. So a queue's own events are the
-- events that name it or a number assigned to a job of it.
use Rattle.std.proofs.Common.{◌≡◌, inl, inr, ℕ, ◌<◌, ◌≤◌, ◌==◌, Bool, true, false, cond, max, ◌&&◌, ◌||◌, ◌⊎◌, List, [], ◌∷◌, ◌++◌, Some, None, Option, refl, sym, ap, subst, ◌∙◌, arith, append_assoc, append-nil}
use Rattle.std.specs.Prelude.{nat_eq, filter}
use Rattle.std.specs.Option.{option_map}
use Rattle.std.specs.Ordering.{nat_cmp, eq_by_cmp}
use Rattle.std.specs.Cmp.{nat_cmp_total}
use Rattle.std.specs.Cmp.Lexicographic.{pointwise}
use Rattle.std.specs.FinMap as finite
use Rattle.std.proofs.lemmas.Bool.{and_parts, or_cases, false_from_ne_true}
use Rattle.std.proofs.lemmas.Bool.Decides.{nat_tests}
use Rattle.std.proofs.lemmas.List.Folds.{list_any-append}
use Rattle.backend_codes.specs.declared.verdicts.Verdict.{Verdict}
use Rattle.row_effects.specs.EffectFold.{queue_after}
use Rattle.spool_types.specs.declared.effect.Effect.{Effect}
use Rattle.spool_types.specs.declared.event.Event.{Event}
use Rattle.spool_types.specs.declared.refusal.Refusal.{Refusal}
use Rattle.spool_types.specs.declared.rows.QueueRow.{QueueRow}
use Rattle.spool_types.specs.declared.version.Version.{Version}
use Rattle.spool_types.specs.Busy.{is_of}
use Rattle.spool_types.specs.State.{State, Job, nothing_in, queue_at, job_at}
use Rattle.job_table.specs.Apart.{whole_table, is_own_event, names_it, job_made, with_number, numbers_of, is_in, is_about, events_of, is_own, is_own_job, own_events, if_own}
use Rattle.job_table.specs.Attempts.{ruled, rule_by, rule_found, lost_by, reopened, with_pages, with_effects}
use Rattle.job_table.specs.EventChanges.{at_moment, at_clock, change_found, change_found_queue, change_job}
use Rattle.job_table.specs.EventFold.{after_one, after_all, accepted, if_accepted, unless_refused}
use Rattle.job_table.specs.Legal.{IsLegal}
use Rattle.job_table.specs.Shapes.{Change, NewQueueRow, OfQueue, NewJobRow, OfJob, OfBoth, WithoutJob, OfClock, OfAll, causes_of, made}
use Rattle.job_table.specs.Step.{row, change_by, refusal_of, after, first_cause}
use Rattle.job_table.proofs.Accepted.{accepted_new, gone_found, job_found}
use Rattle.job_table.proofs.Changes.{some_same, at_most_highest, change_queue_other, change_own_other, same_number, same_itself}
use Rattle.job_table.proofs.Clocked.{at_queue, clock_job}
use Rattle.job_table.proofs.Legal.{KeepsOrder, KeepsBy, Keeps, keeps_each, IsSound, sound, legal_nothing, legal_after_one, legal_effects}
use Rattle.job_table.proofs.Reopened.{reopened_onward, reopened_counts}
use Rattle.job_table.proofs.Rules.{ruled_queue}
use Rattle.job_table.proofs.Stages.{queue_counts, own_counts}

-- The queue of a job, if the job exists.
abbrev owner : State → ℕ → Option (List ℕ)
owner s j = option_map (λ (r : Job). r.queue) (job_at s j)

abbrev owner_by : Option Job → ℕ → Option (List ℕ) → Option (List ℕ)
owner_by None j o = o
owner_by (Some r) j o = cond (eq_by_cmp nat_cmp j r.id) (Some r.queue) o

-- ## One event

put_owner : (s : State) (k : ℕ) (x y : Job) → job_at s k ≡ Some x → y.queue ≡ x.queue → (j : ℕ) → option_map (λ (r : Job). r.queue) (finite.get (finite.insert s.jobs k y) j) ≡ owner s j
put_owner s k x y at same j = ap (option_map (λ (r : Job). r.queue)) (finite.get-insert nat_cmp_total s.jobs k y j) ∙ either (eq_by_cmp nat_cmp j k) refl
  where
    either : (b : Bool) → eq_by_cmp nat_cmp j k ≡ b → option_map (λ (r : Job). r.queue) (cond b (Some y) (job_at s j)) ≡ owner s j
    either true is = ap Some same ∙ sym (ap (option_map (λ (r : Job). r.queue)) (ap (job_at s) (same_number k j is) ∙ at))
    either false is = refl

change_owner : (s : State) (k : ℕ) (f : Job → Job) → ((r : Job) → (f r).queue ≡ r.queue) → (j : ℕ) → owner (change_job s k f) j ≡ owner s j
change_owner s k f keeps j = by_job (job_at s k) refl
  where
    by_job : (o : Option Job) → job_at s k ≡ o → owner (change_found s k f o) j ≡ owner s j
    by_job None at = refl
    by_job (Some x) at = put_owner s k x (f x) at (keeps x) j

rule_owner : (s : State) → IsLegal s → (k : ℕ) (verdict : Job → QueueRow → Verdict) (j : ℕ) → owner (rule_found s verdict (job_at s k)) j ≡ owner s j
rule_owner s legal k verdict j = by_job (job_at s k) refl
  where
    by_queue : (x : Job) → job_at s k ≡ Some x → (o : Option QueueRow) → owner (rule_by s (verdict x) x o) j ≡ owner s j
    by_queue x at None = refl
    by_queue x at (Some q) =
        put_owner s x.id x (ruled s.moment q.interval (verdict x q) x) (ap (job_at s) ((legal.jobs k x at).id) ∙ at) (ruled_queue s.moment q.interval (verdict x q) x) j

    by_job : (o : Option Job) → job_at s k ≡ o → owner (rule_found s verdict o) j ≡ owner s j
    by_job None at = refl
    by_job (Some x) at = by_queue x at (queue_at s x.queue)

effects_owner : (s : State) (k : ℕ) (effects : List Effect) (j : ℕ) → owner (with_effects s k effects) j ≡ owner s j
effects_owner s k effects j =
    ap (option_map (λ (r : Job). r.queue)) (change_own_other (change_job s k (with_pages effects)) (queue_after effects) j (job_at (change_job s k (with_pages effects)) k))
    ∙ change_owner s k (with_pages effects) (λ r. refl) j

reopened_owner : (s : State) → IsLegal s → (j : ℕ) → owner (reopened s) j ≡ owner s j
reopened_owner s legal j = by_job (job_at s j) refl
  where
    by_job : (o : Option Job) → job_at s j ≡ o → owner (reopened s) j ≡ owner s j
    by_job None at = ap (option_map (λ (r : Job). r.queue)) ((reopened_onward s legal).absent j at ∙ sym at)
    by_job (Some r) at = elim ((reopened_onward s legal).jobs j r at) [
      | inl same ↦ ap (option_map (λ (r : Job). r.queue)) (same ∙ sym at)
      | inr lost ↦
          ap (option_map (λ (r : Job). r.queue)) lost.2.job
          ∙ ap Some (ruled_queue s.moment (lost.0).interval (lost_by r lost.0) r)
          ∙ sym (ap (option_map (λ (r : Job). r.queue)) at)
    ]

clock_owner : (s : State) (now j : ℕ) → owner (at_clock now s) j ≡ owner s j
clock_owner s now j = ap (option_map (λ (r : Job). r.queue)) (clock_job s now j _ refl) ∙ by_job (job_at s j)
  where
    by_job : (o : Option Job) → option_map (λ (r : Job). r.queue) (option_map (at_moment now) o) ≡ option_map (λ (r : Job). r.queue) o
    by_job None = refl
    by_job (Some r) = ap Some (at_queue now r)

queue_owner : (s : State) (name : List ℕ) (f : QueueRow → QueueRow) (j : ℕ) → owner (change_found_queue s name f (queue_at s name)) j ≡ owner s j
queue_owner s name f j = ap (option_map (λ (r : Job). r.queue)) (change_queue_other s name f j (queue_at s name))

-- An accepted event leaves each remaining job in its queue, and adds at most one job.
owner_made : (s : State) → IsLegal s → (change : Change) → KeepsBy change → IsSound s change → (j : ℕ) (q : List ℕ) → owner (made s change) j ≡ Some q → owner_by (job_made change) j (owner s j) ≡ Some q
owner_made s legal (NewQueueRow x) keeps fine j q at = at
owner_made s legal (OfQueue name f) keeps fine j q at = sym (queue_owner s name f j) ∙ at
owner_made s legal (NewJobRow r) keeps fine j q at =
    sym (ap (option_map (λ (x : Job). x.queue)) (finite.get-insert nat_cmp_total s.jobs r.id r j) ∙ either (eq_by_cmp nat_cmp j r.id)) ∙ at
  where
    either : (b : Bool) → option_map (λ (x : Job). x.queue) (cond b (Some r) (job_at s j)) ≡ cond b (Some r.queue) (owner s j)
    either true = refl
    either false = refl
owner_made s legal (OfJob k f) keeps fine j q at = sym (change_owner s k f (λ x. (fine.same x).queue) j) ∙ at
owner_made s legal (OfBoth k None verdict) keeps fine j q at = sym (rule_owner s legal k verdict j) ∙ at
owner_made s legal (OfBoth k (Some effects) verdict) keeps fine j q at =
    sym (rule_owner (with_effects s k effects) (legal_effects s k effects keeps legal) k verdict j ∙ effects_owner s k effects j) ∙ at
owner_made s legal (WithoutJob k) keeps fine j q at =
    either (eq_by_cmp nat_cmp j k) (sym (ap (option_map (λ (x : Job). x.queue)) (finite.get-remove nat_cmp_total s.jobs k j)) ∙ at)
  where
    either : (b : Bool) → option_map (λ (x : Job). x.queue) (cond b None (job_at s j)) ≡ Some q → owner s j ≡ Some q
    either true gone = absurd (cc)
    either false there = there
owner_made s legal (OfClock m) keeps fine j q at = sym (clock_owner s (max s.moment m) j) ∙ at
owner_made s legal OfAll keeps fine j q at = sym (reopened_owner s legal j) ∙ at

owner_after : (s : State) → IsLegal s → (e : Event) → Keeps e → refusal_of s e ≡ None → (j : ℕ) (q : List ℕ) → owner (after s e) j ≡ Some q → owner_by (job_made (change_by e)) j (owner s j) ≡ Some q
owner_after s legal e keeps taken j q at = owner_made s legal (change_by e) keeps (sound s e taken) j q at

-- The highest number does not decrease.
same_most : (m n : ℕ) → m ≡ n → m ≤ n
same_most m n is = omega (arith, is)

change_most : (s : State) (k : ℕ) (f : Job → Job) (o : Option Job) → s.highest ≡ (change_found s k f o).highest
change_most s k f None = refl
change_most s k f (Some x) = refl

rule_most : (s : State) (verdict : Job → QueueRow → Verdict) (o : Option Job) → s.highest ≡ (rule_found s verdict o).highest
rule_most s verdict None = refl
rule_most s verdict (Some x) = by_queue (queue_at s x.queue)
  where
    by_queue : (o : Option QueueRow) → s.highest ≡ (rule_by s (verdict x) x o).highest
    by_queue None = refl
    by_queue (Some q) = refl

grows_by : (s : State) (change : Change) (own : List (Bool × Refusal)) → first_cause (causes_of s change own) ≡ None → s.highest ≤ (made s change).highest
grows_by s (NewQueueRow q) own taken = omega arith
grows_by s (OfQueue name f) own taken = same_most _ _ (queue_counts s name f _)
grows_by s (NewJobRow r) own taken = let above = accepted_new s r own taken in omega (arith, above)
grows_by s (OfJob k f) own taken = same_most _ _ (change_most s k f _)
grows_by s (OfBoth k None verdict) own taken = same_most _ _ (rule_most s verdict _)
grows_by s (OfBoth k (Some effects) verdict) own taken =
    let s1 = change_job s k (with_pages effects) in
    same_most _ _ (change_most s k (with_pages effects) (job_at s k) ∙ own_counts s1 (queue_after effects) (job_at s1 k) ∙ rule_most (with_effects s k effects) verdict _)
grows_by s (WithoutJob j) own taken = omega arith
grows_by s (OfClock m) own taken = omega arith
grows_by s OfAll own taken = same_most _ _ (sym (reopened_counts s).0)

grows : (s : State) (e : Event) → refusal_of s e ≡ None → s.highest ≤ (after s e).highest
grows s e taken = grows_by s (change_by e) ((row e).own s) taken

-- An assigned number is a new one.
new_number : (s : State) (e : Event) → refusal_of s e ≡ None → (r : Job) → job_made (change_by e) ≡ Some r → (s.highest < r.id) × (r.id ≤ (after s e).highest)
new_number s e taken r is = by_change (change_by e) ((row e).own s) taken is
  where
    some_number : (x : Job) → Some x ≡ Some r → x.id ≡ r.id
    some_number x e = ap (λ (y : Job). y.id) (some_same x r e)

    by_change : (change : Change) (own : List (Bool × Refusal)) → first_cause (causes_of s change own) ≡ None → job_made change ≡ Some r → (s.highest < r.id) × (r.id ≤ (made s change).highest)
    by_change (NewJobRow x) own taken is =
        let above = accepted_new s x own taken in
        let same = some_number x is in
        (omega (arith, above, same), omega (arith, same))
    by_change change own taken is = absurd (cc)

-- ## Lists of events

not_equal : (h j n : ℕ) → j ≤ h → h < n → (n == j) ≡ false
not_equal h j n low high = grind (arith, nat_tests)

is_equal : (j n : ℕ) → eq_by_cmp nat_cmp j n ≡ (n == j)
is_equal j n = by_test (n == j) refl
  where
    same : (n == j) ≡ true → n ≡ j
    same e = grind (arith, nat_tests)

    differ : (n == j) ≡ false → j ≡ n → ⊥
    differ e is = grind (arith, nat_tests)

    by_cmp : (n == j) ≡ false → (c : Bool) → eq_by_cmp nat_cmp j n ≡ c → c ≡ false
    by_cmp e true is = absurd (differ e (same_number n j is))
    by_cmp e false is = refl

    by_test : (b : Bool) → (n == j) ≡ b → eq_by_cmp nat_cmp j n ≡ b
    by_test true e = ap (λ k. eq_by_cmp nat_cmp j k) (same e) ∙ same_itself j
    by_test false e = by_cmp e (eq_by_cmp nat_cmp j n) refl

or_false : (b : Bool) → (b || false) ≡ b
or_false true = refl
or_false false = refl

and_true : (b : Bool) → (b && true) ≡ b
and_true true = refl
and_true false = refl

and_false : (b : Bool) → (b && false) ≡ false
and_false true = refl
and_false false = refl

some_name : (k q : List ℕ) → Some k ≡ Some q → k ≡ q
some_name k q e = cc

same_equal : (n j : ℕ) → (n == j) ≡ true → n ≡ j
same_equal n j e = grind (arith, nat_tests)

module _ (law : (effects : List Effect) → KeepsOrder effects) (name : List ℕ) where
  -- Later events assign no number again.
  abbrev GivesNew : List Event → Type 0
  GivesNew es = (s : State) (j : ℕ) → j ≤ s.highest → is_in j (numbers_of name (accepted s es)) ≡ false

  new_in : (o : Option Job) (s : State) (j : ℕ) (js : List ℕ) → j ≤ s.highest → ((r : Job) → o ≡ Some r → s.highest < r.id) → is_in j js ≡ false → is_in j (with_number name o js) ≡ false
  new_in None s j js low above none = none
  new_in (Some r) s j js low above none = either (is_of name r)
    where
      either : (b : Bool) → is_in j (cond b (r.id ∷ js) js) ≡ false
      either true = ap (λ b. b || is_in j js) (not_equal s.highest j r.id low (above r refl)) ∙ none
      either false = none

  gives_next : (e : Event) (es : List Event) → GivesNew es → GivesNew (e ∷ es)
  gives_next e es rest s j low = by_refusal (refusal_of s e) refl
    where
      by_refusal : (o : Option Refusal) → refusal_of s e ≡ o → is_in j (numbers_of name (if_accepted e (accepted (after_one s e) es) o)) ≡ false
      by_refusal None taken =
          let same : after_one s e ≡ after s e = ap (unless_refused s e) taken in
          let up = grows s e taken in
          new_in (job_made (change_by e)) s j (numbers_of name (accepted (after_one s e) es)) low (λ n is. (new_number s e taken n is).0)
          (rest (after_one s e) j (subst (λ (u : State). j ≤ u.highest) (sym same) (omega (arith, low, up))))
      by_refusal (Some x) refused =
          rest (after_one s e) j (subst (λ (u : State). j ≤ u.highest) (sym (ap (unless_refused s e) refused)) low)

  gives_new : (es : List Event) → GivesNew es
  gives_new [] = λ s j low. refl
  gives_new (e ∷ es) = gives_next e es (gives_new es)

  -- The numbers that were assigned to the queue's jobs.
  record IsGiven (old : List ℕ) (s : State) : Type 0 where
    owners : (j : ℕ) (q : List ℕ) → owner s j ≡ Some q → is_in j old ≡ pointwise nat_eq q name
    up : (j : ℕ) → is_in j old ≡ true → j ≤ s.highest

  -- An accepted event about a job is the queue's own if the number was assigned to a job of it.
  module _ (s : State) (legal : IsLegal s) (old new : List ℕ) (given : IsGiven old s) (fresh : (j : ℕ) → j ≤ s.highest → is_in j new ≡ false) where
    job_own : (j : ℕ) (r : Job) → job_at s j ≡ Some r → is_own_job name (job_at s j) ≡ is_in j (old ++ new)
    job_own j r there =
        ap (is_own_job name) there
        ∙ sym (list_any-append (λ k. k == j) old new
        ∙ ap (λ b. is_in j old || b) (fresh j (at_most_highest s j r legal there))
        ∙ or_false (is_in j old)
        ∙ given.owners j r.queue (ap (option_map (λ (r : Job). r.queue)) there))

    same_by : (change : Change) (own : List (Bool × Refusal)) → first_cause (causes_of s change own) ≡ None → names_it name (λ j. is_own_job name (job_at s j)) change ≡ names_it name (λ j. is_in j (old ++ new)) change
    same_by (OfJob j f) own taken = let r = job_found s j own taken in job_own j r.0 r.1
    same_by (OfBoth j effects verdict) own taken = let r = job_found s j own taken in job_own j r.0 r.1
    same_by (WithoutJob j) own taken = let r = gone_found s j own taken in job_own j r.0 r.1
    same_by change own taken = refl

    same_own : (e : Event) → refusal_of s e ≡ None → is_own s name e ≡ is_about name (old ++ new) e
    same_own e taken = same_by (change_by e) ((row e).own s) taken

  -- The numbers after one event.
  in_new : (p : Bool) (n j : ℕ) → is_in j (cond p (n ∷ []) []) ≡ (p && (n == j))
  in_new true n j = or_false (n == j)
  in_new false n j = refl

  in_both : (old : List ℕ) (p : Bool) (n j : ℕ) → is_in j (old ++ cond p (n ∷ []) []) ≡ (is_in j old || (p && (n == j)))
  in_both old p n j = list_any-append (λ k. k == j) old (cond p (n ∷ []) []) ∙ ap (λ b. is_in j old || b) (in_new p n j)

  module _ (s : State) (legal : IsLegal s) (e : Event) (taken : refusal_of s e ≡ None) (old : List ℕ) (given : IsGiven old s) where
    none_then : job_made (change_by e) ≡ None → IsGiven (old ++ []) (after s e)
    none_then made = record {
      owners = λ j q at. ap (is_in j) (append-nil old) ∙ given.owners j q (sym (ap (λ o. owner_by o j (owner s j)) made) ∙ owner_after s legal e (keeps_each law e) taken j q at);
      up = λ j among. let low = given.up j (sym (ap (is_in j) (append-nil old)) ∙ among) in let more = grows s e taken in omega (arith, low, more);
    }

    module _ (n : Job) (made_one : job_made (change_by e) ≡ Some n) where
      abbrev p : Bool
      p = is_of name n

      not_old : (j : ℕ) → j ≡ n.id → is_in j old ≡ false
      not_old j is = false_from_ne_true (is_in j old) (λ among. let low = given.up j among in let above = (new_number s e taken n made_one).0 in omega (arith, low, above, is))

      owner_some : (j : ℕ) (q : List ℕ) (b : Bool) → eq_by_cmp nat_cmp j n.id ≡ b → cond b (Some n.queue) (owner s j) ≡ Some q → (is_in j old || (p && (n.id == j))) ≡ pointwise nat_eq q name
      owner_some j q true is at =
          ap (λ b. b || (p && (n.id == j))) (not_old j (same_number n.id j is))
          ∙ ap (λ b. p && b) (sym (is_equal j n.id) ∙ is)
          ∙ and_true p
          ∙ ap (λ (k : List ℕ). pointwise nat_eq k name) (some_name n.queue q at)
      owner_some j q false is at =
          ap (λ b. is_in j old || (p && b)) (sym (is_equal j n.id) ∙ is)
          ∙ ap (λ b. is_in j old || b) (and_false p)
          ∙ or_false (is_in j old)
          ∙ given.owners j q at

      up_some : (j : ℕ) → (is_in j old ≡ true) ⊎ ((p && (n.id == j)) ≡ true) → j ≤ (after s e).highest
      up_some j (inl among) = let low = given.up j among in let more = grows s e taken in omega (arith, low, more)
      up_some j (inr same) =
          let is : n.id ≡ j = same_equal n.id j (and_parts p (n.id == j) same).1 in
          let high = (new_number s e taken n made_one).1 in
          omega (arith, is, high)

      some_then : IsGiven (old ++ with_number name (Some n) []) (after s e)
      some_then = record {
        owners = λ j q at.
            in_both old p n.id j
            ∙ owner_some j q (eq_by_cmp nat_cmp j n.id) refl (sym (ap (λ o. owner_by o j (owner s j)) made_one) ∙ owner_after s legal e (keeps_each law e) taken j q at);
        up = λ j among. up_some j (or_cases (is_in j old) (p && (n.id == j)) (sym (in_both old p n.id j) ∙ among));
      }

    given_then : IsGiven (old ++ with_number name (job_made (change_by e)) []) (after_one s e)
    given_then = subst (IsGiven (old ++ with_number name (job_made (change_by e)) [])) (sym (ap (unless_refused s e) taken)) (by_new (job_made (change_by e)) refl)
      where
        by_new : (o : Option Job) → job_made (change_by e) ≡ o → IsGiven (old ++ with_number name o []) (after s e)
        by_new None made = none_then made
        by_new (Some n) made = some_then n made

  -- ## The own events

  with_split : (o : Option Job) (js : List ℕ) → with_number name o [] ++ js ≡ with_number name o js
  with_split None js = refl
  with_split (Some n) js = either (is_of name n)
    where
      either : (b : Bool) → cond b (n.id ∷ []) [] ++ js ≡ cond b (n.id ∷ js) js
      either true = refl
      either false = refl

  if_cond : (e : Event) (es : List Event) (b : Bool) → if_own e es b ≡ cond b (e ∷ es) es
  if_cond e es true = refl
  if_cond e es false = refl

  abbrev IsNamed : List Event → Type 0
  IsNamed es = (s : State) (old : List ℕ) → IsLegal s → IsGiven old s → own_events s name (accepted s es) ≡ filter (is_about name (old ++ numbers_of name (accepted s es))) (accepted s es)

  named_next : (e : Event) (es : List Event) → IsNamed es → IsNamed (e ∷ es)
  named_next e es rest s old legal given = by_refusal (refusal_of s e) refl
    where
      by_refusal : (o : Option Refusal) → refusal_of s e ≡ o
          → own_events s name (if_accepted e (accepted (after_one s e) es) o)
          ≡ filter (is_about name (old ++ numbers_of name (if_accepted e (accepted (after_one s e) es) o))) (if_accepted e (accepted (after_one s e) es) o)
      by_refusal None taken =
          let a = accepted (after_one s e) es in
          let numbers = numbers_of name (e ∷ a) in
          let fresh : (j : ℕ) → j ≤ s.highest → is_in j numbers ≡ false = λ j low. sym (ap (λ o. is_in j (numbers_of name (if_accepted e a o))) taken) ∙ gives_new (e ∷ es) s j low in
          let regroup : (old ++ with_number name (job_made (change_by e)) []) ++ numbers_of name a ≡ old ++ numbers =
          append_assoc old (with_number name (job_made (change_by e)) []) (numbers_of name a) ∙ ap (λ l. old ++ l) (with_split (job_made (change_by e)) (numbers_of name a)) in
          let others : own_events (after_one s e) name a ≡ filter (is_about name (old ++ numbers)) a =
          rest (after_one s e) (old ++ with_number name (job_made (change_by e)) []) (legal_after_one s e (keeps_each law e) legal) (given_then s legal e taken old given)
          ∙ ap (λ js. filter (is_about name js) a) regroup in
          ap (λ l. if_own e l (is_own s name e)) others
          ∙ ap (if_own e (filter (is_about name (old ++ numbers)) a)) (same_own s legal old numbers given fresh e taken)
          ∙ if_cond e (filter (is_about name (old ++ numbers)) a) (is_about name (old ++ numbers) e)
      by_refusal (Some x) refused =
          subst (λ u. own_events s name (accepted u es) ≡ filter (is_about name (old ++ numbers_of name (accepted u es))) (accepted u es)) (sym (ap (unless_refused s e) refused))
          (rest s old legal given)

  named_all : (es : List Event) → IsNamed es
  named_all [] = λ s old legal given. refl
  named_all (e ∷ es) = named_next e es (named_all es)

  none_given : (v : Version) → IsGiven [] (nothing_in v)
  none_given v = record {
    owners = λ j q at. absurd (never j q at);
    up = λ j among. absurd (cc);
  }
    where
      never : (j : ℕ) (q : List ℕ) → owner (nothing_in v) j ≡ Some q → ⊥
      never j q at = let none : owner (nothing_in v) j ≡ None = ap (option_map (λ (r : Job). r.queue)) (finite.get-empty nat_cmp j) in cc

  pub named : (v : Version) (es : List Event) → own_events (nothing_in v) name (accepted (nothing_in v) es) ≡ events_of name (accepted (nothing_in v) es)
  named v es = named_all es (nothing_in v) [] (legal_nothing v) (none_given v)

  -- ## The numbers after all events

  abbrev Ends : List Event → Type 0
  Ends es = (s : State) (old : List ℕ) → IsLegal s → IsGiven old s → IsGiven (old ++ numbers_of name (accepted s es)) (after_all s (accepted s es))

  ends_next : (e : Event) (es : List Event) → Ends es → Ends (e ∷ es)
  ends_next e es rest s old legal given = by_refusal (refusal_of s e) refl
    where
      by_refusal : (o : Option Refusal) → refusal_of s e ≡ o
          → IsGiven (old ++ numbers_of name (if_accepted e (accepted (after_one s e) es) o)) (after_all s (if_accepted e (accepted (after_one s e) es) o))
      by_refusal None taken =
          let a = accepted (after_one s e) es in
          subst (λ js. IsGiven js (after_all (after_one s e) a)) (append_assoc old (with_number name (job_made (change_by e)) []) (numbers_of name a) ∙ ap (λ l. old ++ l) (with_split (job_made (change_by e)) (numbers_of name a)))
          (rest (after_one s e) (old ++ with_number name (job_made (change_by e)) []) (legal_after_one s e (keeps_each law e) legal) (given_then s legal e taken old given))
      by_refusal (Some x) refused =
          subst (λ u. IsGiven (old ++ numbers_of name (accepted u es)) (after_all s (accepted u es))) (sym (ap (unless_refused s e) refused))
          (rest s old legal given)

  ends : (es : List Event) → Ends es
  ends [] = λ s old legal given. subst (λ js. IsGiven js s) (sym (append-nil old)) given
  ends (e ∷ es) = ends_next e es (ends es)

  module _ (v : Version) (es : List Event) (legal : IsLegal (whole_table v es)) where
    abbrev numbers : List ℕ
    numbers = numbers_of name (accepted (nothing_in v) es)

    given_all : IsGiven numbers (whole_table v es)
    given_all = ends es (nothing_in v) [] (legal_nothing v) (none_given v)

    -- An existing job belongs to the queue if its number was assigned to a job of it.
    pub own_number : (j : ℕ) (r : Job) → job_at (whole_table v es) j ≡ Some r → is_in j numbers ≡ is_of name r
    own_number j r there = given_all.owners j r.queue (ap (option_map (λ (r : Job). r.queue)) there)

    -- For an accepted event both definitions of an own event agree.
    pub own_event : (e : Event) → refusal_of (whole_table v es) e ≡ None → is_own (whole_table v es) name e ≡ is_own_event v es name e
    own_event e taken =
        same_own (whole_table v es) legal numbers [] given_all (λ j low. refl) e taken ∙ ap (λ js. is_about name js e) (append-nil numbers)
