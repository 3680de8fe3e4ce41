-- A stage that is spent stays spent, and a stage that the job has left is spent.
use Rattle.std.proofs.Common.{◌≡◌, ◌⊎◌, inl, inr, ℕ, ◌+◌, ◌≤◌, ◌==◌, Bool, true, false, cond, max, List, [], ◌∷◌, Some, None, Option, IsSome, refl, sym, ap, subst, ◌∙◌, arith}
use Rattle.std.specs.Prelude.{nat_le}
use Rattle.std.specs.Ordering.{nat_cmp, eq_by_cmp}
use Rattle.std.specs.Cmp.{nat_cmp_total}
use Rattle.std.specs.FinMap as finite
use Rattle.std.proofs.lemmas.Bool.Decides.{nat_tests}
use Rattle.std.proofs.lemmas.Bool.{and_parts, both_ways}
use Rattle.job_table.specs.Attempts.{is_in_stage, next_stage, rule, ruled, with_pages, with_effects, rule_by, rule_found, stage_verdict, lost_by, reopened}
use Rattle.job_table.specs.EventChanges.{at_moment, change_found, change_found_queue, change_job, change_own_queue}
use Rattle.job_table.specs.EventFold.{after_all, after_one, unless_refused}
use Rattle.job_table.specs.Legal.{IsLegal, Fits}
use Rattle.job_table.specs.Stages.{Key, key_of, IsUpTo, IsSpentOf, IsSpentBy, IsSpent, IsIn}
use Rattle.job_table.specs.Shapes.{Change, NewQueueRow, OfQueue, NewJobRow, OfJob, OfBoth, WithoutJob, OfClock, OfAll, causes_of, made}
use Rattle.job_table.specs.Step.{row, change_by, first_cause, refusal_of, after}
use Rattle.spool_types.specs.declared.effect.Effect.{Effect}
use Rattle.spool_types.specs.declared.event.Event.{Event}
use Rattle.spool_types.specs.declared.event.StageEnd.{StageEnd}
use Rattle.spool_types.specs.declared.event.Event.TheVariants.{Stage}
use Rattle.spool_types.specs.declared.phase.Phase.{Phase}
use Rattle.spool_types.specs.declared.phase.Phase.TheVariants.{Incoming, Waiting, Processing, Completed, Canceled, Aborted}
use Rattle.spool_types.specs.declared.refusal.Refusal.{Refusal}
use Rattle.spool_types.specs.declared.rows.QueueRow.{QueueRow}
use Rattle.spool_types.specs.Phases.{has_ended, is_processing}
use Rattle.spool_types.specs.State.{State, Job, queue_at, job_at}
use Rattle.row_effects.specs.EffectFold.{queue_after}
use Rattle.backend_codes.specs.declared.verdicts.Verdict.{Verdict}
use Rattle.backend_codes.specs.declared.verdicts.Verdict.TheVariants as verdicts
use Rattle.job_table.proofs.Accepted.{accepted_new, job_there, accepted_stage}
use Rattle.job_table.proofs.Changes.{not_both, at_most_highest, same_itself, same_number, some_same, change_queue_other, change_own_other, without_other, without_own, without_none}
use Rattle.job_table.proofs.Clocked.{at_either, clock_job}
use Rattle.job_table.proofs.Ended.{unchanged, below_number}
use Rattle.job_table.proofs.Follows.{Follows, in_place, ruled_follows}
use Rattle.job_table.proofs.Legal.{IsSound, sound, KeepsOrder, KeepsBy, Keeps, keeps_each, legal_effects, legal_after, legal_after_one}
use Rattle.job_table.proofs.Reopened.{reopened_onward, reopened_lost, reopened_others, reopened_counts}

-- ## The effect of an event on a job

-- The job exists, and follows this row.
abbrev IsFollowed : ℕ → ℕ → Phase → State → Type 0
IsFollowed j attempts p t = (x : Job) × (job_at t j ≡ Some x) × Follows attempts p x

found_same : (s t : State) (j : ℕ) (r : Job) → job_at s j ≡ Some r → job_at t j ≡ job_at s j → IsFollowed j r.attempts r.phase t
found_same s t j r there same = (r, same ∙ there, in_place r)

-- A row is inserted under a number: that of the job, or another one.
module _ (s : State) (j : ℕ) (r : Job) (there : job_at s j ≡ Some r) (k : ℕ) (x y : Job) (at_k : job_at s k ≡ Some x) where
  old_or_new : (P : Job → Type 0) → P r → (x ≡ r → P y) → (b : Bool) → eq_by_cmp nat_cmp j k ≡ b → (z : Job) × (cond b (Some y) (finite.get s.jobs j) ≡ Some z) × P z
  old_or_new P old new true e = (y, refl, new (some_same x r (sym at_k ∙ ap (job_at s) (sym (same_number k j e)) ∙ there)))
  old_or_new P old new false e = (r, there, old)

  put : (P : Job → Type 0) → P r → (x ≡ r → P y) → (z : Job) × (finite.get (finite.insert s.jobs k y) j ≡ Some z) × P z
  put P old new =
      let found = old_or_new P old new (eq_by_cmp nat_cmp j k) refl in
      (found.0, finite.get-insert nat_cmp_total s.jobs k y j ∙ found.1, found.2)

-- A change of the job, or of another one.
changed : (s : State) (j : ℕ) (r : Job) → job_at s j ≡ Some r → (P : Job → Type 0) → P r → (k : ℕ) (f : Job → Job) → ((x : Job) → x ≡ r → P (f x)) → (o : Option Job) → job_at s k ≡ o
    → (z : Job) × (job_at (change_found s k f o) j ≡ Some z) × P z
changed s j r there P old k f new None at_k = (r, there, old)
changed s j r there P old k f new (Some x) at_k = put s j r there k x (f x) at_k P old (new x)

goes_by : (s : State) (j : ℕ) (r : Job) → job_at s j ≡ Some r → (k : ℕ) (f : Job → Job) → ((x : Job) → Follows x.attempts x.phase (f x)) → IsFollowed j r.attempts r.phase (change_job s k f)
goes_by s j r there k f follows = changed s j r there (λ z. Follows r.attempts r.phase z) (in_place r) k f (λ x same. subst (λ (w : Job). Follows w.attempts w.phase (f x)) same (follows x)) _ refl

-- A verdict on the job, or on another one.
verdict_on : (s : State) (j : ℕ) (r : Job) → job_at s j ≡ Some r → IsLegal s → (k : ℕ) (verdict : Job → QueueRow → Verdict) (o : Option Job) → job_at s k ≡ o → IsFollowed j r.attempts r.phase (rule_found s verdict o)
verdict_on s j r there legal k verdict None at_k = found_same s s j r there refl
verdict_on s j r there legal k verdict (Some x) at_k = by_queue (queue_at s x.queue)
  where
    by_queue : (o : Option QueueRow) → IsFollowed j r.attempts r.phase (rule_by s (verdict x) x o)
    by_queue None = found_same s s j r there refl
    by_queue (Some q) =
        let new : Job = ruled s.moment q.interval (verdict x q) x in
        put s j r there x.id x new (ap (job_at s) ((legal.jobs k x at_k).id) ∙ at_k) (λ z. Follows r.attempts r.phase z) (in_place r)
        (λ same. subst (λ (w : Job). Follows w.attempts w.phase new) same (ruled_follows s.moment q.interval (verdict x q) x))

-- The effects of a stage do not change the attempts and the phase of a job.
abbrev IsAlike : Job → Job → Type 0
IsAlike r x = (x.attempts ≡ r.attempts) × (x.phase ≡ r.phase)

folded : (s : State) (j : ℕ) (r : Job) → job_at s j ≡ Some r → (k : ℕ) (effects : List Effect) → (x : Job) × (job_at (with_effects s k effects) j ≡ Some x) × IsAlike r x
folded s j r there k effects =
    let found = changed s j r there (IsAlike r) (refl, refl) k (with_pages effects) (λ x same. subst (λ w. IsAlike w (with_pages effects x)) same (refl, refl)) _ refl in
    (found.0, change_own_other (change_job s k (with_pages effects)) _ j _ ∙ found.1, found.2)

alike_then : (j : ℕ) (t : State) (r x : Job) → IsAlike r x → IsFollowed j x.attempts x.phase t → IsFollowed j r.attempts r.phase t
alike_then j t r x alike followed = subst (λ n. IsFollowed j n r.phase t) alike.0 (subst (λ p. IsFollowed j x.attempts p t) alike.1 followed)

lost : (s : State) (j : ℕ) (r : Job) → job_at s j ≡ Some r → IsLegal s → (b : Bool) → is_processing r.phase ≡ b → IsFollowed j r.attempts r.phase (reopened s)
lost s j r there legal false idle = found_same s (reopened s) j r there (reopened_others s legal j r there idle ∙ sym there)
lost s j r there legal true busy = by_queue (queue_at s r.queue) refl ((legal.jobs j r there).queue)
  where
    by_queue : (o : Option QueueRow) → queue_at s r.queue ≡ o → IsSome o → IsFollowed j r.attempts r.phase (reopened s)
    by_queue None is some = absurd (cc)
    by_queue (Some q) is some =
        (ruled s.moment q.interval (lost_by r q) r, (reopened_lost s legal j r q (record { there = there; queue = is; processing = busy })).job, ruled_follows s.moment q.interval (lost_by r q) r)

module _ (s : State) (j : ℕ) (r : Job) (there : job_at s j ≡ Some r) (legal : IsLegal s) (alive : has_ended r.phase ≡ false) where
  goes_on_by : (change : Change) (own : List (Bool × Refusal)) → KeepsBy change → IsSound s change → first_cause (causes_of s change own) ≡ None → IsFollowed j r.attempts r.phase (made s change)
  goes_on_by (NewQueueRow q) own keeps sound accepted = found_same s (made s (NewQueueRow q)) j r there refl
  goes_on_by (OfQueue name f) own keeps sound accepted = found_same s (made s (OfQueue name f)) j r there (change_queue_other s name f j _)
  goes_on_by (NewJobRow x) own keeps sound accepted =
      let above = accepted_new s x own accepted in
      let within = at_most_highest s j r legal there in
      found_same s (made s (NewJobRow x)) j r there (finite.get-insert nat_cmp_total s.jobs x.id x j ∙ ap (λ b. cond b (Some x) (finite.get s.jobs j)) (below_number j x.id (omega arith)))
  goes_on_by (OfJob k f) own keeps sound accepted = goes_by s j r there k f sound.follows
  goes_on_by (OfBoth k None verdict) own keeps sound accepted = verdict_on s j r there legal k verdict _ refl
  goes_on_by (OfBoth k (Some effects) verdict) own keeps sound accepted =
      let found = folded s j r there k effects in
      alike_then j (made s (OfBoth k (Some effects) verdict)) r found.0 found.2
      (verdict_on (with_effects s k effects) j found.0 found.1 (legal_effects s k effects keeps legal) k verdict _ refl)
  goes_on_by (WithoutJob k) own keeps sound accepted =
      let apart : ¬ (j ≡ k) = λ same. both_ways _ alive (sound r (ap (job_at s) (sym same) ∙ there)) in
      found_same s (made s (WithoutJob k)) j r there (without_other s k j apart)
  goes_on_by (OfClock m) own keeps sound accepted =
      let now = max s.moment m in
      (at_moment now r, clock_job s now j _ there, at_either (Follows r.attempts r.phase) now r (in_place r) (λ late. inl refl))
  goes_on_by OfAll own keeps sound accepted = lost s j r there legal (is_processing r.phase) refl

  goes_on : (e : Event) → Keeps e → refusal_of s e ≡ None → IsFollowed j r.attempts r.phase (after s e)
  goes_on e keeps accepted = goes_on_by (change_by e) ((row e).own s) keeps (sound s e accepted) accepted

-- ## The effect of an event on a number without a job

pub queue_counts : (s : State) (name : List ℕ) (f : QueueRow → QueueRow) (o : Option QueueRow) → s.highest ≡ (change_found_queue s name f o).highest
queue_counts s name f None = refl
queue_counts s name f (Some q) = refl

pub own_counts : (s : State) (f : QueueRow → QueueRow) (o : Option Job) → s.highest ≡ (change_own_queue s f o).highest
own_counts s f None = refl
own_counts s f (Some r) = queue_counts s r.queue f (queue_at s r.queue)

pub record IsStillAbsent (s t : State) (j : ℕ) : Type 0 where
  pub highest : s.highest ≤ t.highest
  pub absent : job_at t j ≡ None

absent_same : (s t : State) (j : ℕ) → job_at s j ≡ None → s.highest ≡ t.highest → job_at t j ≡ job_at s j → IsStillAbsent s t j
absent_same s t j none same kept = record { highest = omega (arith, same); absent = kept ∙ none }

-- A row is inserted under the number of an existing job.
module _ (s : State) (j k : ℕ) (x y : Job) (none : job_at s j ≡ None) (at_k : job_at s k ≡ Some x) where
  put_elsewhere : (b : Bool) → eq_by_cmp nat_cmp j k ≡ b → cond b (Some y) (finite.get s.jobs j) ≡ None
  put_elsewhere true e = absurd (not_both (job_at s k) x (ap (job_at s) (sym (same_number k j e)) ∙ none) at_k)
  put_elsewhere false e = none

  absent_put : finite.get (finite.insert s.jobs k y) j ≡ None
  absent_put = finite.get-insert nat_cmp_total s.jobs k y j ∙ put_elsewhere (eq_by_cmp nat_cmp j k) refl

absent_changed : (s : State) (j : ℕ) → job_at s j ≡ None → (k : ℕ) (f : Job → Job) (o : Option Job) → job_at s k ≡ o → IsStillAbsent s (change_found s k f o) j
absent_changed s j none k f None at_k = absent_same s s j none refl refl
absent_changed s j none k f (Some x) at_k = record { highest = omega arith; absent = absent_put s j k x (f x) none at_k }

pub absent_ruled : (s : State) (j : ℕ) → job_at s j ≡ None → IsLegal s → (k : ℕ) (verdict : Job → QueueRow → Verdict) (o : Option Job) → job_at s k ≡ o → IsStillAbsent s (rule_found s verdict o) j
absent_ruled s j none legal k verdict None at_k = absent_same s s j none refl refl
absent_ruled s j none legal k verdict (Some x) at_k = by_queue (queue_at s x.queue)
  where
    by_queue : (o : Option QueueRow) → IsStillAbsent s (rule_by s (verdict x) x o) j
    by_queue None = absent_same s s j none refl refl
    by_queue (Some q) = record { highest = omega arith; absent = absent_put s j x.id x (ruled s.moment q.interval (verdict x q) x) none (ap (job_at s) ((legal.jobs k x at_k).id) ∙ at_k) }

absent_folded : (s : State) (j : ℕ) → job_at s j ≡ None → (k : ℕ) (effects : List Effect) → IsStillAbsent s (with_effects s k effects) j
absent_folded s j none k effects =
    let found = absent_changed s j none k (with_pages effects) _ refl in
    let up = found.highest in
    let same = own_counts (change_job s k (with_pages effects)) (queue_after effects) (job_at (change_job s k (with_pages effects)) k) in
    record { highest = omega (arith, up, same); absent = change_own_other (change_job s k (with_pages effects)) _ j _ ∙ found.absent }

absent_then : (s t u : State) (j : ℕ) → IsStillAbsent s t j → IsStillAbsent t u j → IsStillAbsent s u j
absent_then s t u j one two =
    let first = one.highest in
    let second = two.highest in
    record { highest = omega (arith, first, second); absent = two.absent }

module _ (s : State) (j : ℕ) (none : job_at s j ≡ None) (given : j ≤ s.highest) (legal : IsLegal s) where
  absent_by : (change : Change) (own : List (Bool × Refusal)) → KeepsBy change → first_cause (causes_of s change own) ≡ None → IsStillAbsent s (made s change) j
  absent_by (NewQueueRow q) own keeps accepted = absent_same s (made s (NewQueueRow q)) j none refl refl
  absent_by (OfQueue name f) own keeps accepted = absent_same s (made s (OfQueue name f)) j none (queue_counts s name _ _) (change_queue_other s name _ j _)
  absent_by (NewJobRow x) own keeps accepted =
      let above = accepted_new s x own accepted in
      record {
        highest = omega (arith, above);
        absent = finite.get-insert nat_cmp_total s.jobs x.id x j ∙ ap (λ b. cond b (Some x) (finite.get s.jobs j)) (below_number j x.id (omega (arith, above, given))) ∙ none;
      }
  absent_by (OfJob k f) own keeps accepted = absent_changed s j none k _ _ refl
  absent_by (OfBoth k None verdict) own keeps accepted = absent_ruled s j none legal k verdict _ refl
  absent_by (OfBoth k (Some effects) verdict) own keeps accepted =
      let first = absent_folded s j none k effects in
      absent_then s (with_effects s k effects) (made s (OfBoth k (Some effects) verdict)) j first
      (absent_ruled (with_effects s k effects) j first.absent (legal_effects s k effects keeps legal) k verdict _ refl)
  absent_by (WithoutJob k) own keeps accepted = record { highest = omega arith; absent = without_none s k j none }
  absent_by (OfClock m) own keeps accepted = record { highest = omega arith; absent = clock_job s (max s.moment m) j _ none }
  absent_by OfAll own keeps accepted = absent_same s (reopened s) j none (sym (reopened_counts s).0) ((reopened_onward s legal).absent j none ∙ sym none)

  pub stays_absent : (e : Event) → Keeps e → refusal_of s e ≡ None → IsStillAbsent s (after s e) j
  stays_absent e keeps accepted = absent_by (change_by e) ((row e).own s) keeps accepted

-- ## Stages

-- A stage that is spent in a row that has not ended is spent in a row that follows it.
spent_followed : (k : Key) (r x : Job) → has_ended r.phase ≡ false → Follows r.attempts r.phase x → IsSpentOf k r → IsSpentOf k x
spent_followed k r x alive (inl over) spent = inl over
spent_followed k r x alive (inr (inl more)) (inl over) = absurd (both_ways _ alive over)
spent_followed k r x alive (inr (inl more)) (inr (inl fewer)) = inr (inl (omega (arith, more, fewer)))
spent_followed k r x alive (inr (inl more)) (inr (inr left)) = let same = left.0 in inr (inl (omega (arith, more, same)))
spent_followed k r x alive (inr (inr goes)) (inl over) = absurd (both_ways _ alive over)
spent_followed k r x alive (inr (inr goes)) (inr (inl fewer)) = let same = goes.0 in inr (inl (omega (arith, same, fewer)))
spent_followed k r x alive (inr (inr goes)) (inr (inr left)) = inr (inr (goes.0 ∙ left.0, λ up. left.1 (goes.1 k.stage up)))

by_row : (k : Key) (t : State) (x : Job) → job_at t k.job ≡ Some x → IsSpentOf k x → IsSpent t k
by_row k t x there spent = subst (IsSpentBy t.highest k) (sym there) spent

-- The stages of a removed job are spent.
spent_without : (s : State) (k : Key) → k.job ≤ s.highest → IsSpent (record s { jobs = finite.remove s.jobs k.job }) k
spent_without s k within = subst (IsSpentBy s.highest k) (sym (without_own s k.job)) within

-- The attempts of a processing job agree with its phase.
newest : (r : Job) (attempt stage stages : ℕ) (p : Phase) → p ≡ Processing attempt stage stages → Fits r p → attempt ≡ r.attempts
newest r attempt stage stages p is fits = (subst (Fits r) is fits).newest

-- A row that follows one in this stage has left the stage, or is in it.
module _ (k : Key) (t : State) (x : Job) (there : job_at t k.job ≡ Some x) (legal : IsLegal t) where
  in_or_spent : (p : Phase) → x.phase ≡ p → x.attempts ≡ k.attempt → ((stage : ℕ) → IsUpTo stage p → k.stage ≤ stage) → IsIn t k ⊎ IsSpent t k
  in_or_spent (Incoming hold) is same from = inr (by_row k t x there (inr (inr (same, λ up. subst (IsUpTo k.stage) is up))))
  in_or_spent (Waiting hold not_before first) is same from = inr (by_row k t x there (inr (inr (same, λ up. subst (IsUpTo k.stage) is up))))
  in_or_spent Completed is same from = inr (by_row k t x there (inr (inr (same, λ up. subst (IsUpTo k.stage) is up))))
  in_or_spent Canceled is same from = inr (by_row k t x there (inr (inr (same, λ up. subst (IsUpTo k.stage) is up))))
  in_or_spent (Aborted reason) is same from = inr (by_row k t x there (inr (inr (same, λ up. subst (IsUpTo k.stage) is up))))
  in_or_spent (Processing attempt stage stages) is same from = either (nat_le stage k.stage) refl
    where
      either : (b : Bool) → nat_le stage k.stage ≡ b → IsIn t k ⊎ IsSpent t k
      either true up =
          let least = from stage (omega arith) in
          let stage_is : stage ≡ k.stage = grind (arith, nat_tests) in
          let attempt_is : attempt ≡ k.attempt = newest x attempt stage stages x.phase is (legal.jobs k.job x there).phase ∙ same in
          inl (record { row = x; stages = stages; there = there; phase = is ∙ ap (λ a. Processing a stage stages) attempt_is ∙ ap (λ n. Processing k.attempt n stages) stage_is })
      either false past = inr (by_row k t x there (inr (inr (same, λ up. above_it (subst (IsUpTo k.stage) is up)))))
        where
          above_it : stage ≤ k.stage → ⊥
          above_it le = grind (arith, nat_tests)

in_followed : (k : Key) (s t : State) (now : IsIn s k) (legal : IsLegal s) (legal_then : IsLegal t) → IsFollowed k.job now.row.attempts now.row.phase t → IsIn t k ⊎ IsSpent t k
in_followed k s t now legal legal_then (x, there, follows) = by_follows follows
  where
    same : k.attempt ≡ now.row.attempts
    same = newest now.row k.attempt k.stage now.stages now.row.phase now.phase (legal.jobs k.job now.row now.there).phase

    by_follows : Follows now.row.attempts now.row.phase x → IsIn t k ⊎ IsSpent t k
    by_follows (inl over) = inr (by_row k t x there (inl over))
    by_follows (inr (inl more)) = inr (by_row k t x there (inr (inl (omega (arith, more, same)))))
    by_follows (inr (inr goes)) = in_or_spent k t x there legal_then x.phase refl (goes.0 ∙ sym same) (λ stage up. subst (IsUpTo stage) now.phase (goes.1 stage up))

alive_in : (s : State) (k : Key) (now : IsIn s k) → has_ended now.row.phase ≡ false
alive_in s k now = ap has_ended now.phase

-- The current stage of a job is not spent.
pub in_unspent : (s : State) (k : Key) → IsLegal s → IsIn s k → IsSpent s k → ⊥
in_unspent s k legal now spent = by_row_of (subst (IsSpentBy s.highest k) now.there spent)
  where
    same : k.attempt ≡ now.row.attempts
    same = newest now.row k.attempt k.stage now.stages now.row.phase now.phase (legal.jobs k.job now.row now.there).phase

    by_row_of : IsSpentOf k now.row → ⊥
    by_row_of (inl over) = both_ways _ (alive_in s k now) over
    by_row_of (inr (inl fewer)) = omega (arith, same, fewer)
    by_row_of (inr (inr left)) = left.1 (subst (IsUpTo k.stage) (sym now.phase) (omega arith))

module _ (s : State) (e : Event) (k : Key) (keeps : Keeps e) (legal : IsLegal s) where
  spent_after : refusal_of s e ≡ None → (o : Option Job) → job_at s k.job ≡ o → IsSpentBy s.highest k o → IsSpent (after s e) k
  spent_after accepted None none given =
      let still = stays_absent s k.job none given legal e keeps accepted in
      let up = still.highest in
      subst (IsSpentBy (after s e).highest k) (sym still.absent) (omega (arith, up, given))
  spent_after accepted (Some r) there spent = either (has_ended r.phase) refl
    where
      either : (b : Bool) → has_ended r.phase ≡ b → IsSpent (after s e) k
      either true over = elim (unchanged s k.job r (record { legal = legal; there = there; ended = over }) e keeps accepted) [
        | inl same ↦ by_row k (after s e) r same (inl over)
        | inr goes ↦ subst (λ (t : State). IsSpent t k) (sym (ap (made s) goes)) (spent_without s k (at_most_highest s k.job r legal there))
      ]
      either false alive =
          let found = goes_on s k.job r there legal alive e keeps accepted in
          by_row k (after s e) found.0 found.1 (spent_followed k r found.0 alive found.2 spent)

  spent_unless : (o : Option Refusal) → refusal_of s e ≡ o → IsSpent s k → IsSpent (unless_refused s e o) k
  spent_unless None accepted spent = spent_after accepted _ refl spent
  spent_unless (Some x) refused spent = spent

  pub spent_after_one : IsSpent s k → IsSpent (after_one s e) k
  spent_after_one spent = spent_unless _ refl spent

  in_unless : (o : Option Refusal) → refusal_of s e ≡ o → IsIn s k → IsIn (unless_refused s e o) k ⊎ IsSpent (unless_refused s e o) k
  in_unless None accepted now = in_followed k s (after s e) now legal (legal_after s e keeps accepted legal) (goes_on s k.job now.row now.there legal (alive_in s k now) e keeps accepted)
  in_unless (Some x) refused now = inl now

  pub in_after_one : IsIn s k → IsIn (after_one s e) k ⊎ IsSpent (after_one s e) k
  in_after_one now = in_unless _ refl now

-- ## Many events

pub spent_after_all : ((effects : List Effect) → KeepsOrder effects) → (es : List Event) (s : State) (k : Key) → IsLegal s → IsSpent s k → IsSpent (after_all s es) k
spent_after_all law [] s k legal spent = spent
spent_after_all law (e ∷ es) s k legal spent =
    spent_after_all law es (after_one s e) k (legal_after_one s e (keeps_each law e) legal) (spent_after_one s e k (keeps_each law e) legal spent)

pub in_after_all : ((effects : List Effect) → KeepsOrder effects) → (es : List Event) (s : State) (k : Key) → IsLegal s → IsIn s k → IsIn (after_all s es) k ⊎ IsSpent (after_all s es) k
in_after_all law [] s k legal now = inl now
in_after_all law (e ∷ es) s k legal now = elim (in_after_one s e k (keeps_each law e) legal now) [
  | inl still ↦ in_after_all law es (after_one s e) k (legal_after_one s e (keeps_each law e) legal) still
  | inr spent ↦ inr (spent_after_all law es (after_one s e) k (legal_after_one s e (keeps_each law e) legal) spent)
]

-- ## The end of a stage

-- A verdict on a job in this stage leaves the stage.
ruled_leaves : (k : Key) (now interval : ℕ) (v : Verdict) (r : Job) (stages : ℕ) → r.phase ≡ Processing k.attempt k.stage stages → r.attempts ≡ k.attempt → IsSpentOf k (ruled now interval v r)
ruled_leaves k now interval verdicts.NextStage r stages is same = inr (inr (same, λ up. further (subst (λ p. IsUpTo k.stage (next_stage p)) is up)))
  where
    further : k.stage + 1 ≤ k.stage → ⊥
    further up = omega (arith, up)
ruled_leaves k now interval verdicts.Completed r stages is same = inl refl
ruled_leaves k now interval (verdicts.Aborted reason) r stages is same = inl refl
ruled_leaves k now interval verdicts.Canceled r stages is same = inl refl
ruled_leaves k now interval (verdicts.Held reason) r stages is same = inr (inr (same, λ up. absurd up))
ruled_leaves k now interval verdicts.StopQueue r stages is same = inr (inr (same, λ up. absurd up))
ruled_leaves k now interval verdicts.RetryAt r stages is same = inr (inr (same, λ up. absurd up))
ruled_leaves k now interval verdicts.RetryFirst r stages is same = inr (inr (same, λ up. absurd up))

-- The current stage of a processing job.
inside : (attempt stage : ℕ) (p : Phase) → is_in_stage attempt stage p ≡ true → (stages : ℕ) × (p ≡ Processing attempt stage stages)
inside attempt stage (Incoming hold) is = absurd (cc)
inside attempt stage (Waiting hold not_before first) is = absurd (cc)
inside attempt stage (Processing a st stages) is =
    let both = and_parts (a == attempt) (st == stage) is in
    let same_attempt : a ≡ attempt = grind (arith, nat_tests) in
    let same_stage : st ≡ stage = grind (arith, nat_tests) in
    (stages, ap (λ n. Processing n st stages) same_attempt ∙ ap (λ n. Processing attempt n stages) same_stage)
inside attempt stage Completed is = absurd (cc)
inside attempt stage Canceled is = absurd (cc)
inside attempt stage (Aborted reason) is = absurd (cc)

module _ (s : State) (e : StageEnd) (keeps : Keeps (Stage e)) (legal : IsLegal s) (accepted : refusal_of s (Stage e) ≡ None) where
  abbrev key : Key
  key = key_of e

  abbrev told : State
  told = with_effects s e.job e.effects

  legal_told : IsLegal told
  legal_told = legal_effects s e.job e.effects keeps legal

  put_there : (x : Job) → job_at told e.job ≡ Some x → (stages : ℕ) → x.phase ≡ Processing e.attempt e.stage stages → (q : Option QueueRow) → queue_at told x.queue ≡ q → IsSome q
      → IsSpent (rule_by told (stage_verdict e.exit x) x q) key
  put_there x there stages is None queue some = absurd (cc)
  put_there x there stages is (Some q) queue some =
      let new : Job = ruled told.moment q.interval (stage_verdict e.exit x q) x in
      let at_id : x.id ≡ e.job = (legal_told.jobs e.job x there).id in
      by_row key (rule told q (stage_verdict e.exit x q) x) new
      (finite.get-insert nat_cmp_total told.jobs x.id new e.job
      ∙ ap (λ b. cond b (Some new) (finite.get told.jobs e.job)) (ap (eq_by_cmp nat_cmp e.job) at_id ∙ same_itself e.job))
      (ruled_leaves key told.moment q.interval (stage_verdict e.exit x q) x stages is (sym (newest x e.attempt e.stage stages x.phase is (legal_told.jobs e.job x there).phase)))

  -- An accepted end of a stage spends the stage.
  pub spent_by_end : IsSpent (after s (Stage e)) (key_of e)
  spent_by_end =
      let old = job_there s (Stage e) e.job _ refl accepted in
      let was = accepted_stage s e old.0 old.1 accepted in
      let found = folded s e.job old.0 old.1 e.job e.effects in
      let (stages, is) = inside e.attempt e.stage found.0.phase (ap (is_in_stage e.attempt e.stage) found.2.1 ∙ was) in
      subst (λ o. IsSpent (rule_found told (stage_verdict e.exit) o) key) (sym found.1)
      (put_there found.0 found.1 stages is (queue_at told found.0.queue) refl ((legal_told.jobs e.job found.0 found.1).queue))
