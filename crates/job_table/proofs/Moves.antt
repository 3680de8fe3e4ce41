-- The parts of a table that an event about one job leaves unchanged.
use Rattle.std.proofs.Common.{◌≡◌, ℕ, Bool, true, false, cond, List, Some, None, Option, refl, sym, ap, subst, ◌∙◌}
use Rattle.std.specs.Ordering.{nat_cmp, eq_by_cmp}
use Rattle.std.specs.Cmp.{nat_cmp_total}
use Rattle.std.specs.Cmp.Lexicographic.{slice_cmp, nat_list_cmp_total}
use Rattle.std.specs.FinMap as finite
use Rattle.spool_types.specs.declared.rows.QueueRow.{QueueRow}
use Rattle.spool_types.specs.declared.event.Event.{Event}
use Rattle.spool_types.specs.State.{State, Job, queue_at, job_at}
use Rattle.backend_codes.specs.declared.verdicts.Verdict.{Verdict}
use Rattle.backend_codes.specs.declared.verdicts.Verdict.TheVariants as verdicts
use Rattle.spool_types.specs.declared.effect.Effect.{Effect}
use Rattle.job_table.specs.Attempts.{ruled, with_pages, with_effects, rule_by, rule_found, stops_queue}
use Rattle.job_table.specs.EventChanges.{with_stopped, change_found, change_job, change_found_queue, change_queue, change_own_queue}
use Rattle.row_effects.specs.EffectFold.{queue_after}
use Rattle.job_table.specs.Ended.{subject}
use Rattle.job_table.specs.Legal.{IsLegal}
use Rattle.job_table.specs.Shapes.{Change, NewQueueRow, OfQueue, NewJobRow, OfJob, OfBoth, WithoutJob, OfClock, OfAll, subject_of, made}
use Rattle.job_table.specs.Step.{change_by, refusal_of, after}
use Rattle.job_table.proofs.Changes.{some_same, same_number, same_itself}
use Rattle.job_table.proofs.Ended.{number_of}
use Rattle.job_table.proofs.Keys.{keys_insert}
use Rattle.job_table.proofs.Legal.{KeepsBy, Keeps, IsSound, sound, legal_effects}
use Rattle.job_table.proofs.Follows.{IsSameJob}

-- No job, no name of a queue and no moment changes, except the job of this number.
pub record Moves (s t : State) (j : ℕ) : Type 0 where
  pub names : finite.keys t.queues ≡ finite.keys s.queues
  pub moment : t.moment ≡ s.moment
  pub others : (k : ℕ) → ¬ (k ≡ j) → job_at t k ≡ job_at s k
  pub own : (r : Job) → job_at s j ≡ Some r → (q : Job) × (job_at t j ≡ Some q) × IsSameJob r q

-- That job does not change either.
pub record Stays (s t : State) : Type 0 where
  pub names : finite.keys t.queues ≡ finite.keys s.queues
  pub moment : t.moment ≡ s.moment
  pub jobs : (k : ℕ) → job_at t k ≡ job_at s k

same_job : (r : Job) → IsSameJob r r
same_job r = record { id = refl; queue = refl; by = refl }

stays_same : (s : State) → Stays s s
stays_same s = record { names = refl; moment = refl; jobs = λ k. refl }

moves_same : (s : State) (j : ℕ) → Moves s s j
moves_same s j = record { names = refl; moment = refl; others = λ k apart. refl; own = λ r there. (r, there, same_job r) }

-- Two changes in order.
moves_then : (s t u : State) (j : ℕ) → Moves s t j → Moves t u j → Moves s u j
moves_then s t u j first second = record {
  names = second.names ∙ first.names;
  moment = second.moment ∙ first.moment;
  others = λ k apart. second.others k apart ∙ first.others k apart;
  own = λ r there.
      let q = first.own r there in
      let p = second.own q.0 q.1 in
      (p.0, p.1, record { id = p.2.id ∙ q.2.id; queue = p.2.queue ∙ q.2.queue; by = p.2.by ∙ q.2.by });
}

moves_stays : (s t : State) (j : ℕ) → Stays s t → Moves s t j
moves_stays s t j same = record {
  names = same.names;
  moment = same.moment;
  others = λ k apart. same.jobs k;
  own = λ r there. (r, same.jobs j ∙ there, same_job r);
}

-- Inserting a job leaves the other numbers unchanged.
pub put_other : (s : State) (j : ℕ) (x : Job) (k : ℕ) → ¬ (k ≡ j) → finite.get (finite.insert s.jobs j x) k ≡ job_at s k
put_other s j x k apart = finite.get-insert nat_cmp_total s.jobs j x k ∙ either (eq_by_cmp nat_cmp k j) refl
  where
    either : (b : Bool) → eq_by_cmp nat_cmp k j ≡ b → cond b (Some x) (finite.get s.jobs k) ≡ finite.get s.jobs k
    either true e = absurd (apart (same_number j k e))
    either false e = refl

pub put_own : (s : State) (j : ℕ) (x : Job) → finite.get (finite.insert s.jobs j x) j ≡ Some x
put_own s j x = finite.get-insert nat_cmp_total s.jobs j x j ∙ ap (λ b. cond b (Some x) (finite.get s.jobs j)) (same_itself j)

-- An existing job is changed.
moves_found : (s : State) (j : ℕ) (f : Job → Job) → ((r : Job) → IsSameJob r (f r)) → (o : Option Job) → job_at s j ≡ o → Moves s (change_found s j f o) j
moves_found s j f keeps None is = moves_same s j
moves_found s j f keeps (Some x) is = record {
  names = refl;
  moment = refl;
  others = λ k apart. put_other s j (f x) k apart;
  own = λ r there.
      let same : x ≡ r = some_same x r (sym is ∙ there) in
      (f x, put_own s j (f x), record { id = (keeps x).id ∙ ap (λ (y : Job). y.id) same; queue = (keeps x).queue ∙ ap (λ (y : Job). y.queue) same; by = (keeps x).by ∙ ap (λ (y : Job). y.by) same });
}

moves_change : (s : State) (j : ℕ) (f : Job → Job) → ((r : Job) → IsSameJob r (f r)) → Moves s (change_job s j f) j
moves_change s j f keeps = moves_found s j f keeps (job_at s j) refl

-- An existing queue is changed.
stays_found : (s : State) (name : List ℕ) (f : QueueRow → QueueRow) (o : Option QueueRow) → queue_at s name ≡ o → Stays s (change_found_queue s name f o)
stays_found s name f None is = stays_same s
stays_found s name f (Some q) is = record { names = keys_insert (slice_cmp nat_cmp) nat_list_cmp_total s.queues name (f q) q is; moment = refl; jobs = λ k. refl }

pub stays_queue : (s : State) (name : List ℕ) (f : QueueRow → QueueRow) → Stays s (change_queue s name f)
stays_queue s name f = stays_found s name f (queue_at s name) refl

stays_own : (s : State) (f : QueueRow → QueueRow) (o : Option Job) → Stays s (change_own_queue s f o)
stays_own s f None = stays_same s
stays_own s f (Some r) = stays_queue s r.queue f

-- A job keeps its number, its queue and its moment after a verdict.
ruled_same : (now interval : ℕ) (v : Verdict) (r : Job) → IsSameJob r (ruled now interval v r)
ruled_same now interval verdicts.NextStage r = record { id = refl; queue = refl; by = refl }
ruled_same now interval verdicts.Completed r = record { id = refl; queue = refl; by = refl }
ruled_same now interval (verdicts.Aborted reason) r = record { id = refl; queue = refl; by = refl }
ruled_same now interval verdicts.Canceled r = record { id = refl; queue = refl; by = refl }
ruled_same now interval (verdicts.Held reason) r = record { id = refl; queue = refl; by = refl }
ruled_same now interval verdicts.StopQueue r = record { id = refl; queue = refl; by = refl }
ruled_same now interval verdicts.RetryAt r = record { id = refl; queue = refl; by = refl }
ruled_same now interval verdicts.RetryFirst r = record { id = refl; queue = refl; by = refl }

names_stopped : (s : State) (q : QueueRow) (b : Bool) → queue_at s q.name ≡ Some q → finite.keys (cond b (finite.insert s.queues q.name (with_stopped true q)) s.queues) ≡ finite.keys s.queues
names_stopped s q true there = keys_insert (slice_cmp nat_cmp) nat_list_cmp_total s.queues q.name (with_stopped true q) q there
names_stopped s q false there = refl

pub moves_ruled : (s : State) → IsLegal s → (j : ℕ) (verdict : Job → QueueRow → Verdict) (o : Option Job) → job_at s j ≡ o → Moves s (rule_found s verdict o) j
moves_ruled s legal j verdict None is = moves_same s j
moves_ruled s legal j verdict (Some x) is = by_queue (queue_at s x.queue) refl
  where
    id : x.id ≡ j
    id = (legal.jobs j x is).id

    by_queue : (o : Option QueueRow) → queue_at s x.queue ≡ o → Moves s (rule_by s (verdict x) x o) j
    by_queue None at = moves_same s j
    by_queue (Some q) at =
        let y = ruled s.moment q.interval (verdict x q) x in
        let same = ruled_same s.moment q.interval (verdict x q) x in
        record {
          names = names_stopped s q (stops_queue (verdict x q)) (ap (queue_at s) (legal.names x.queue q at) ∙ at);
          moment = refl;
          others = λ k apart. put_other s x.id y k (λ is_own. apart (is_own ∙ id));
          own = λ r there.
              let found : x ≡ r = some_same x r (sym is ∙ there) in
              (y, ap (finite.get (finite.insert s.jobs x.id y)) (sym id) ∙ put_own s x.id y, record { id = same.id ∙ ap (λ (z : Job). z.id) found; queue = same.queue ∙ ap (λ (z : Job). z.queue) found; by = same.by ∙ ap (λ (z : Job). z.by) found });
        }

moves_effects : (s : State) (j : ℕ) (effects : List Effect) → Moves s (with_effects s j effects) j
moves_effects s j effects = moves_then s (change_job s j (with_pages effects)) (with_effects s j effects) j
    (moves_change s j (with_pages effects) (λ r. record { id = refl; queue = refl; by = refl }))
    (moves_stays _ _ j (stays_own (change_job s j (with_pages effects)) (queue_after effects) (job_at (change_job s j (with_pages effects)) j)))

-- An event about a job changes no other job.
module _ (s : State) (legal : IsLegal s) (j : ℕ) where
  at_number : (t : State) (k : ℕ) → Some k ≡ Some j → Moves s t k → Moves s t j
  at_number t k is all = subst (Moves s t) (number_of j k is) all

  moves_by : (change : Change) → KeepsBy change → IsSound s change → subject_of change ≡ Some j → Moves s (made s change) j
  moves_by (NewQueueRow q) keeps sound is = absurd (cc)
  moves_by (OfQueue name f) keeps sound is = absurd (cc)
  moves_by (NewJobRow x) keeps sound is = absurd (cc)
  moves_by (OfJob k f) keeps sound is = at_number _ k is (moves_change s k f sound.same)
  moves_by (OfBoth k None verdict) keeps sound is = at_number _ k is (moves_ruled s legal k verdict _ refl)
  moves_by (OfBoth k (Some effects) verdict) keeps sound is = at_number _ k is (moves_then s (with_effects s k effects) (made s (OfBoth k (Some effects) verdict)) k
      (moves_effects s k effects)
      (moves_ruled (with_effects s k effects) (legal_effects s k effects keeps legal) k verdict _ refl))
  moves_by (WithoutJob k) keeps sound is = absurd (cc)
  moves_by (OfClock m) keeps sound is = absurd (cc)
  moves_by OfAll keeps sound is = absurd (cc)

  pub moves : (e : Event) → Keeps e → refusal_of s e ≡ None → subject e ≡ Some j → Moves s (after s e) j
  moves e keeps accepted is = moves_by (change_by e) keeps (sound s e accepted) is
