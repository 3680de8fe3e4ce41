-- The effects of a change of every job and of the clock.
use Rattle.std.proofs.Common.{◌≡◌, ℕ, ◌<◌, Bool, true, false, cond, ◌&&◌, List, [], ◌∷◌, map, Option, Some, None, refl, sym, ap, subst, ◌∙◌, arith}
use Rattle.std.proofs.lemmas.Bool.{and_parts, and_from}
use Rattle.std.proofs.lemmas.Bool.Decides.{nat_tests}
use Rattle.std.specs.Prelude.{T, nat_lt}
use Rattle.std.specs.Option.{option_map}
use Rattle.std.specs.Ordering.{nat_cmp, is_lt, eq_by_cmp}
use Rattle.std.specs.Cmp.{nat_cmp_total}
use Rattle.std.specs.FinMap as finite
use Rattle.std.specs.FinMap.Entries.{find, is_sorted, below_all}
use Rattle.spool_types.specs.declared.phase.Phase.{Phase}
use Rattle.spool_types.specs.declared.phase.Phase.TheVariants.{Incoming, Waiting, Processing, Completed, Canceled, Aborted}
use Rattle.spool_types.specs.Phases.{has_ended, is_processing, is_waiting}
use Rattle.spool_types.specs.State.{State, Job, Jobs, Queues, job_at}
use Rattle.job_table.specs.EventChanges.{ended, is_passed, is_late, at_moment, change_found, change_job, change_jobs, at_clock}
use Rattle.job_table.specs.Legal.{IsLegal, IsLegalJob}
use Rattle.job_table.proofs.Changes.{same_number}

-- ## A change of every job

-- Tables with the same jobs are equal.
same_jobs : (a b : Jobs) → ((j : ℕ) → finite.get a j ≡ finite.get b j) → a ≡ b
same_jobs a b same = finite.same_map nat_cmp_total finite.nat_cmp-IsAntisymmetric a b same

module _ (f : Job → Job) where
  abbrev changed : List (ℕ × Job) → List (ℕ × Job)
  changed es = map (λ e. (e.0, f e.1)) es

  below_kept : (k : ℕ) (es : List (ℕ × Job)) → below_all nat_cmp k (changed es) ≡ below_all nat_cmp k es
  below_kept k [] = refl
  below_kept k (e ∷ es) = ap (λ b. is_lt (nat_cmp k e.0) && b) (below_kept k es)

  sorted_kept : (es : List (ℕ × Job)) → is_sorted nat_cmp (changed es) ≡ is_sorted nat_cmp es
  sorted_kept [] = refl
  sorted_kept (e ∷ es) = λ i. below_kept e.0 es i && sorted_kept es i

  find_changed : (k : ℕ) (es : List (ℕ × Job)) → find nat_cmp k (changed es) ≡ option_map f (find nat_cmp k es)
  find_changed k [] = refl
  find_changed k (e ∷ es) = either (eq_by_cmp nat_cmp k e.0) (find_changed k es)
    where
      either : (b : Bool) → find nat_cmp k (changed es) ≡ option_map f (find nat_cmp k es) → cond b (Some (f e.1)) (find nat_cmp k (changed es)) ≡ option_map f (cond b (Some e.1) (find nat_cmp k es))
      either true rest = refl
      either false rest = rest

  module _ (jobs : Jobs) where
    entries_changed : finite.entries (change_jobs f jobs) ≡ changed (finite.entries jobs)
    entries_changed = finite.entries-from_sorted nat_cmp (changed (finite.entries jobs)) (subst T (sym (sorted_kept (finite.entries jobs))) (finite.entries_sorted jobs))

    -- Each number has the changed job.
    job_changed : (j : ℕ) → finite.get (change_jobs f jobs) j ≡ option_map f (finite.get jobs j)
    job_changed j =
        finite.get-entries (change_jobs f jobs) j
        ∙ ap (find nat_cmp j) entries_changed
        ∙ find_changed j (finite.entries jobs)
        ∙ ap (option_map f) (sym (finite.get-entries jobs j))

    -- Each job that is found existed before, and was changed.
    changed_from : (j : ℕ) (x : Job) → finite.get (change_jobs f jobs) j ≡ Some x → (r : Job) × (finite.get jobs j ≡ Some r) × (f r ≡ x)
    changed_from j x there = by_job (finite.get jobs j) refl (sym (job_changed j) ∙ there)
      where
        by_job : (o : Option Job) → finite.get jobs j ≡ o → option_map f o ≡ Some x → (r : Job) × (finite.get jobs j ≡ Some r) × (f r ≡ x)
        by_job None at is = absurd (cc)
        by_job (Some r) at is = (r, at, cc)

    -- If no job changes, the table does not change.
    none_changed : ((j : ℕ) (r : Job) → finite.get jobs j ≡ Some r → f r ≡ r) → change_jobs f jobs ≡ jobs
    none_changed same = same_jobs (change_jobs f jobs) jobs (λ j. job_changed j ∙ by_job j (finite.get jobs j) refl)
      where
        by_job : (j : ℕ) (o : Option Job) → finite.get jobs j ≡ o → option_map f o ≡ o
        by_job j None at = refl
        by_job j (Some r) at = ap Some (same j r at)

  -- The inserted job is changed like all others.
  changed_insert : (jobs : Jobs) (j : ℕ) (x : Job) → change_jobs f (finite.insert jobs j x) ≡ finite.insert (change_jobs f jobs) j (f x)
  changed_insert jobs j x = same_jobs _ _ (λ k.
      job_changed (finite.insert jobs j x) k
      ∙ ap (option_map f) (finite.get-insert nat_cmp_total jobs j x k)
      ∙ either k (eq_by_cmp nat_cmp k j)
      ∙ sym (finite.get-insert nat_cmp_total (change_jobs f jobs) j (f x) k))
    where
      either : (k : ℕ) (b : Bool) → option_map f (cond b (Some x) (finite.get jobs k)) ≡ cond b (Some (f x)) (finite.get (change_jobs f jobs) k)
      either k true = refl
      either k false = sym (job_changed jobs k)

-- Inserting a job that is already in the table changes nothing.
insert_same : (jobs : Jobs) (j : ℕ) (x : Job) → finite.get jobs j ≡ Some x → finite.insert jobs j x ≡ jobs
insert_same jobs j x there = same_jobs _ _ (λ k. finite.get-insert nat_cmp_total jobs j x k ∙ either k (eq_by_cmp nat_cmp k j) refl)
  where
    either : (k : ℕ) (b : Bool) → eq_by_cmp nat_cmp k j ≡ b → cond b (Some x) (finite.get jobs k) ≡ finite.get jobs k
    either k true same = sym (ap (finite.get jobs) (same_number j k same) ∙ there)
    either k false other = refl

-- ## The effect of a moment on a job

-- A job is unchanged, or it was late and is canceled.
pub at_either : (P : Job → Type 0) (now : ℕ) (r : Job) → P r → (is_late now r ≡ true → P (ended Canceled r)) → P (at_moment now r)
at_either P now r kept late = either (is_late now r) refl
  where
    either : (b : Bool) → is_late now r ≡ b → P (cond b (ended Canceled r) r)
    either true is = late is
    either false is = kept

-- Every part of a job that a cancel leaves unchanged is also unchanged by the clock.
at_same : {X : Type 0} (g : Job → X) → ((r : Job) → g (ended Canceled r) ≡ g r) → (now : ℕ) (r : Job) → g (at_moment now r) ≡ g r
at_same g same now r = at_either (λ x. g x ≡ g r) now r refl (λ late. same r)

pub at_queue : (now : ℕ) (r : Job) → (at_moment now r).queue ≡ r.queue
at_queue = at_same (λ r. r.queue) (λ r. refl)

-- Only a waiting job is canceled.
late_waits : (now : ℕ) (r : Job) → is_late now r ≡ true → is_waiting r.phase ≡ true
late_waits now r late = (and_parts (is_waiting r.phase) (is_passed now r.by) late).0

at_not_waiting : (now : ℕ) (r : Job) → is_waiting r.phase ≡ false → at_moment now r ≡ r
at_not_waiting now r is = ap (λ b. cond (b && is_passed now r.by) (ended Canceled r) r) is

at_kept : (now : ℕ) (r : Job) → is_late now r ≡ false → at_moment now r ≡ r
at_kept now r timely = ap (λ b. cond b (ended Canceled r) r) timely

at_late : (now : ℕ) (r : Job) → is_late now r ≡ true → at_moment now r ≡ ended Canceled r
at_late now r late = ap (λ b. cond b (ended Canceled r) r) late

pub ended_waits_not : (p : Phase) → has_ended p ≡ true → is_waiting p ≡ false
ended_waits_not (Incoming hold) over = refl
ended_waits_not (Waiting hold not_before first) over = absurd (cc)
ended_waits_not (Processing attempt stage stages) over = refl
ended_waits_not Completed over = refl
ended_waits_not Canceled over = refl
ended_waits_not (Aborted reason) over = refl

waiting_idle : (p : Phase) → is_waiting p ≡ true → is_processing p ≡ false
waiting_idle (Incoming hold) waits = refl
waiting_idle (Waiting hold not_before first) waits = refl
waiting_idle (Processing attempt stage stages) waits = absurd (cc)
waiting_idle Completed waits = refl
waiting_idle Canceled waits = refl
waiting_idle (Aborted reason) waits = refl

pub at_ended : (now : ℕ) (r : Job) → has_ended r.phase ≡ true → at_moment now r ≡ r
at_ended now r over = at_not_waiting now r (ended_waits_not r.phase over)

-- The job is processing if it was before.
at_processing : (now : ℕ) (r : Job) → is_processing (at_moment now r).phase ≡ is_processing r.phase
at_processing now r = at_either (λ x. is_processing x.phase ≡ is_processing r.phase) now r refl (λ late. sym (waiting_idle r.phase (late_waits now r late)))

-- A legal job stays legal.
legal_at : (queues : Queues) (j now : ℕ) (r : Job) → IsLegalJob queues j r → IsLegalJob queues j (at_moment now r)
legal_at queues j now r fine = at_either (IsLegalJob queues j) now r fine (λ late. record { id = fine.id; queue = fine.queue; phase = tt; size = fine.size })

-- ## The effect of a moment on a table

-- A table without late jobs does not change.
pub none_late : (now : ℕ) (jobs : Jobs) → ((j : ℕ) (r : Job) → finite.get jobs j ≡ Some r → is_late now r ≡ false) → change_jobs (at_moment now) jobs ≡ jobs
none_late now jobs timely = none_changed (at_moment now) jobs (λ j r there. at_kept now r (timely j r there))

-- Canceling a late job first does not change the result.
pub late_canceled : (now : ℕ) (s : State) (j : ℕ) (r : Job) → job_at s j ≡ Some r → is_late now r ≡ true → change_jobs (at_moment now) (change_job s j (ended Canceled)).jobs ≡ change_jobs (at_moment now) s.jobs
late_canceled now s j r there late =
    ap (λ o. change_jobs (at_moment now) (change_found s j (ended Canceled) o).jobs) there
    ∙ changed_insert (at_moment now) s.jobs j (ended Canceled r)
    ∙ insert_same (change_jobs (at_moment now) s.jobs) j (ended Canceled r) (job_changed (at_moment now) s.jobs j ∙ ap (option_map (at_moment now)) there ∙ ap Some (at_late now r late))

-- The job after the clock event.
pub clock_job : (s : State) (now j : ℕ) (o : Option Job) → job_at s j ≡ o → job_at (at_clock now s) j ≡ option_map (at_moment now) o
clock_job s now j o there = job_changed (at_moment now) s.jobs j ∙ ap (option_map (at_moment now)) there

-- A legal table is legal after all its jobs were changed for the moment.
pub legal_moment : (s : State) (now then : ℕ) → IsLegal s → IsLegal (record s { jobs = change_jobs (at_moment now) s.jobs; moment = then })
legal_moment s now then legal = record {
  few_queues = legal.few_queues;
  names = legal.names;
  in_order = legal.in_order;
  numbers = λ j lt. job_changed (at_moment now) s.jobs j ∙ ap (option_map (at_moment now)) (legal.numbers j lt);
  jobs = λ j x there.
      let before = changed_from (at_moment now) s.jobs j x there in
      subst (IsLegalJob s.queues j) before.2 (legal_at s.queues j now before.0 (legal.jobs j before.0 before.1));
  one_processing = λ j k x y at_j at_k same busy busy_too.
      let r = changed_from (at_moment now) s.jobs j x at_j in
      let q = changed_from (at_moment now) s.jobs k y at_k in
      legal.one_processing j k r.0 q.0 r.1 q.1
      (sym (at_queue now r.0) ∙ ap (λ (z : Job). z.queue) r.2 ∙ same ∙ sym (ap (λ (z : Job). z.queue) q.2) ∙ at_queue now q.0)
      (sym (at_processing now r.0) ∙ ap (λ (z : Job). is_processing z.phase) r.2 ∙ busy)
      (sym (at_processing now q.0) ∙ ap (λ (z : Job). is_processing z.phase) q.2 ∙ busy_too);
}

-- A job is late by its phase and its moment.
pub late_from : (now by : ℕ) (r : Job) → is_waiting r.phase ≡ true → r.by ≡ Some by → by < now → is_late now r ≡ true
late_from now by r waits is lt = and_from (is_waiting r.phase) (is_passed now r.by) waits (ap (is_passed now) is ∙ passed by now lt)
  where
    passed : (a b : ℕ) → a < b → nat_lt a b ≡ true
    passed a b lt = grind (arith, nat_tests)

pub late_moment : (now : ℕ) (r : Job) → is_late now r ≡ true → (by : ℕ) × (is_waiting r.phase ≡ true) × (r.by ≡ Some by) × (by < now)
late_moment now r late =
    let parts = and_parts (is_waiting r.phase) (is_passed now r.by) late in
    by_moment r.by refl parts.0 parts.1
  where
    below : (a b : ℕ) → nat_lt a b ≡ true → a < b
    below a b lt = grind (arith, nat_tests)

    by_moment : (o : Option ℕ) → r.by ≡ o → is_waiting r.phase ≡ true → is_passed now o ≡ true → (by : ℕ) × (is_waiting r.phase ≡ true) × (r.by ≡ Some by) × (by < now)
    by_moment None is waits passed = absurd (cc)
    by_moment (Some by) is waits passed = (by, waits, is, below by now passed)
