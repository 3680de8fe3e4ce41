-- A queue's part of a table stays its part after the same change of both, and after a change of other queues in the
-- table.
use Rattle.std.proofs.Common.{◌≡◌, ℕ, ◌≤◌, Bool, true, false, cond, List, Some, None, Option, IsSome, refl, sym, ap, subst, ◌∙◌}
use Rattle.std.specs.Prelude.{nat_eq}
use Rattle.std.specs.Option.{option_map}
use Rattle.std.specs.Ordering.{nat_cmp, eq_by_cmp}
use Rattle.std.specs.Cmp.{nat_cmp_total}
use Rattle.std.specs.Cmp.Lexicographic.{slice_cmp, nat_list_cmp_total, pointwise, bytes_decides}
use Rattle.std.specs.FinMap as finite
use Rattle.std.proofs.lemmas.Bool.{both_ways}
use Rattle.std.proofs.lemmas.Map.Lookups.{exact_bytes}
use Rattle.std.proofs.lemmas.Map.Views.{tells_apart}
use Rattle.spool_types.specs.declared.rows.QueueRow.{QueueRow}
use Rattle.spool_types.specs.Busy.{is_of}
use Rattle.spool_types.specs.State.{State, Job, queue_at, job_at}
use Rattle.job_table.specs.Apart.{IsPart, own_of, is_own_job}
use Rattle.job_table.specs.EventChanges.{at_moment, at_clock, change_found, change_job, change_found_queue, change_queue}
use Rattle.job_table.proofs.Changes.{same_number}
use Rattle.job_table.proofs.Clocked.{at_queue, clock_job}

-- A relation between two values is also true for equal values.
pub of_both : {X : Type 0} (P : X → X → Type 0) (a b c d : X) → a ≡ c → b ≡ d → P c d → P a b
of_both P a b c d first second holds = subst (λ x. P x b) (sym first) (subst (λ y. P c y) (sym second) holds)

pub some_unless_none : {X : Type 0} (o : Option X) → o ≡ None → IsSome o → ⊥
some_unless_none None e there = absurd (cc)
some_unless_none (Some x) e there = absurd (cc)

module _ (name : List ℕ) where
  pub own_some : (r : Job) → is_of name r ≡ true → own_of name (Some r) ≡ Some r
  own_some r own = ap (λ b. cond b (Some r) None) own

  pub own_none : (r : Job) → is_of name r ≡ false → own_of name (Some r) ≡ None
  own_none r other = ap (λ b. cond b (Some r) None) other

  pub same_name : (other : List ℕ) → pointwise nat_eq other name ≡ true → other ≡ name
  same_name other e = (bytes_decides other name).0 e

  pub own_queue : (r x : Job) → x.queue ≡ r.queue → (b : Bool) → is_of name r ≡ b → is_of name x ≡ b
  own_queue r x same b is = ap (λ (n : List ℕ). pointwise nat_eq n name) same ∙ is

  -- A job that the event names and that belongs to the queue.
  pub own_job : (o : Option Job) → is_own_job name o ≡ true → (r : Job) × (o ≡ Some r) × (is_of name r ≡ true)
  own_job None own = absurd (cc)
  own_job (Some r) own = (r, refl, own)

  pub none_own : (o : Option Job) → is_own_job name o ≡ false → own_of name o ≡ None
  none_own None other = refl
  none_own (Some r) other = own_none r other

  other_name : (k : List ℕ) → pointwise nat_eq k name ≡ false → eq_by_cmp (slice_cmp nat_cmp) name k ≡ false
  other_name k other = either (eq_by_cmp (slice_cmp nat_cmp) name k) refl
    where
      either : (b : Bool) → eq_by_cmp (slice_cmp nat_cmp) name k ≡ b → b ≡ false
      either false e = refl
      either true e = absurd (both_ways _ other ((bytes_decides k name).1 (sym (tells_apart exact_bytes name k e))))

  module _ (s t : State) (part : IsPart name s t) where
    pub part_there : (j : ℕ) (r : Job) → job_at s j ≡ Some r → is_of name r ≡ true → job_at t j ≡ Some r
    part_there j r there own = part.jobs j ∙ ap (own_of name) there ∙ own_some r own

    pub part_queue : (k : List ℕ) → pointwise nat_eq k name ≡ true → queue_at t k ≡ queue_at s k
    part_queue k own = ap (queue_at t) (same_name k own) ∙ part.queue ∙ sym (ap (queue_at s) (same_name k own))

    -- ## Jobs

    put_both : (j : ℕ) (x : Job) → is_of name x ≡ true → (k : ℕ) → finite.get (finite.insert t.jobs j x) k ≡ own_of name (finite.get (finite.insert s.jobs j x) k)
    put_both j x own k =
        finite.get-insert nat_cmp_total t.jobs j x k ∙ either (eq_by_cmp nat_cmp k j) ∙ sym (ap (own_of name) (finite.get-insert nat_cmp_total s.jobs j x k))
      where
        either : (b : Bool) → cond b (Some x) (finite.get t.jobs k) ≡ own_of name (cond b (Some x) (finite.get s.jobs k))
        either true = sym (own_some x own)
        either false = part.jobs k

    put_one : (j : ℕ) (x : Job) → own_of name (job_at s j) ≡ None → is_of name x ≡ false → (k : ℕ) → finite.get t.jobs k ≡ own_of name (finite.get (finite.insert s.jobs j x) k)
    put_one j x before other k =
        either (eq_by_cmp nat_cmp k j) refl ∙ sym (ap (own_of name) (finite.get-insert nat_cmp_total s.jobs j x k))
      where
        either : (b : Bool) → eq_by_cmp nat_cmp k j ≡ b → finite.get t.jobs k ≡ own_of name (cond b (Some x) (finite.get s.jobs k))
        either true same = part.jobs k ∙ ap (λ n. own_of name (job_at s n)) (same_number j k same) ∙ before ∙ sym (own_none x other)
        either false same = part.jobs k

    pub part_put : (j : ℕ) (x : Job) (h g : ℕ) → g ≤ h → is_of name x ≡ true → IsPart name (record s { jobs = finite.insert s.jobs j x; highest = h }) (record t { jobs = finite.insert t.jobs j x; highest = g })
    part_put j x h g most own = record { queue = part.queue; only = part.only; jobs = put_both j x own; moment = part.moment; version = part.version; highest = most }

    pub part_put_other : (j : ℕ) (x : Job) (h : ℕ) → t.highest ≤ h → own_of name (job_at s j) ≡ None → is_of name x ≡ false → IsPart name (record s { jobs = finite.insert s.jobs j x; highest = h }) t
    part_put_other j x h most before other = record { queue = part.queue; only = part.only; jobs = put_one j x before other; moment = part.moment; version = part.version; highest = most }

    pub part_without : (j : ℕ) → IsPart name (record s { jobs = finite.remove s.jobs j }) (record t { jobs = finite.remove t.jobs j })
    part_without j = record { queue = part.queue; only = part.only; jobs = left; moment = part.moment; version = part.version; highest = part.highest }
      where
        either : (k : ℕ) (b : Bool) → cond b None (finite.get t.jobs k) ≡ own_of name (cond b None (finite.get s.jobs k))
        either k true = refl
        either k false = part.jobs k

        left : (k : ℕ) → finite.get (finite.remove t.jobs j) k ≡ own_of name (finite.get (finite.remove s.jobs j) k)
        left k =
            finite.get-remove nat_cmp_total t.jobs j k ∙ either k (eq_by_cmp nat_cmp k j) ∙ sym (ap (own_of name) (finite.get-remove nat_cmp_total s.jobs j k))

    pub part_without_other : (j : ℕ) → is_own_job name (job_at s j) ≡ false → IsPart name (record s { jobs = finite.remove s.jobs j }) t
    part_without_other j other = record { queue = part.queue; only = part.only; jobs = left; moment = part.moment; version = part.version; highest = part.highest }
      where
        either : (k : ℕ) (b : Bool) → eq_by_cmp nat_cmp k j ≡ b → finite.get t.jobs k ≡ own_of name (cond b None (finite.get s.jobs k))
        either k true same = part.jobs k ∙ ap (λ n. own_of name (job_at s n)) (same_number j k same) ∙ none_own (job_at s j) other
        either k false apart = part.jobs k

        left : (k : ℕ) → finite.get t.jobs k ≡ own_of name (finite.get (finite.remove s.jobs j) k)
        left k = either k (eq_by_cmp nat_cmp k j) refl ∙ sym (ap (own_of name) (finite.get-remove nat_cmp_total s.jobs j k))

    -- ## Queues

    pub part_name : (x : QueueRow) → IsPart name (record s { queues = finite.insert s.queues name x }) (record t { queues = finite.insert t.queues name x })
    part_name x = record {
      queue =
          finite.get-insert nat_list_cmp_total t.queues name x name
          ∙ ap (cond (eq_by_cmp (slice_cmp nat_cmp) name name) (Some x)) part.queue
          ∙ sym (finite.get-insert nat_list_cmp_total s.queues name x name);
      only = λ other there. either other (eq_by_cmp (slice_cmp nat_cmp) other name) refl (subst IsSome (finite.get-insert nat_list_cmp_total t.queues name x other) there);
      jobs = part.jobs;
      moment = part.moment;
      version = part.version;
      highest = part.highest;
    }
      where
        either : (other : List ℕ) (b : Bool) → eq_by_cmp (slice_cmp nat_cmp) other name ≡ b → IsSome (cond b (Some x) (queue_at t other)) → other ≡ name
        either other true same there = tells_apart exact_bytes other name same
        either other false same there = part.only other there

    pub part_named : (k : List ℕ) (x : QueueRow) → pointwise nat_eq k name ≡ true → IsPart name (record s { queues = finite.insert s.queues k x }) (record t { queues = finite.insert t.queues k x })
    part_named k x own = subst (λ n. IsPart name (record s { queues = finite.insert s.queues n x }) (record t { queues = finite.insert t.queues n x })) (sym (same_name k own)) (part_name x)

    pub part_named_other : (k : List ℕ) (x : QueueRow) → pointwise nat_eq k name ≡ false → IsPart name (record s { queues = finite.insert s.queues k x }) t
    part_named_other k x other = record {
      queue = part.queue ∙ sym (finite.get-insert nat_list_cmp_total s.queues k x name ∙ ap (λ b. cond b (Some x) (queue_at s name)) (other_name k other));
      only = part.only;
      jobs = part.jobs;
      moment = part.moment;
      version = part.version;
      highest = part.highest;
    }

    -- ## The clock

    pub part_clock : (m n : ℕ) → n ≡ m → IsPart name (at_clock m s) (at_clock n t)
    part_clock m n same = record {
      queue = part.queue;
      only = part.only;
      jobs = λ j.
          clock_job t n j _ (part.jobs j)
          ∙ ap (λ k. option_map (at_moment k) (own_of name (job_at s j))) same
          ∙ own_at m (job_at s j)
          ∙ sym (ap (own_of name) (clock_job s m j _ refl));
      moment = same;
      version = part.version;
      highest = part.highest;
    }
      where
        own_at : (now : ℕ) (o : Option Job) → option_map (at_moment now) (own_of name o) ≡ own_of name (option_map (at_moment now) o)
        own_at now None = refl
        own_at now (Some r) = either (is_of name r) refl
          where
            either : (b : Bool) → is_of name r ≡ b → option_map (at_moment now) (cond b (Some r) None) ≡ own_of name (Some (at_moment now r))
            either true own = sym (own_some (at_moment now r) (own_queue r (at_moment now r) (at_queue now r) true own))
            either false other = sym (own_none (at_moment now r) (own_queue r (at_moment now r) (at_queue now r) false other))

    -- ## Changes

    pub part_change_queue : (k : List ℕ) (f : QueueRow → QueueRow) → pointwise nat_eq k name ≡ true → IsPart name (change_queue s k f) (change_queue t k f)
    part_change_queue k f own = subst (λ o. IsPart name (change_queue s k f) (change_found_queue t k f o)) (sym (part_queue k own)) (by_row (queue_at s k))
      where
        by_row : (o : Option QueueRow) → IsPart name (change_found_queue s k f o) (change_found_queue t k f o)
        by_row None = part
        by_row (Some q) = part_named k (f q) own

    pub part_change_queue_other : (k : List ℕ) (f : QueueRow → QueueRow) → pointwise nat_eq k name ≡ false → IsPart name (change_queue s k f) t
    part_change_queue_other k f other = by_row (queue_at s k)
      where
        by_row : (o : Option QueueRow) → IsPart name (change_found_queue s k f o) t
        by_row None = part
        by_row (Some q) = part_named_other k (f q) other

    pub part_change : (j : ℕ) (f : Job → Job) (r : Job) → job_at s j ≡ Some r → is_of name r ≡ true → (f r).queue ≡ r.queue → IsPart name (change_job s j f) (change_job t j f)
    part_change j f r there own same =
        of_both (λ a b. IsPart name (change_found s j f a) (change_found t j f b)) _ _ (Some r) (Some r) there (part_there j r there own)
        (part_put j (f r) s.highest t.highest part.highest (own_queue r (f r) same true own))

    pub part_change_other : (j : ℕ) (f : Job → Job) → is_own_job name (job_at s j) ≡ false → ((r : Job) → (f r).queue ≡ r.queue) → IsPart name (change_job s j f) t
    part_change_other j f other same = by_job (job_at s j) refl
      where
        by_job : (o : Option Job) → job_at s j ≡ o → IsPart name (change_found s j f o) t
        by_job None there = part
        by_job (Some r) there =
            let apart : is_of name r ≡ false = sym (ap (is_own_job name) there) ∙ other in
            part_put_other j (f r) s.highest part.highest (none_own _ other) (own_queue r (f r) (same r) false apart)
