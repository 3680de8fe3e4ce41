-- A queue's part of a table loses the attempts of the queue's jobs like the table: by the end of a stage, by the loss
-- of an attempt, and by a reopening.
use Rattle.std.proofs.Common.{◌≡◌, inl, inr, ℕ, Bool, true, false, cond, List, Some, None, Option, IsSome, refl, sym, ap, subst, ◌∙◌, arith}
use Rattle.std.specs.Prelude.{nat_eq}
use Rattle.std.specs.Ordering.{nat_cmp, eq_by_cmp}
use Rattle.std.specs.Cmp.{nat_cmp_total}
use Rattle.std.specs.Cmp.Lexicographic.{pointwise, bytes_decides}
use Rattle.std.specs.FinMap as finite
use Rattle.std.proofs.lemmas.Bool.{both_ways, false_from_ne_true}
use Rattle.spool_types.specs.declared.effect.Effect.{Effect}
use Rattle.spool_types.specs.declared.rows.QueueRow.{QueueRow}
use Rattle.spool_types.specs.Busy.{is_of}
use Rattle.spool_types.specs.Phases.{is_processing}
use Rattle.spool_types.specs.State.{State, Job, queue_at, job_at}
use Rattle.backend_codes.specs.declared.verdicts.Verdict.{Verdict}
use Rattle.row_effects.specs.EffectFold.{queue_after}
use Rattle.job_table.specs.Apart.{IsPart, own_of, is_own_job}
use Rattle.job_table.specs.Attempts.{ruled, rule, rule_by, rule_found, rule_at, stops_queue, lost_by, reopened, with_pages, with_effects}
use Rattle.job_table.specs.EventChanges.{with_stopped, change_found, change_job, change_own_queue}
use Rattle.job_table.specs.Legal.{IsLegal}
use Rattle.job_table.specs.Losses.{IsSameButStopped}
use Rattle.job_table.proofs.Changes.{some_same, same_itself, changed_there, change_own_other}
use Rattle.job_table.proofs.Part.{of_both, some_unless_none, own_some, own_none, own_queue, none_own, part_there, part_queue, part_put, part_put_other, part_named, part_named_other, part_change, part_change_other, part_change_queue, part_change_queue_other}
use Rattle.job_table.proofs.PartNext.{of_part}
use Rattle.job_table.proofs.Reopened.{NoneStops, reopened_onward, reopened_lost, reopened_others, reopened_counts}
use Rattle.job_table.proofs.Rules.{ruled_queue}

-- A job of the queue exists.
abbrev pub HasOwn : List ℕ → State → ℕ → Type 0
HasOwn name s j = (x : Job) × (job_at s j ≡ Some x) × (is_of name x ≡ true)

module _ (name : List ℕ) where
  own_ruled : (now interval : ℕ) (v : Verdict) (r : Job) (b : Bool) → is_of name r ≡ b → is_of name (ruled now interval v r) ≡ b
  own_ruled now interval v r b is = own_queue name r (ruled now interval v r) (ruled_queue now interval v r) b is

  -- ## A verdict

  module _ (s t : State) (part : IsPart name s t) (legal : IsLegal s) where
    stopped_both : (q : QueueRow) (x y : finite.FinMap nat_cmp Job) → pointwise nat_eq q.name name ≡ true
        → IsPart name (record s { jobs = x }) (record t { jobs = y })
        → (b : Bool)
        → IsPart name (record s { queues = cond b (finite.insert s.queues q.name (with_stopped true q)) s.queues; jobs = x }) (record t { queues = cond b (finite.insert t.queues q.name (with_stopped true q)) t.queues; jobs = y })
    stopped_both q x y named jobs true = part_named name (record s { jobs = x }) (record t { jobs = y }) jobs q.name (with_stopped true q) named
    stopped_both q x y named jobs false = jobs

    part_ruled : (q : QueueRow) (v : Verdict) (r : Job) → pointwise nat_eq q.name name ≡ true → is_of name r ≡ true → IsPart name (rule s q v r) (rule t q v r)
    part_ruled q v r named own =
        subst (λ m. IsPart name (rule s q v r) (record t { queues = cond (stops_queue v) (finite.insert t.queues q.name (with_stopped true q)) t.queues; jobs = finite.insert t.jobs r.id (ruled m q.interval v r) })) (sym part.moment)
        (stopped_both q (finite.insert s.jobs r.id (ruled s.moment q.interval v r)) (finite.insert t.jobs r.id (ruled s.moment q.interval v r)) named
        (part_put name s t part r.id (ruled s.moment q.interval v r) s.highest t.highest part.highest (own_ruled s.moment q.interval v r true own))
        (stops_queue v))

    pub part_rule : (j : ℕ) (verdict : Job → QueueRow → Verdict) (r : Job) → job_at s j ≡ Some r → is_of name r ≡ true → IsPart name (rule_at s j verdict) (rule_at t j verdict)
    part_rule j verdict r there own =
        of_both (λ a b. IsPart name (rule_found s verdict a) (rule_found t verdict b)) _ _ (Some r) (Some r) there (part_there name s t part j r there own)
        (subst (λ o. IsPart name (rule_by s (verdict r) r (queue_at s r.queue)) (rule_by t (verdict r) r o)) (sym (part_queue name s t part r.queue own)) (by_queue (queue_at s r.queue) refl))
      where
        by_queue : (o : Option QueueRow) → queue_at s r.queue ≡ o → IsPart name (rule_by s (verdict r) r o) (rule_by t (verdict r) r o)
        by_queue None at = part
        by_queue (Some q) at = part_ruled q (verdict r q) r (ap (λ (n : List ℕ). pointwise nat_eq n name) (legal.names r.queue q at) ∙ own) own

    pub part_rule_other : (j : ℕ) (verdict : Job → QueueRow → Verdict) → is_own_job name (job_at s j) ≡ false → IsPart name (rule_at s j verdict) t
    part_rule_other j verdict other = by_job (job_at s j) refl
      where
        by_stop : (q : QueueRow) (x : finite.FinMap nat_cmp Job) → pointwise nat_eq q.name name ≡ false → IsPart name (record s { jobs = x }) t → (b : Bool)
            → IsPart name (record s { queues = cond b (finite.insert s.queues q.name (with_stopped true q)) s.queues; jobs = x }) t
        by_stop q x named jobs true = part_named_other name (record s { jobs = x }) t jobs q.name (with_stopped true q) named
        by_stop q x named jobs false = jobs

        by_queue : (r : Job) → job_at s j ≡ Some r → is_of name r ≡ false → (o : Option QueueRow) → queue_at s r.queue ≡ o → IsPart name (rule_by s (verdict r) r o) t
        by_queue r there apart None at = part
        by_queue r there apart (Some q) at =
            let x : Job = ruled s.moment q.interval (verdict r q) r in
            by_stop q (finite.insert s.jobs r.id x) (ap (λ (n : List ℕ). pointwise nat_eq n name) (legal.names r.queue q at) ∙ apart)
            (part_put_other name s t part r.id x s.highest part.highest (ap (λ n. own_of name (job_at s n)) ((legal.jobs j r there).id) ∙ none_own name _ other) (own_ruled s.moment q.interval (verdict r q) r false apart))
            (stops_queue (verdict r q))

        by_job : (o : Option Job) → job_at s j ≡ o → IsPart name (rule_found s verdict o) t
        by_job None there = part
        by_job (Some r) there = by_queue r there (sym (ap (is_own_job name) there) ∙ other) (queue_at s r.queue) refl

    pub rule_own : (j : ℕ) (verdict : Job → QueueRow → Verdict) (r : Job) → job_at s j ≡ Some r → is_of name r ≡ true → HasOwn name (rule_at s j verdict) j
    rule_own j verdict r there own = subst (λ o. HasOwn name (rule_found s verdict o) j) (sym there) (by_queue (queue_at s r.queue))
      where
        by_queue : (o : Option QueueRow) → HasOwn name (rule_by s (verdict r) r o) j
        by_queue None = (r, there, own)
        by_queue (Some q) =
            let x : Job = ruled s.moment q.interval (verdict r q) r in (
              x,
              finite.get-insert nat_cmp_total s.jobs r.id x j ∙ ap (λ b. cond b (Some x) (finite.get s.jobs j)) (ap (eq_by_cmp nat_cmp j) ((legal.jobs j r there).id) ∙ same_itself j),
              own_ruled s.moment q.interval (verdict r q) r true own,
            )

  -- ## Effects

  module _ (s t : State) (part : IsPart name s t) (j : ℕ) (effects : List Effect) where
    abbrev s1 : State
    s1 = change_job s j (with_pages effects)

    abbrev t1 : State
    t1 = change_job t j (with_pages effects)

    pub effects_own : (r : Job) → job_at s j ≡ Some r → job_at (with_effects s j effects) j ≡ Some (with_pages effects r)
    effects_own r there = change_own_other s1 (queue_after effects) j (job_at s1 j) ∙ changed_there s j (with_pages effects) r there

    pub part_effects : (r : Job) → job_at s j ≡ Some r → is_of name r ≡ true → IsPart name (with_effects s j effects) (with_effects t j effects)
    part_effects r there own =
        let first : IsPart name s1 t1 = part_change name s t part j (with_pages effects) r there own refl in
        of_both (λ a b. IsPart name (change_own_queue s1 (queue_after effects) a) (change_own_queue t1 (queue_after effects) b)) _ _ (Some (with_pages effects r)) (Some (with_pages effects r))
        (changed_there s j (with_pages effects) r there)
        (changed_there t j (with_pages effects) r (part_there name s t part j r there own))
        (part_change_queue name s1 t1 first r.queue (queue_after effects) own)

    pub part_effects_other : is_own_job name (job_at s j) ≡ false → IsPart name (with_effects s j effects) t × (is_own_job name (job_at (with_effects s j effects) j) ≡ false)
    part_effects_other other = by_job (job_at s j) refl
      where
        first : IsPart name s1 t
        first = part_change_other name s t part j (with_pages effects) other (λ r. refl)

        by_job : (o : Option Job) → job_at s j ≡ o → IsPart name (with_effects s j effects) t × (is_own_job name (job_at (with_effects s j effects) j) ≡ false)
        by_job None there =
            let still : s1 ≡ s = ap (change_found s j (with_pages effects)) there in
            let none : job_at s1 j ≡ None = ap (λ (u : State). job_at u j) still ∙ there in (
              subst (λ o. IsPart name (change_own_queue s1 (queue_after effects) o) t) (sym none) first,
              ap (is_own_job name) (change_own_other s1 (queue_after effects) j (job_at s1 j) ∙ none),
            )
        by_job (Some r) there =
            let apart : is_of name r ≡ false = sym (ap (is_own_job name) there) ∙ other in (
              subst (λ o. IsPart name (change_own_queue s1 (queue_after effects) o) t) (sym (changed_there s j (with_pages effects) r there))
                  (part_change_queue_other name s1 t first r.queue (queue_after effects) apart),
              ap (is_own_job name) (effects_own r there) ∙ apart,
            )

-- ## A reopening

-- Two rows that may have been stopped are equal if both or neither are stopped.
same_but_stopped : (q x y : QueueRow) → IsSameButStopped q x → IsSameButStopped q y → y.stopped ≡ x.stopped → y ≡ x
same_but_stopped q x y first second alike =
    ap (λ (p : QueueRow). record p { stopped = y.stopped }) second.same
    ∙ ap (λ b. record q { stopped = b }) alike
    ∙ sym (ap (λ (p : QueueRow). record p { stopped = x.stopped }) first.same)

-- The row of a queue after a reopening.
module _ (s : State) (legal : IsLegal s) (name : List ℕ) (q p : QueueRow) (before : queue_at s name ≡ Some q) (after : queue_at (reopened s) name ≡ Some p) where
  -- If the queue is not stopped, no policy stops it.
  none_stops : p.stopped ≡ false → NoneStops s name q
  none_stops runs j r there of busy = false_from_ne_true (stops_queue (lost_by r q)) (λ stops.
      let lost = reopened_lost s legal j r q (record { there = there; queue = ap (queue_at s) of ∙ before; processing = busy }) in
      both_ways _ runs (lost.queue stops p (ap (queue_at (reopened s)) of ∙ after)))

  -- If no policy stops it, the row is unchanged.
  row_kept : NoneStops s name q → q.stopped ≡ p.stopped
  row_kept none = ap (λ (x : QueueRow). x.stopped) (some_same q p (sym ((reopened_onward s legal).unstopped name q before none) ∙ after))

module _ (name : List ℕ) (s t : State) (part : IsPart name s t) (legal : IsLegal s) (legal_part : IsLegal t) where
  same_row : (q : QueueRow) → queue_at s name ≡ Some q → queue_at (reopened t) name ≡ queue_at (reopened s) name
  same_row q at =
      let in_s = (reopened_onward s legal).queues name q at in
      let in_t = (reopened_onward t legal_part).queues name q (part.queue ∙ at) in
      of_rows in_s.0 in_t.0 in_s.1 in_t.1 in_s.2 in_t.2 (in_s.0).stopped (in_t.0).stopped refl refl
    where
      of_rows : (x y : QueueRow) → queue_at (reopened s) name ≡ Some x → queue_at (reopened t) name ≡ Some y → IsSameButStopped q x → IsSameButStopped q y
          → (a b : Bool) → x.stopped ≡ a → y.stopped ≡ b → queue_at (reopened t) name ≡ queue_at (reopened s) name
      of_rows x y row_s row_t same_s same_t true true first second = row_t ∙ ap Some (same_but_stopped q x y same_s same_t (second ∙ sym first)) ∙ sym row_s
      of_rows x y row_s row_t same_s same_t false false first second = row_t ∙ ap Some (same_but_stopped q x y same_s same_t (second ∙ sym first)) ∙ sym row_s
      of_rows x y row_s row_t same_s same_t true false first second =
          let none = none_stops t legal_part name q y (part.queue ∙ at) row_t second in
          let none_whole : NoneStops s name q = λ j r there of busy. none j r (part_there name s t part j r there ((bytes_decides r.queue name).1 of)) of busy in
          absurd (both_ways _ second (same_t.stays (row_kept s legal name q x at row_s none_whole ∙ first)))
      of_rows x y row_s row_t same_s same_t false true first second =
          let none = none_stops s legal name q x at row_s first in
          let none_part : NoneStops t name q = λ j r there of busy. none j r (of_part name s t part legal legal_part j r there).0 of busy in
          absurd (both_ways _ first (same_s.stays (row_kept t legal_part name q y (part.queue ∙ at) row_t none_part ∙ second)))

  reopened_row : queue_at (reopened t) name ≡ queue_at (reopened s) name
  reopened_row = by_queue (queue_at s name) refl
    where
      by_queue : (o : Option QueueRow) → queue_at s name ≡ o → queue_at (reopened t) name ≡ queue_at (reopened s) name
      by_queue None at = (reopened_onward t legal_part).no_queue name (part.queue ∙ at) ∙ sym ((reopened_onward s legal).no_queue name at)
      by_queue (Some q) at = same_row q at

  reopened_job : (k : ℕ) → job_at (reopened t) k ≡ own_of name (job_at (reopened s) k)
  reopened_job k = by_job (job_at s k) refl
    where
      of_queue : (r : Job) → job_at s k ≡ Some r → is_of name r ≡ true → is_processing r.phase ≡ true → (o : Option QueueRow) → queue_at s r.queue ≡ o → job_at (reopened t) k ≡ own_of name (job_at (reopened s) k)
      of_queue r at own busy None none = absurd (some_unless_none _ none ((legal.jobs k r at).queue))
      of_queue r at own busy (Some q) queue =
          let x : Job = ruled s.moment q.interval (lost_by r q) r in
          (reopened_lost t legal_part k r q (record { there = part_there name s t part k r at own; queue = part_queue name s t part r.queue own ∙ queue; processing = busy })).job
          ∙ ap (λ m. Some (ruled m q.interval (lost_by r q) r)) part.moment
          ∙ sym (ap (own_of name) (reopened_lost s legal k r q (record { there = at; queue = queue; processing = busy })).job ∙ own_some name x (own_ruled name s.moment q.interval (lost_by r q) r true own))

      of_phase : (r : Job) → job_at s k ≡ Some r → is_of name r ≡ true → (b : Bool) → is_processing r.phase ≡ b → job_at (reopened t) k ≡ own_of name (job_at (reopened s) k)
      of_phase r at own false idle =
          reopened_others t legal_part k r (part_there name s t part k r at own) idle
          ∙ sym (ap (own_of name) (reopened_others s legal k r at idle) ∙ own_some name r own)
      of_phase r at own true busy = of_queue r at own busy (queue_at s r.queue) refl

      of_own : (r : Job) → job_at s k ≡ Some r → (b : Bool) → is_of name r ≡ b → job_at (reopened t) k ≡ own_of name (job_at (reopened s) k)
      of_own r at true own = of_phase r at own (is_processing r.phase) refl
      of_own r at false other =
          (reopened_onward t legal_part).absent k (part.jobs k ∙ ap (own_of name) at ∙ own_none name r other)
          ∙ sym (elim ((reopened_onward s legal).jobs k r at) [
            | inl same ↦ ap (own_of name) same ∙ own_none name r other
            | inr lost ↦ ap (own_of name) lost.2.job ∙ own_none name _ (own_ruled name s.moment (lost.0).interval (lost_by r lost.0) r false other)
          ])

      by_job : (o : Option Job) → job_at s k ≡ o → job_at (reopened t) k ≡ own_of name (job_at (reopened s) k)
      by_job None at = (reopened_onward t legal_part).absent k (part.jobs k ∙ ap (own_of name) at) ∙ sym (ap (own_of name) ((reopened_onward s legal).absent k at))
      by_job (Some r) at = of_own r at (is_of name r) refl

  pub part_reopened : IsPart name (reopened s) (reopened t)
  part_reopened = record {
    queue = reopened_row;
    only = λ other there. by_queue other (queue_at t other) refl there;
    jobs = reopened_job;
    moment = (reopened_counts t).1 ∙ part.moment ∙ sym (reopened_counts s).1;
    version = (reopened_counts t).2 ∙ part.version ∙ sym (reopened_counts s).2;
    highest = let whole = (reopened_counts s).0 in let own = (reopened_counts t).0 in let most = part.highest in omega (arith, whole, own, most);
  }
    where
      by_queue : (other : List ℕ) (o : Option QueueRow) → queue_at t other ≡ o → IsSome (queue_at (reopened t) other) → other ≡ name
      by_queue other None none there = absurd (some_unless_none _ ((reopened_onward t legal_part).no_queue other none) there)
      by_queue other (Some q) at there = part.only other (subst IsSome (sym at) refl)
