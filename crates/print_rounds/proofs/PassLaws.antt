-- An attempt continues with its next stage only after a child that ended with 0.
use Rattle.std.proofs.Common.{◌≡◌, ℕ, Bool, true, false, cond, not, ◌&&◌, ◌==◌, List, [], ◌∷◌, Option, Some, None, refl, sym, ap, ◌∙◌}
use Rattle.std.specs.FinMap as finite
use Rattle.std.specs.Prelude.{is_none, nat_le}
use Rattle.std.specs.Cmp.{eq_by_cmp_equiv, nat_cmp_total}
use Rattle.std.specs.Cmp.Lexicographic.{nat_list_cmp_total}
use Rattle.std.proofs.lemmas.Bool.{eqb-true}
use Rattle.spool_types.specs.declared.effect.Exit.{Exit}
use Rattle.spool_types.specs.declared.effect.Exit.TheVariants.{Code, Signal, NoStart, Lost}
use Rattle.spool_types.specs.declared.event.Event.TheVariants.{Stage}
use Rattle.spool_types.specs.declared.event.StageEnd.{StageEnd}
use Rattle.spool_types.specs.declared.phase.AbortReason.{AbortReason}
use Rattle.spool_types.specs.declared.phase.AbortReason.TheVariants as aborts
use Rattle.spool_types.specs.declared.phase.Policy.{Policy}
use Rattle.spool_types.specs.declared.phase.Policy.TheVariants.{AbortJob, RetryJob, RetryCurrentJob, StopPrinter}
use Rattle.spool_types.specs.declared.refusal.Refusal.{Refusal}
use Rattle.spool_types.specs.declared.refusal.Refusal.TheVariants.{NoJob, JobEnded, NotProcessing, WrongStage}
use Rattle.spool_types.specs.declared.rows.QueueRow.{QueueRow}
use Rattle.spool_types.specs.Limits.{greatest_attempts}
use Rattle.spool_types.specs.Phases.{has_ended, is_processing}
use Rattle.spool_types.specs.State.{State, Job, Jobs, Queues, job_at, queue_at}
use Rattle.backend_codes.specs.declared.verdicts.Verdict.{Verdict}
use Rattle.backend_codes.specs.declared.verdicts.Verdict.TheVariants as verdicts
use Rattle.backend_codes.specs.Verdicts.{by_policy, filter_exit, backend_exit, limited, unless_spent, verdict_of}
use Rattle.row_effects.specs.EffectFold.{queue_after}
use Rattle.job_table.specs.Attempts.{is_in_stage, with_pages, with_effects, rule, rule_by, rule_found, ruled, stage_verdict, is_last_stage}
use Rattle.job_table.specs.EventChanges.{change_found, change_own_queue, change_found_queue, change_queue_of}
use Rattle.job_table.specs.Legal.{IsLegal}
use Rattle.job_table.specs.Shapes.{passes}
use Rattle.job_table.specs.Step.{after, first_cause, phase_found, refusal_of}

-- ## The verdict

abbrev is_next : Verdict → Bool
is_next verdicts.NextStage = true
is_next v = false

neither : (b : Bool) (x y : Verdict) → is_next x ≡ false → is_next y ≡ false → is_next (cond b x y) ≡ false
neither true x y first second = first
neither false x y first second = second

spent_ends : (attempts : ℕ) (v : Verdict) → is_next v ≡ false → is_next (unless_spent attempts v) ≡ false
spent_ends attempts verdicts.NextStage ends = ends
spent_ends attempts verdicts.Completed ends = refl
spent_ends attempts (verdicts.Aborted reason) ends = refl
spent_ends attempts verdicts.Canceled ends = refl
spent_ends attempts (verdicts.Held reason) ends = neither (attempts == greatest_attempts) _ _ refl refl
spent_ends attempts verdicts.StopQueue ends = neither (attempts == greatest_attempts) _ _ refl refl
spent_ends attempts verdicts.RetryAt ends = neither (attempts == greatest_attempts) _ _ refl refl
spent_ends attempts verdicts.RetryFirst ends = neither (attempts == greatest_attempts) _ _ refl refl

limited_ends : (attempts limit : ℕ) (v : Verdict) → is_next v ≡ false → is_next (limited attempts limit v) ≡ false
limited_ends attempts limit verdicts.NextStage ends = ends
limited_ends attempts limit verdicts.Completed ends = refl
limited_ends attempts limit (verdicts.Aborted reason) ends = refl
limited_ends attempts limit verdicts.Canceled ends = refl
limited_ends attempts limit (verdicts.Held reason) ends = refl
limited_ends attempts limit verdicts.StopQueue ends = refl
limited_ends attempts limit verdicts.RetryAt ends = neither (not (limit == 0) && nat_le limit attempts) (verdicts.Aborted aborts.RetryLimit) verdicts.RetryAt refl refl
limited_ends attempts limit verdicts.RetryFirst ends = neither (not (limit == 0) && nat_le limit attempts) (verdicts.Aborted aborts.RetryLimit) verdicts.RetryFirst refl refl

policy_ends : (reason : AbortReason) (p : Policy) → is_next (by_policy reason p) ≡ false
policy_ends reason AbortJob = refl
policy_ends reason RetryJob = refl
policy_ends reason RetryCurrentJob = refl
policy_ends reason StopPrinter = refl

backend_ends : (policy : Policy) (exit : Exit) → is_next (backend_exit policy exit) ≡ false
backend_ends policy (Code code) =
    neither (code == 0) _ _ refl
    (neither (code == 2) _ _ refl
    (neither (code == 3) _ _ refl
    (neither (code == 4) _ _ refl
    (neither (code == 5) _ _ refl
    (neither (code == 6) _ _ refl
    (neither (code == 7) _ _ refl (policy_ends aborts.BackendFailed policy)))))))
backend_ends policy Signal = policy_ends aborts.BackendFailed policy
backend_ends policy NoStart = policy_ends aborts.BackendFailed policy
backend_ends policy Lost = policy_ends aborts.BackendFailed policy

never : (b : Bool) → b ≡ false → b ≡ true → ⊥
never b is_not is = cc

filter_zero : (exit : Exit) → is_next (filter_exit exit) ≡ true → exit ≡ Code 0
filter_zero (Code code) goes = by_code (code == 0) refl
  where
    by_code : (b : Bool) → (code == 0) ≡ b → Code code ≡ Code 0
    by_code true is = ap Code (eqb-true code 0 is)
    by_code false is = absurd (never (is_next (filter_exit (Code code))) (ap (λ b. is_next (cond b verdicts.NextStage (verdicts.Aborted aborts.FilterFailed))) is) goes)
filter_zero Signal goes = absurd (never false refl goes)
filter_zero NoStart goes = absurd (never false refl goes)
filter_zero Lost goes = absurd (never false refl goes)

verdict_zero : (exit : Exit) (last : Bool) (policy : Policy) (attempts limit : ℕ) → is_next (verdict_of exit last policy attempts limit) ≡ true → exit ≡ Code 0
verdict_zero exit true policy attempts limit goes =
    absurd (never (is_next (verdict_of exit true policy attempts limit)) (spent_ends attempts (limited attempts limit (backend_exit policy exit)) (limited_ends attempts limit (backend_exit policy exit) (backend_ends policy exit))) goes)
verdict_zero exit false policy attempts limit goes = by_exit (is_next (filter_exit exit)) refl
  where
    by_exit : (b : Bool) → is_next (filter_exit exit) ≡ b → exit ≡ Code 0
    by_exit true is = filter_zero exit is
    by_exit false is = absurd (never (is_next (verdict_of exit false policy attempts limit)) (spent_ends attempts (limited attempts limit (filter_exit exit)) (limited_ends attempts limit (filter_exit exit) is)) goes)

ruled_next : (now interval : ℕ) (v : Verdict) (r : Job) → is_processing (ruled now interval v r).phase ≡ true → is_next v ≡ true
ruled_next now interval verdicts.NextStage r goes = refl
ruled_next now interval verdicts.Completed r goes = absurd (never false refl goes)
ruled_next now interval (verdicts.Aborted reason) r goes = absurd (never false refl goes)
ruled_next now interval verdicts.Canceled r goes = absurd (never false refl goes)
ruled_next now interval (verdicts.Held reason) r goes = absurd (never false refl goes)
ruled_next now interval verdicts.StopQueue r goes = absurd (never false refl goes)
ruled_next now interval verdicts.RetryAt r goes = absurd (never false refl goes)
ruled_next now interval verdicts.RetryFirst r goes = absurd (never false refl goes)

-- ## The row after the end of a stage

row_put : (jobs : Jobs) (j : ℕ) (r : Job) → finite.get (finite.insert jobs j r) j ≡ Some r
row_put jobs j r = finite.get-insert nat_cmp_total jobs j r j ∙ ap (λ b. cond b (Some r) (finite.get jobs j)) ((eq_by_cmp_equiv nat_cmp_total).refl j)

queue_put : (queues : Queues) (name : List ℕ) (q : QueueRow) → finite.get (finite.insert queues name q) name ≡ Some q
queue_put queues name q = finite.get-insert nat_list_cmp_total queues name q name ∙ ap (λ b. cond b (Some q) (finite.get queues name)) ((eq_by_cmp_equiv nat_list_cmp_total).refl name)

no_first : (b : Bool) (r : Refusal) (cs : List (Bool × Refusal)) → first_cause ((b, r) ∷ cs) ≡ None → b ≡ false
no_first true r cs e = absurd (cc)
no_first false r cs e = refl

module _ (s : State) (legal : IsLegal s) (e : StageEnd) (accepted : refusal_of s (Stage e) ≡ None) where
  -- The job exists, with a queue.
  module _ (r : Job) (there : job_at s e.job ≡ Some r) (q : QueueRow) (own : queue_at s r.queue ≡ Some q) where
    abbrev paged : Job
    paged = with_pages e.effects r

    abbrev row_state : State
    row_state = record s { jobs = finite.insert s.jobs e.job paged }

    abbrev told_state : State
    told_state = record row_state { queues = finite.insert s.queues r.queue (queue_after e.effects q) }

    told_is : with_effects s e.job e.effects ≡ told_state
    told_is =
        ap (λ x. change_queue_of x e.job (queue_after e.effects)) (ap (change_found s e.job (with_pages e.effects)) there)
        ∙ ap (change_own_queue row_state (queue_after e.effects)) (row_put s.jobs e.job paged)
        ∙ ap (change_found_queue row_state r.queue (queue_after e.effects)) own

    after_is : after s (Stage e) ≡ rule told_state (queue_after e.effects q) (stage_verdict e.exit paged (queue_after e.effects q)) paged
    after_is =
        ap (λ x. rule_found x (stage_verdict e.exit) (job_at x e.job)) told_is
        ∙ ap (rule_found told_state (stage_verdict e.exit)) (row_put s.jobs e.job paged)
        ∙ ap (rule_by told_state (stage_verdict e.exit paged) paged) (queue_put s.queues r.queue (queue_after e.effects q))

    goes_of : is_processing (phase_found (job_at (after s (Stage e)) e.job)) ≡ true → e.exit ≡ Code 0
    goes_of goes =
        let noted : QueueRow = queue_after e.effects q in
        let verdict : Verdict = stage_verdict e.exit paged noted in
        let row : Job = ruled told_state.moment noted.interval verdict paged in
        let id : r.id ≡ e.job = (legal.jobs e.job r there).id in
        let at : job_at (after s (Stage e)) e.job ≡ Some row = ap (λ x. job_at x e.job) after_is ∙ ap (λ i. finite.get (finite.insert told_state.jobs i row) e.job) id ∙ row_put told_state.jobs e.job row in
        verdict_zero e.exit (is_last_stage paged.phase) noted.policy paged.attempts noted.limit
        (ruled_next told_state.moment noted.interval verdict paged (sym (ap (λ o. is_processing (phase_found o)) at) ∙ goes))

  -- The causes after the first one.
  abbrev others : List (Bool × Refusal)
  others = (passes (λ r. has_ended r.phase) (job_at s e.job), JobEnded)
      ∷ (passes (λ r. not (is_processing r.phase)) (job_at s e.job), NotProcessing)
      ∷ (passes (λ r. not (is_in_stage e.attempt e.stage r.phase)) (job_at s e.job), WrongStage)
      ∷ []

  -- If the job is still processing after that, the child ended with 0.
  pub goes_on_zero : is_processing (phase_found (job_at (after s (Stage e)) e.job)) ≡ true → e.exit ≡ Code 0
  goes_on_zero goes = by_row (job_at s e.job) refl
    where
      by_queue : (r : Job) → job_at s e.job ≡ Some r → (o : Option QueueRow) → queue_at s r.queue ≡ o → e.exit ≡ Code 0
      by_queue r there (Some q) own = goes_of r there q own goes
      by_queue r there None none = let some = (legal.jobs e.job r there).queue in absurd (cc)

      by_row : (o : Option Job) → job_at s e.job ≡ o → e.exit ≡ Code 0
      by_row (Some r) there = by_queue r there (queue_at s r.queue) refl
      by_row None absent = absurd (never (is_none (job_at s e.job)) (no_first (is_none (job_at s e.job)) NoJob others accepted) (ap is_none absent))
