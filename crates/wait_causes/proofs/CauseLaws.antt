-- When a waiting job waits for the service alone.
use Rattle.std.proofs.Common.{◌≡◌, ℕ, Bool, true, false, not, ◌&&◌, cond, Option, None, Some, refl, ap, ◌∙◌, arith}
use Rattle.std.specs.Prelude.{nat_le, nat_lt}
use Rattle.job_table.specs.Attempts.{busy_of, next_of}
use Rattle.queue_sched.specs.Next.{may_start}
use Rattle.spool_types.specs.Phases.{is_in_force}
use Rattle.spool_types.specs.State.{State, Job, queue_at}
use Rattle.spool_types.specs.declared.phase.Hold.{Hold}
use Rattle.spool_types.specs.declared.phase.Hold.TheVariants.{Free, Indefinite, Until}
use Rattle.wait_causes.specs.WaitCauses.{held_cause, is_stopped_row, queue_cause, waiting_cause, waits_for_service}
use Rattle.wait_causes.specs.declared.cause.Cause.{Cause}
use Rattle.wait_causes.specs.declared.cause.Cause.TheVariants.{Retry, Stopped}
use Rattle.wait_causes.specs.declared.cause.ServiceFacts.{ServiceFacts}

no_hold : (hold : Hold) → waits_for_service (held_cause hold) ≡ true → ⊥
no_hold Free e = absurd (cc)
no_hold (Indefinite reason) e = absurd (cc)
no_hold (Until moment) e = absurd (cc)

pub record AreFalse (held late stopped : Bool) (rest : Cause) : Type 0 where
  pub held_is : held ≡ false
  pub late_is : late ≡ false
  pub stopped_is : stopped ≡ false
  pub rest_is : waits_for_service rest ≡ true

-- Each test failed.
tests : (hold : Hold) (moment : ℕ) (held late stopped : Bool) (rest : Cause) → waits_for_service (cond held (held_cause hold) (cond late (Retry moment) (cond stopped Stopped rest))) ≡ true → AreFalse held late stopped rest
tests hold moment true late stopped rest e = absurd (no_hold hold e)
tests hold moment false true stopped rest e = absurd (cc)
tests hold moment false false true rest e = absurd (cc)
tests hold moment false false false rest e = record { held_is = refl; late_is = refl; stopped_is = refl; rest_is = e }

free : (f : ServiceFacts) (job : ℕ) (taken next : Option ℕ) → waits_for_service (queue_cause f job taken next) ≡ true → taken ≡ None
free f job None next e = refl
free f job (Some other) next e = absurd (cc)

passed : (held late : Bool) → held ≡ false → late ≡ true → (not held && late) ≡ true
passed held late none is = ap (λ (b : Bool). not b && late) none ∙ is

not_late : (now before : ℕ) → nat_lt now before ≡ false → nat_le before now ≡ true
not_late now before e = grind arith

pub ready : (f : ServiceFacts) (s : State) (r : Job) (hold : Hold) (not_before : ℕ) → waits_for_service (waiting_cause f s r hold not_before) ≡ true → may_start s.moment hold not_before ≡ true
ready f s r hold not_before e =
    let all = tests hold not_before (is_in_force s.moment hold) (nat_lt s.moment not_before) (is_stopped_row (queue_at s r.queue)) (queue_cause f r.id (busy_of s r.queue) (next_of s r.queue)) e in
    passed (is_in_force s.moment hold) (nat_le not_before s.moment) all.held_is (not_late s.moment not_before all.late_is)

pub open_queue : (f : ServiceFacts) (s : State) (r : Job) (hold : Hold) (not_before : ℕ) → waits_for_service (waiting_cause f s r hold not_before) ≡ true → (is_stopped_row (queue_at s r.queue) ≡ false) × (busy_of s r.queue ≡ None)
open_queue f s r hold not_before e =
    let all = tests hold not_before (is_in_force s.moment hold) (nat_lt s.moment not_before) (is_stopped_row (queue_at s r.queue)) (queue_cause f r.id (busy_of s r.queue) (next_of s r.queue)) e in
    (all.stopped_is, free f r.id (busy_of s r.queue) (next_of s r.queue) all.rest_is)
