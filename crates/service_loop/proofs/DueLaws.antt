-- Before the next due moment a Clock changes nothing but the moment. The lists of ended jobs and of jobs that a Clock changes.
use Rattle.std.proofs.Common.{◌≡◌, ⊎_elim, ℕ, zero, suc, ◌+◌, ◌<◌, ◌≤◌, max, Bool, true, false, cond, not, ◌&&◌, ◌||◌, nat_lt, nat_le, List, [], ◌∷◌, ◌++◌, codes, Option, Some, None, Ok, refl, sym, ap, subst, ◌∙◌, arith}
use Rattle.std.specs.Prelude.{IfSome}
use Rattle.std.specs.List.{Contains, slice_get}
use Rattle.std.specs.FinMap as finite
use Rattle.std.specs.Cmp.Lexicographic.{bytes_decides}
use Rattle.std.proofs.lemmas.Bool.Decides.{nat_tests}
use Rattle.spool_types.specs.declared.event.Event.TheVariants.{Clock}
use Rattle.spool_types.specs.declared.event.Reply.TheVariants.{Done}
use Rattle.spool_types.specs.declared.phase.Hold.{Hold}
use Rattle.spool_types.specs.declared.phase.Hold.TheVariants.{Free, Indefinite, Until}
use Rattle.spool_types.specs.declared.phase.Phase.{Phase}
use Rattle.spool_types.specs.declared.phase.Phase.TheVariants.{Incoming, Waiting, Processing, Completed, Canceled, Aborted}
use Rattle.spool_types.specs.declared.rows.QueueRow.{QueueRow}
use Rattle.spool_types.specs.Busy.{is_busy, is_of}
use Rattle.spool_types.specs.Limits.{greatest_moment}
use Rattle.spool_types.specs.Phases.{hold_word, is_in_force, is_waiting, job_reason, job_state, waiting_word}
use Rattle.spool_types.specs.State.{State, Job, job_at, queue_at}
use Rattle.queue_sched.specs.Next.{is_eligible, is_ready, may_start}
use Rattle.job_table.specs.DueTimes.{due_among, due_in, due_of, earlier, end_of_hold, next_due, is_stopped, is_stopped_row, late_from, next_moment, start_of}
use Rattle.job_table.specs.EventChanges.{at_moment, change_jobs, is_passed}
use Rattle.job_table.specs.Step.{step}
use Rattle.job_table.proofs.Choice.{value_there}
use Rattle.job_table.proofs.Clocked.{none_late}
use Rattle.slab.proofs.SlabLemmas.{Contains-cons_cases}
use Rattle.service_rules.specs.declared.purges.Candidate.{Candidate}
use Rattle.service_loop.specs.Due.{AreListed, IsQuietUntil}

abbrev IsLater : ℕ → Option ℕ → Type 0
IsLater m due = IfSome due (λ d. m < d)

-- Both moments are later if the earlier one is.
both_later : (m : ℕ) (a b : Option ℕ) → IsLater m (earlier a b) → IsLater m a × IsLater m b
both_later m None b later = (tt, later)
both_later m (Some a) None later = (later, tt)
both_later m (Some a) (Some b) later = (omega (arith, later), omega (arith, later))

next_later : (m x : ℕ) → m ≤ greatest_moment → IsLater m (next_moment x) → m < x + 1
next_later m x at_most = either (nat_le (x + 1) greatest_moment) refl
  where
    either : (b : Bool) → nat_le (x + 1) greatest_moment ≡ b → IsLater m (cond b (Some (x + 1)) None) → m < x + 1
    either true is later = later
    either false is later = grind (arith, nat_tests)

not_late : (m : ℕ) (by : Option ℕ) → m ≤ greatest_moment → IsLater m (late_from by) → is_passed m by ≡ false
not_late m None at_most later = refl
not_late m (Some by) at_most later = (let ahead = next_later m by at_most later in grind (arith, nat_tests))

hold_stays : (known m : ℕ) (hold : Hold) → known < m → IsLater m (end_of_hold hold known) → is_in_force m hold ≡ is_in_force known hold
hold_stays known m Free lt later = refl
hold_stays known m (Indefinite reason) lt later = refl
hold_stays known m (Until until) lt later = either (nat_lt known until) refl later
  where
    either : (b : Bool) → nat_lt known until ≡ b → IsLater m (cond b (Some until) None) → nat_lt m until ≡ nat_lt known until
    either true is later = grind (arith, nat_tests)
    either false is later = grind (arith, nat_tests)

module _ (s : State) (m : ℕ) (quiet : IsQuietUntil s m) where
  -- A retry in the future is still in the future.
  retry_stays : (r : Job) (hold : Hold) (not_before : ℕ) → IsLater m (start_of s r hold not_before) → nat_lt m not_before ≡ nat_lt s.moment not_before
  retry_stays r hold not_before = either (nat_lt s.moment not_before) refl
    where
      either : (b : Bool) → nat_lt s.moment not_before ≡ b
          → IsLater m (cond b (Some not_before) (cond (is_in_force s.moment hold || is_stopped s r) None (next_moment s.moment)))
          → nat_lt m not_before ≡ nat_lt s.moment not_before
      either true is later = grind (arith, nat_tests, quiet.later)
      either false is later = grind (arith, nat_tests, quiet.later)

  -- A job that is not held, in a queue that is not stopped, waits for its retry.
  waits_for_retry : (r : Job) (hold : Hold) (not_before : ℕ) → IsLater m (start_of s r hold not_before)
      → is_in_force s.moment hold ≡ false → is_stopped s r ≡ false → nat_lt s.moment not_before ≡ true
  waits_for_retry r hold not_before later free goes = either (nat_lt s.moment not_before) refl later
    where
      either : (b : Bool) → nat_lt s.moment not_before ≡ b
          → IsLater m (cond b (Some not_before) (cond (is_in_force s.moment hold || is_stopped s r) None (next_moment s.moment)))
          → b ≡ true
      either true is later = refl
      either false is later =
          let held : (is_in_force s.moment hold || is_stopped s r) ≡ false = (λ i. free i || goes i) in
          let at : IsLater m (next_moment s.moment) = subst (λ (b : Bool). IsLater m (cond b None (next_moment s.moment))) held later in
          absurd (omega (arith, next_later m s.moment quiet.at_most at, quiet.later))

  -- A waiting job that is not due.
  module _ (r : Job) (hold : Hold) (not_before : ℕ) (later : IsLater m (earlier (earlier (late_from r.by) (end_of_hold hold s.moment)) (start_of s r hold not_before))) where
    ends_later : IsLater m (earlier (late_from r.by) (end_of_hold hold s.moment))
    ends_later = (both_later m (earlier (late_from r.by) (end_of_hold hold s.moment)) (start_of s r hold not_before) later).0

    starts_later : IsLater m (start_of s r hold not_before)
    starts_later = (both_later m (earlier (late_from r.by) (end_of_hold hold s.moment)) (start_of s r hold not_before) later).1

    waiting_timely : is_passed m r.by ≡ false
    waiting_timely = not_late m r.by quiet.at_most (both_later m (late_from r.by) (end_of_hold hold s.moment) ends_later).0

    same_hold : is_in_force m hold ≡ is_in_force s.moment hold
    same_hold = hold_stays s.moment m hold quiet.later (both_later m (late_from r.by) (end_of_hold hold s.moment) ends_later).1

    same_retry : nat_lt m not_before ≡ nat_lt s.moment not_before
    same_retry = retry_stays r hold not_before starts_later

    waiting_word_stays : waiting_word m hold not_before ≡ waiting_word s.moment hold not_before
    waiting_word_stays = λ i. cond (same_hold i) (hold_word hold) (cond (same_retry i) (codes "retry-later") (codes "none"))

    may_not_start : is_stopped s r ≡ false → may_start m hold not_before ≡ false
    may_not_start goes = either (is_in_force s.moment hold) refl
      where
        either : (b : Bool) → is_in_force s.moment hold ≡ b → may_start m hold not_before ≡ false
        either true is = ap (λ b. not b && nat_le not_before m) (same_hold ∙ is)
        either false is =
            let waits : nat_lt m not_before ≡ true = same_retry ∙ waits_for_retry r hold not_before starts_later is goes in
            let early : nat_le not_before m ≡ false = grind (arith, nat_tests) in
            ap (λ b. not b && nat_le not_before m) (same_hold ∙ is) ∙ early

  module _ (r : Job) where
    timely_in : (p : Phase) → IsLater m (due_in s r p) → (is_waiting p && is_passed m r.by) ≡ false
    timely_in (Incoming hold) later = refl
    timely_in (Waiting hold not_before first) later = waiting_timely r hold not_before later
    timely_in (Processing attempt stage stages) later = refl
    timely_in Completed later = refl
    timely_in Canceled later = refl
    timely_in (Aborted reason) later = refl

    state_in : (p : Phase) → IsLater m (due_in s r p) → job_state m p ≡ job_state s.moment p
    state_in (Incoming hold) later = refl
    state_in (Waiting hold not_before first) later = ap (λ b. cond b 4 3) (same_hold r hold not_before later)
    state_in (Processing attempt stage stages) later = refl
    state_in Completed later = refl
    state_in Canceled later = refl
    state_in (Aborted reason) later = refl

    reason_in : (p : Phase) → IsLater m (due_in s r p) → job_reason m p ≡ job_reason s.moment p
    reason_in (Incoming hold) later = refl
    reason_in (Waiting hold not_before first) later = waiting_word_stays r hold not_before later
    reason_in (Processing attempt stage stages) later = refl
    reason_in Completed later = refl
    reason_in Canceled later = refl
    reason_in (Aborted reason) later = refl

    ready_in : (p : Phase) → IsLater m (due_in s r p) → is_stopped s r ≡ false → is_ready m p ≡ false
    ready_in (Incoming hold) later goes = refl
    ready_in (Waiting hold not_before first) later goes = may_not_start r hold not_before later goes
    ready_in (Processing attempt stage stages) later goes = refl
    ready_in Completed later goes = refl
    ready_in Canceled later goes = refl
    ready_in (Aborted reason) later goes = refl

  -- ## The laws

  pub changes_nothing : step s (Clock m) ≡ Ok (record s { moment = m }, Done)
  changes_nothing = λ i. Ok (record s { jobs = same_jobs i; moment = same_moment i }, Done)
    where
      same_moment : max s.moment m ≡ m
      same_moment = omega (arith, quiet.later)

      same_jobs : change_jobs (at_moment (max s.moment m)) s.jobs ≡ s.jobs
      same_jobs =
          ap (λ now. change_jobs (at_moment now) s.jobs) same_moment
          ∙ none_late m s.jobs (λ j r there. timely_in r r.phase (quiet.none_due j r there))

  pub starts_none : (name : List ℕ) (q : QueueRow) → queue_at s name ≡ Some q → (j : ℕ) (r : Job) → job_at s j ≡ Some r
      → is_eligible (finite.values s.jobs) name q.stopped m r ≡ false
  starts_none name q of j r there = by_stop q.stopped refl
    where
      jobs : List Job
      jobs = finite.values s.jobs

      ready : Bool
      ready = is_ready m r.phase

      not_both : (b : Bool) → (is_of name r ≡ true → ready ≡ false) → is_of name r ≡ b → (b && ready) ≡ false
      not_both false unless own = refl
      not_both true unless own = unless own

      by_stop : (b : Bool) → q.stopped ≡ b → ((not b && not (is_busy jobs name)) && (is_of name r && ready)) ≡ false
      by_stop true is = refl
      by_stop false is = by_busy (is_busy jobs name)
        where
          goes : is_of name r ≡ true → is_stopped s r ≡ false
          goes own = ap is_stopped_row (ap (queue_at s) ((bytes_decides r.queue name).0 own) ∙ of) ∙ is

          neither : (is_of name r && ready) ≡ false
          neither = not_both (is_of name r) (λ own. ready_in r r.phase (quiet.none_due j r there) (goes own)) refl

          by_busy : (b : Bool) → ((not false && not b) && (is_of name r && ready)) ≡ false
          by_busy true = refl
          by_busy false = neither

  pub state_stays : (j : ℕ) (r : Job) → job_at s j ≡ Some r → job_state m r.phase ≡ job_state s.moment r.phase
  state_stays j r there = state_in r r.phase (quiet.none_due j r there)

  pub reason_stays : (j : ℕ) (r : Job) → job_at s j ≡ Some r → job_reason m r.phase ≡ job_reason s.moment r.phase
  reason_stays j r there = reason_in r r.phase (quiet.none_due j r there)

-- ## The due moments of all jobs

before_all : (s : State) (m : ℕ) (due : Option ℕ) (rs : List Job) → IsLater m (due_among s due rs) → IsLater m due × ((r : Job) → Contains rs r → IsLater m (due_of s r))
before_all s m due [] later = (later, λ r there. absurd (omega (arith, there.1)))
before_all s m due (x ∷ rs) later =
    let (sooner, others) = before_all s m (earlier due (due_of s x)) rs later in
    let both = both_later m due (due_of s x) sooner in
    (both.0, λ r there. ⊎_elim (λ same. subst (λ (y : Job). IsLater m (due_of s y)) same both.1) (others r) (Contains-cons_cases x r rs there))

pub quiet_until : (s : State) (m : ℕ) → s.moment < m → m ≤ greatest_moment → IsLater m (next_due s) → IsQuietUntil s m
quiet_until s m later most due = record { later = later; at_most = most; none_due = λ j r there. (before_all s m None (finite.values s.jobs) due).1 r (value_there s j r there) }

-- ## The oldest ended jobs

pub none_listed : (js : List ℕ) → AreListed 0 js []
none_listed [] = refl
none_listed (j ∷ js) = refl

-- The next job is listed last.
pub listed_next : (n : ℕ) (js : List ℕ) (cs : List Candidate) (c : Candidate) → AreListed n js cs → slice_get js n ≡ Some c.id → c.ended ≡ true → AreListed (suc n) js (cs ++ c ∷ [])
listed_next n [] cs c is at over = absurd (cc)
listed_next zero (j ∷ js) cs c is at over = subst (λ xs. AreListed 1 (j ∷ js) (xs ++ c ∷ [])) (sym is) (own at, over, none_listed js)
  where
    own : Some j ≡ Some c.id → c.id ≡ j
    own e = cc
listed_next (suc n) (j ∷ js) [] c is at over = absurd is
listed_next (suc n) (j ∷ js) (x ∷ cs) c is at over = (is.0, is.1, listed_next n js cs c is.2 at over)

-- All jobs are listed.
pub all_listed : (n m : ℕ) (js : List ℕ) (cs : List Candidate) → n ≤ m → slice_get js n ≡ None → AreListed n js cs → AreListed m js cs
all_listed n m [] cs le none is = is
all_listed zero m (j ∷ js) cs le none is = absurd (cc)
all_listed (suc n) zero (j ∷ js) cs le none is = absurd (omega (arith, le))
all_listed (suc n) (suc m) (j ∷ js) [] le none is = absurd is
all_listed (suc n) (suc m) (j ∷ js) (x ∷ cs) le none is = (is.0, is.1, all_listed n m js cs (omega (arith, le)) none is.2)
