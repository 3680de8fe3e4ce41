-- The least due moment of all jobs is the least of the dates, and a Clock changes the jobs whose dates it reaches.
use Rattle.std.proofs.Common.{◌≡◌, ℕ, zero, suc, ◌+◌, ◌<◌, ◌≤◌, ◌⊎◌, inl, inr, min, Bool, true, false, cond, not, ◌&&◌, ◌||◌, ◌==◌, nat_lt, nat_le, List, [], ◌∷◌, ◌++◌, length, get_or, Option, Some, None, refl, sym, ap, subst, ◌∙◌, arith}
use Rattle.std.specs.Prelude.{◌↔◌, IfSome, is_some}
use Rattle.std.specs.Option.{option_map}
use Rattle.std.specs.List.{Contains, AllWithin, slice_get}
use Rattle.std.specs.FinMap as finite
use Rattle.std.proofs.lemmas.Bool.{and_parts, both_ways, cases_lt, false_from_ne_true}
use Rattle.std.proofs.lemmas.Bool.Decides.{nat_tests}
use Rattle.std.proofs.lemmas.List.Elements.{Contains-append_left, Contains-push, Contains-push_cases}
use Rattle.std.specs.Cmp.Lexicographic.{bytes_decides, slice_cmp}
use Rattle.std.specs.Ordering.{nat_cmp}
use Rattle.spool_types.specs.declared.phase.Hold.{Hold}
use Rattle.spool_types.specs.declared.phase.Hold.TheVariants.{Free, Indefinite, Until}
use Rattle.spool_types.specs.declared.phase.Phase.{Phase}
use Rattle.spool_types.specs.declared.phase.Phase.TheVariants.{Incoming, Waiting, Processing, Completed, Canceled, Aborted}
use Rattle.spool_types.specs.declared.rows.QueueRow.{QueueRow}
use Rattle.spool_types.specs.Busy.{is_busy, is_of}
use Rattle.spool_types.specs.Limits.{greatest_moment}
use Rattle.spool_types.specs.Phases.{hold_of, is_in_force, is_processing, is_waiting}
use Rattle.spool_types.specs.State.{State, Job, job_at, queue_at}
use Rattle.queue_sched.specs.Deadlines.{InTurn, comes_before}
use Rattle.queue_sched.specs.Next.{is_eligible, is_ready, may_start}
use Rattle.queue_sched.specs.declared.deadlines.Deadline.{Deadline}
use Rattle.job_table.specs.Agendas.{date_found, end_of, hold_date, retry_date, retry_in, AreDates}
use Rattle.job_table.specs.Attempts.{HasNoProcessing}
use Rattle.job_table.specs.DueTimes.{due_among, due_in, due_of, earlier, end_of_hold, has_come, is_at_once, is_at_once_in, is_changed_by, is_changed_in, is_stopped, is_stopped_row, late_from, next_due, next_moment, start_of, IsChangedJob, IsLeastOf, IsNumberAt, IsNumberWithin}
use Rattle.job_table.specs.Legal.{IsLegal}
use Rattle.job_table.specs.Timely.{deadline_found, deadline_of, IsTimely}
use Rattle.job_table.specs.declared.timetable.Timetable.{Timetable}
use Rattle.job_table.proofs.Choice.{found_value, passing, value_there, there_value}
use Rattle.job_table.proofs.Gathered.{first_here, first_or_rest, rest_here}
use Rattle.job_table.proofs.Timely.{deadline_made, deadline_own}

-- ## Moments that are later than another

abbrev pub IsLater : ℕ → Option ℕ → Type 0
IsLater m due = IfSome due (λ d. m < d)

both_later : (m : ℕ) (a b : Option ℕ) → IsLater m (earlier a b) → IsLater m a × IsLater m b
both_later m None b later = (tt, later)
both_later m (Some a) None later = (later, tt)
both_later m (Some a) (Some b) later = (omega (arith, later), omega (arith, later))

earlier_later : (m : ℕ) (a b : Option ℕ) → IsLater m a → IsLater m b → IsLater m (earlier a b)
earlier_later m None b first second = second
earlier_later m (Some a) None first second = first
earlier_later m (Some a) (Some b) first second = omega (arith, first, second)

-- Two moments are equal if the same moments are before them.
same_moment : (a b : Option ℕ) → ((m : ℕ) → IsLater m a → IsLater m b) → ((m : ℕ) → IsLater m b → IsLater m a) → a ≡ b
same_moment None None to back = refl
same_moment None (Some b) to back = (let never = to b tt in absurd (omega (arith, never)))
same_moment (Some a) None to back = (let never = back a tt in absurd (omega (arith, never)))
same_moment (Some a) (Some b) to back = ap Some equal
  where
    not_less : ¬ (b < a)
    not_less lt = (let never = to b lt in omega (arith, never))

    not_more : ¬ (a < b)
    not_more lt = (let never = back a lt in omega (arith, never))

    equal : a ≡ b
    equal = elim (cases_lt a b) [
      | inl lt ↦ absurd (not_more lt)
      | inr le ↦ elim (cases_lt b a) [
        | inl gt ↦ absurd (not_less gt)
        | inr ge ↦ omega (arith, le, ge)
      ]
    ]

next_later : (m x : ℕ) → IsLater m (next_moment x) → x + 1 ≤ greatest_moment → m < x + 1
next_later m x later at_most = either (nat_le (x + 1) greatest_moment) refl later
  where
    either : (b : Bool) → nat_le (x + 1) greatest_moment ≡ b → IsLater m (cond b (Some (x + 1)) None) → m < x + 1
    either true is lt = lt
    either false is lt = grind (arith, nat_tests)

later_next : (m x : ℕ) → (x + 1 ≤ greatest_moment → m < x + 1) → IsLater m (next_moment x)
later_next m x unless = either (nat_le (x + 1) greatest_moment) refl
  where
    fits : nat_le (x + 1) greatest_moment ≡ true → x + 1 ≤ greatest_moment
    fits is = grind (arith, nat_tests)

    either : (b : Bool) → nat_le (x + 1) greatest_moment ≡ b → IsLater m (cond b (Some (x + 1)) None)
    either true is = unless (fits is)
    either false is = tt

-- ## The least of the jobs' moments

before_all : (s : State) (m : ℕ) (due : Option ℕ) (rs : List Job) → IsLater m (due_among s due rs) → IsLater m due × ((r : Job) → Contains rs r → IsLater m (due_of s r))
before_all s m due [] later = (later, λ r there. absurd (omega (arith, there.1)))
before_all s m due (x ∷ rs) later =
    let rest = before_all s m (earlier due (due_of s x)) rs later in
    let both = both_later m due (due_of s x) rest.0 in (
      both.0,
      λ r there. elim (first_or_rest x rs r there) [
        | inl same ↦ subst (λ (y : Job). IsLater m (due_of s y)) same both.1
        | inr further ↦ rest.1 r further
      ],
    )

all_before : (s : State) (m : ℕ) (due : Option ℕ) (rs : List Job) → IsLater m due → ((r : Job) → Contains rs r → IsLater m (due_of s r)) → IsLater m (due_among s due rs)
all_before s m due [] later each = later
all_before s m due (x ∷ rs) later each =
    all_before s m (earlier due (due_of s x)) rs (earlier_later m due (due_of s x) later (each x (first_here x rs))) (λ r there. each r (rest_here x rs r there))

-- ## Parts of a job's due moment

least_later : {P : Deadline → Type 0} (items : List Deadline) (found : Option ℕ) → IsLeastOf P items found → (m : ℕ) → IsLater m found → (d : Deadline) → Contains items d → P d → m < d.by
least_later items found least m later d there is =
    let first = least.least d there is in
    let lt : m < first.0 = subst (IsLater m) first.1 later in
    omega (arith, lt, first.2)

module _ (s : State) (m : ℕ) where
  end_later : (hold : Hold) → ((until : ℕ) → hold ≡ Until until → s.moment < until → m < until) → IsLater m (end_of_hold hold s.moment)
  end_later Free each = tt
  end_later (Indefinite reason) each = tt
  end_later (Until until) each = either (nat_lt s.moment until) refl
    where
      either : (b : Bool) → nat_lt s.moment until ≡ b → IsLater m (cond b (Some until) None)
      either true is = each until refl (grind (arith, nat_tests))
      either false is = tt

  later_end : (until : ℕ) → IsLater m (end_of_hold (Until until) s.moment) → s.moment < until → m < until
  later_end until later ahead = either (nat_lt s.moment until) refl later
    where
      either : (b : Bool) → nat_lt s.moment until ≡ b → IsLater m (cond b (Some until) None) → m < until
      either true is lt = lt
      either false is lt = grind (arith, nat_tests)

  module _ (r : Job) (hold : Hold) (not_before : ℕ) where
    start_later : (s.moment < not_before → m < not_before)
        → ((not (nat_lt s.moment not_before) && not (is_in_force s.moment hold || is_stopped s r)) ≡ true → IsLater m (next_moment s.moment))
        → IsLater m (start_of s r hold not_before)
    start_later retry at_once = either (nat_lt s.moment not_before) refl
      where
        second : nat_lt s.moment not_before ≡ false → (b : Bool) → (is_in_force s.moment hold || is_stopped s r) ≡ b → IsLater m (cond b None (next_moment s.moment))
        second waited true is = tt
        second waited false is = at_once (λ i. not (waited i) && not (is i))

        either : (b : Bool) → nat_lt s.moment not_before ≡ b → IsLater m (cond b (Some not_before) (cond (is_in_force s.moment hold || is_stopped s r) None (next_moment s.moment)))
        either true is = retry (grind (arith, nat_tests))
        either false is = second is (is_in_force s.moment hold || is_stopped s r) refl

    later_retry : IsLater m (start_of s r hold not_before) → s.moment < not_before → m < not_before
    later_retry later ahead = either (nat_lt s.moment not_before) refl later
      where
        either : (b : Bool) → nat_lt s.moment not_before ≡ b → IsLater m (cond b (Some not_before) (cond (is_in_force s.moment hold || is_stopped s r) None (next_moment s.moment))) → m < not_before
        either true is lt = lt
        either false is lt = grind (arith, nat_tests)

    later_start : IsLater m (start_of s r hold not_before) → (not (nat_lt s.moment not_before) && not (is_in_force s.moment hold || is_stopped s r)) ≡ true → IsLater m (next_moment s.moment)
    later_start later = either (nat_lt s.moment not_before) (is_in_force s.moment hold || is_stopped s r) later
      where
        either : (b c : Bool) → IsLater m (cond b (Some not_before) (cond c None (next_moment s.moment))) → (not b && not c) ≡ true → IsLater m (next_moment s.moment)
        either true c lt is = absurd (cc)
        either false true lt is = absurd (cc)
        either false false lt is = lt

-- ## The least date is the least due moment

module _ (s : State) (timetable : Timetable) (timely : IsTimely (job_at s) timetable) (holds retries : List Deadline) (are_holds : AreDates hold_date (job_at s) holds) (are_retries : AreDates retry_date (job_at s) retries)
    (goes_on : Bool) (none : goes_on ≡ false → (j : ℕ) (r : Job) → job_at s j ≡ Some r → is_at_once s r ≡ false)
    (some : goes_on ≡ true → ¬ ((j : ℕ) (r : Job) → job_at s j ≡ Some r → is_at_once s r ≡ false))
    (first hold retry : Option ℕ) (is_first : IsLeastOf (λ d. 0 ≤ d.by) timetable.deadlines.items first) (is_hold : IsLeastOf (λ d. s.moment < d.by) holds hold) (is_retry : IsLeastOf (λ d. s.moment < d.by) retries retry) where
  abbrev start : Option ℕ
  start = cond goes_on (next_moment s.moment) None

  -- Before the dates no job is due.
  module _ (m : ℕ) (start_late : IsLater m start) (first_late : IsLater m (late_from first)) (hold_late : IsLater m hold) (retry_late : IsLater m retry) (j : ℕ) (r : Job) (there : job_at s j ≡ Some r) where
    hold_after : (p : Phase) → r.phase ≡ p → IsLater m (end_of_hold (hold_of p) s.moment)
    hold_after p is = end_later s m (hold_of p) (λ until of ahead.
        let d : Deadline = record { by = until; id = r.id } in
        let listed = are_holds.listed j d (ap (date_found hold_date) there ∙ ap (λ q. end_of r.id (hold_of q)) is ∙ ap (end_of r.id) of) in
        least_later holds hold is_hold m hold_late d listed.1 ahead)

    late_after : is_waiting r.phase ≡ true → (o : Option ℕ) → r.by ≡ o → IsLater m (late_from o)
    late_after waits None is = tt
    late_after waits (Some by) is =
        let d : Deadline = record { by = by; id = r.id } in
        let listed = timely.listed j d (ap deadline_found there ∙ deadline_made r by waits is) in
        let least = is_first.least d listed.1 (omega arith) in
        let before : IsLater m (next_moment least.0) = subst (λ o. IsLater m (late_from o)) least.1 first_late in
        later_next m by (λ fits. (let lt = next_later m least.0 before (omega (arith, fits, least.2)) in omega (arith, lt, least.2)))

    at_once_after : is_at_once s r ≡ true → IsLater m (next_moment s.moment)
    at_once_after now = either goes_on refl
      where
        either : (b : Bool) → goes_on ≡ b → IsLater m (next_moment s.moment)
        either true is = subst (λ b. IsLater m (cond b (next_moment s.moment) None)) is start_late
        either false is = absurd (both_ways (is_at_once s r) (none is j r there) now)

    due_after : (p : Phase) → r.phase ≡ p → IsLater m (due_in s r p)
    due_after (Incoming held) is = hold_after (Incoming held) is
    due_after (Waiting held not_before marked) is =
        earlier_later m (earlier (late_from r.by) (end_of_hold held s.moment)) (start_of s r held not_before)
        (earlier_later m (late_from r.by) (end_of_hold held s.moment) (late_after (ap is_waiting is) r.by refl) (hold_after (Waiting held not_before marked) is))
        (start_later s m r held not_before
        (λ ahead.
        let d : Deadline = record { by = not_before; id = r.id } in
        let some_time : nat_lt 0 not_before ≡ true = grind (arith, nat_tests) in
        let listed = are_retries.listed j d (ap (date_found retry_date) there ∙ ap (retry_in r.id) is ∙ ap (λ b. cond b (Some d) None) some_time) in
        least_later retries retry is_retry m retry_late d listed.1 ahead)
        (λ now. at_once_after (ap (is_at_once_in s r) is ∙ now)))
    due_after (Processing attempt stage stages) is = at_once_after (ap (is_at_once_in s r) is)
    due_after Completed is = tt
    due_after Canceled is = tt
    due_after (Aborted reason) is = tt

  -- Before all jobs are due, no date is reached.
  module _ (m : ℕ) (each : (j : ℕ) (r : Job) → job_at s j ≡ Some r → IsLater m (due_of s r)) where
    start_before : IsLater m start
    start_before = either goes_on refl
      where
        at_once : (r : Job) (p : Phase) → IsLater m (due_in s r p) → is_at_once_in s r p ≡ true → IsLater m (next_moment s.moment)
        at_once r (Incoming held) later now = absurd (cc)
        at_once r (Waiting held not_before marked) later now =
            later_start s m r held not_before (both_later m (earlier (late_from r.by) (end_of_hold held s.moment)) (start_of s r held not_before) later).1 now
        at_once r (Processing attempt stage stages) later now = later
        at_once r Completed later now = absurd (cc)
        at_once r Canceled later now = absurd (cc)
        at_once r (Aborted reason) later now = absurd (cc)

        unless : goes_on ≡ true → s.moment + 1 ≤ greatest_moment → m < s.moment + 1
        unless is fits = elim (cases_lt m (s.moment + 1)) [
          | inl lt ↦ lt
          | inr le ↦ absurd (some is (λ j r there. false_from_ne_true (is_at_once s r) (λ now.
              (let lt = next_later m s.moment (at_once r r.phase (each j r there) now) fits in omega (arith, lt, le)))))
        ]

        either : (b : Bool) → goes_on ≡ b → IsLater m (cond b (next_moment s.moment) None)
        either true is = later_next m s.moment (unless is)
        either false is = tt

    -- The job of a deadline is late after it.
    first_before : (o : Option ℕ) → first ≡ o → IsLater m (late_from o)
    first_before None is = tt
    first_before (Some by) is =
        let found = subst (λ o. IfSome o (λ b. (d : Deadline) × Contains timetable.deadlines.items d × (0 ≤ d.by) × (d.by ≡ b))) is is_first.there in
        subst (λ b. IsLater m (next_moment b)) found.3 (of_job found.0 (job_at s found.0.id) refl (timely.only found.0 found.1))
      where
        of_phase : (r : Job) (d : Deadline) (p : Phase) → is_waiting p ≡ true → r.by ≡ Some d.by → IsLater m (due_in s r p) → IsLater m (next_moment d.by)
        of_phase r d (Incoming held) waits own later = absurd (cc)
        of_phase r d (Waiting held not_before marked) waits own later =
            let both = both_later m (earlier (late_from r.by) (end_of_hold held s.moment)) (start_of s r held not_before) later in
            subst (λ o. IsLater m (late_from o)) own (both_later m (late_from r.by) (end_of_hold held s.moment) both.0).0
        of_phase r d (Processing attempt stage stages) waits own later = absurd (cc)
        of_phase r d Completed waits own later = absurd (cc)
        of_phase r d Canceled waits own later = absurd (cc)
        of_phase r d (Aborted reason) waits own later = absurd (cc)

        of_job : (d : Deadline) (o : Option Job) → job_at s d.id ≡ o → deadline_found o ≡ Some d → IsLater m (next_moment d.by)
        of_job d None at is_none = absurd (cc)
        of_job d (Some r) at is_some = (let own = deadline_own r d is_some in of_phase r d r.phase own.0 own.1.0 (each d.id r at))

    hold_before : (o : Option ℕ) → hold ≡ o → IsLater m o
    hold_before None is = tt
    hold_before (Some by) is =
        let found = subst (λ o. IfSome o (λ b. (d : Deadline) × Contains holds d × (s.moment < d.by) × (d.by ≡ b))) is is_hold.there in
        subst (λ b. m < b) found.3 (of_job found.0 found.2 (job_at s found.0.id) refl (are_holds.only found.0 found.1))
      where
        by_hold : (d : Deadline) (j : ℕ) (held : Hold) → s.moment < d.by → end_of j held ≡ Some d → IsLater m (end_of_hold held s.moment) → m < d.by
        by_hold d j Free ahead never later = absurd (cc)
        by_hold d j (Indefinite reason) ahead never later = absurd (cc)
        by_hold d j (Until until) ahead own later =
            let same = until_of own in
            subst (λ b. m < b) same (later_end s m until later (subst (λ b. s.moment < b) (sym same) ahead))
          where
            until_of : Some (record { by = until; id = j }) ≡ Some d → until ≡ d.by
            until_of e = cc

        of_phase : (r : Job) (d : Deadline) (p : Phase) → s.moment < d.by → end_of r.id (hold_of p) ≡ Some d → IsLater m (due_in s r p) → m < d.by
        of_phase r d (Incoming held) ahead own later = by_hold d r.id held ahead own later
        of_phase r d (Waiting held not_before marked) ahead own later =
            let both = both_later m (earlier (late_from r.by) (end_of_hold held s.moment)) (start_of s r held not_before) later in
            by_hold d r.id held ahead own (both_later m (late_from r.by) (end_of_hold held s.moment) both.0).1
        of_phase r d (Processing attempt stage stages) ahead own later = absurd (cc)
        of_phase r d Completed ahead own later = absurd (cc)
        of_phase r d Canceled ahead own later = absurd (cc)
        of_phase r d (Aborted reason) ahead own later = absurd (cc)

        of_job : (d : Deadline) → s.moment < d.by → (o : Option Job) → job_at s d.id ≡ o → date_found hold_date o ≡ Some d → m < d.by
        of_job d ahead None at is_none = absurd (cc)
        of_job d ahead (Some r) at own = of_phase r d r.phase ahead own (each d.id r at)

    retry_before : (o : Option ℕ) → retry ≡ o → IsLater m o
    retry_before None is = tt
    retry_before (Some by) is =
        let found = subst (λ o. IfSome o (λ b. (d : Deadline) × Contains retries d × (s.moment < d.by) × (d.by ≡ b))) is is_retry.there in
        subst (λ b. m < b) found.3 (of_job found.0 found.2 (job_at s found.0.id) refl (are_retries.only found.0 found.1))
      where
        of_some : (r : Job) (d : Deadline) (held : Hold) (not_before : ℕ) (b : Bool) → s.moment < d.by → cond b (Some (record { by = not_before; id = r.id })) None ≡ Some d
            → IsLater m (start_of s r held not_before) → m < d.by
        of_some r d held not_before true ahead own later =
            let same = moment_of own in
            subst (λ b. m < b) same (later_retry s m r held not_before later (subst (λ b. s.moment < b) (sym same) ahead))
          where
            moment_of : Some (record { by = not_before; id = r.id }) ≡ Some d → not_before ≡ d.by
            moment_of e = cc
        of_some r d held not_before false ahead never later = absurd (cc)

        of_phase : (r : Job) (d : Deadline) (p : Phase) → s.moment < d.by → retry_in r.id p ≡ Some d → IsLater m (due_in s r p) → m < d.by
        of_phase r d (Incoming held) ahead own later = absurd (cc)
        of_phase r d (Waiting held not_before marked) ahead own later =
            of_some r d held not_before (nat_lt 0 not_before) ahead own (both_later m (earlier (late_from r.by) (end_of_hold held s.moment)) (start_of s r held not_before) later).1
        of_phase r d (Processing attempt stage stages) ahead own later = absurd (cc)
        of_phase r d Completed ahead own later = absurd (cc)
        of_phase r d Canceled ahead own later = absurd (cc)
        of_phase r d (Aborted reason) ahead own later = absurd (cc)

        of_job : (d : Deadline) → s.moment < d.by → (o : Option Job) → job_at s d.id ≡ o → date_found retry_date o ≡ Some d → m < d.by
        of_job d ahead None at is_none = absurd (cc)
        of_job d ahead (Some r) at own = of_phase r d r.phase ahead own (each d.id r at)

  pub least_due : IsLegal s → earlier (earlier (cond goes_on (next_moment s.moment) None) (late_from first)) (earlier hold retry) ≡ next_due s
  least_due legal = same_moment (earlier (earlier start (late_from first)) (earlier hold retry)) (next_due s) to back
    where
      to : (m : ℕ) → IsLater m (earlier (earlier start (late_from first)) (earlier hold retry)) → IsLater m (next_due s)
      to m later =
          let both = both_later m (earlier start (late_from first)) (earlier hold retry) later in
          let one = both_later m start (late_from first) both.0 in
          let two = both_later m hold retry both.1 in
          all_before s m None (finite.values s.jobs) tt (λ r there. due_after m one.0 one.1 two.0 two.1 r.id r (there_value s legal r there) r.phase refl)

      back : (m : ℕ) → IsLater m (next_due s) → IsLater m (earlier (earlier start (late_from first)) (earlier hold retry))
      back m later =
          let each : (j : ℕ) (r : Job) → job_at s j ≡ Some r → IsLater m (due_of s r) = λ j r there. (before_all s m None (finite.values s.jobs) later).1 r (value_there s j r there) in
          earlier_later m (earlier start (late_from first)) (earlier hold retry)
          (earlier_later m start (late_from first) (start_before m each) (first_before m each first refl))
          (earlier_later m hold retry (hold_before m each hold refl) (retry_before m each retry refl))

-- ## Dates in a list

pub get_there : (xs : List Deadline) (i : ℕ) (d : Deadline) → slice_get xs i ≡ Some d → (i < length xs) × ((e : Deadline) → get_or xs i e ≡ d)
get_there [] i d is = absurd (cc)
get_there (x ∷ xs) zero d is = (omega arith, λ e. first is)
  where
    first : Some x ≡ Some d → x ≡ d
    first e = cc
get_there (x ∷ xs) (suc i) d is = (let rest = get_there xs i d is in (omega (arith, rest.0), rest.1))

pub get_none : (xs : List Deadline) (i : ℕ) → slice_get xs i ≡ None → length xs ≤ i
get_none [] i is = omega arith
get_none (x ∷ xs) zero is = absurd (cc)
get_none (x ∷ xs) (suc i) is = (let rest = get_none xs i is in omega (arith, rest))

pub there_get : (xs : List Deadline) (i : ℕ) (d : Deadline) → i < length xs → get_or xs i d ≡ d → slice_get xs i ≡ Some d
there_get [] i d lt is = absurd (omega (arith, lt))
there_get (x ∷ xs) zero d lt is = ap Some is
there_get (x ∷ xs) (suc i) d lt is = there_get xs i d (omega (arith, lt)) is

no_later : (a i b j : ℕ) → cond (a == b) (nat_lt i j) (nat_lt a b) ≡ true → a ≤ b
no_later a i b j comes = grind (arith, nat_tests)

-- The first date from a position on is the least of those.
pub least_from : (P : Deadline → Type 0) (xs : List Deadline) → InTurn xs → (at : ℕ) → AllWithin (λ d. ¬ (P d)) xs 0 at → AllWithin P xs at (length xs)
    → (o : Option Deadline) → o ≡ slice_get xs at → IsLeastOf P xs (option_map (λ (d : Deadline). d.by) o)
least_from P xs order at before behind None is = record {
  there = tt;
  least = λ d there of.
      let ends = get_none xs at (sym is) in
      absurd (subst (λ x. ¬ (P x)) there.2 (before there.0 d (omega arith) (omega (arith, there.1, ends))) of);
}
least_from P xs order at before behind (Some first) is =
    let found = get_there xs at first (sym is) in
    record {
      there = (first, (at, found.0, found.1 first), subst P (found.1 first) (behind at first (omega arith) found.0), refl);
      least = λ d there of. (
        first.by,
        refl,
        elim (cases_lt there.0 at) [
          | inl lt ↦ absurd (subst (λ x. ¬ (P x)) there.2 (before there.0 d (omega arith) lt) of)
          | inr le ↦ later_one d there le
        ],
      );
    }
  where
    later_one : (d : Deadline) → (there : Contains xs d) → at ≤ there.0 → first.by ≤ d.by
    later_one d there le = elim (cases_lt at there.0) [
      | inl lt ↦
          (let found = get_there xs at first (sym is) in
          let comes = order at there.0 d lt there.1 in
          let by : (get_or xs at d).by ≤ (get_or xs there.0 d).by = no_later (get_or xs at d).by (get_or xs at d).id (get_or xs there.0 d).by (get_or xs there.0 d).id comes in
          omega (arith, by, ap (λ (e : Deadline). e.by) (found.1 d), ap (λ (e : Deadline). e.by) there.2))
      | inr ge ↦
          (let found = get_there xs at first (sym is) in
          let same : at ≡ there.0 = omega (arith, le, ge) in
          let equal : first ≡ d = sym (found.1 d) ∙ ap (λ k. get_or xs k d) same ∙ there.2 in
          omega (arith, ap (λ (e : Deadline). e.by) equal))
    ]

-- ## Dates that are listed

module _ (items : List Deadline) where
  -- The number of the date at a position.
  pub listed_some : (at : ℕ) (old new : List ℕ) (d : Deadline) → slice_get items at ≡ Some d → new ≡ old ++ d.id ∷ [] → (j : ℕ) → Contains new j ↔ (Contains old j ⊎ IsNumberAt items at j)
  listed_some at old new d is pushed j = (
    λ there. elim (Contains-push_cases old d.id j (subst (λ xs. Contains xs j) pushed there)) [
      | inl was ↦ inl was
      | inr now ↦ inr (d, is, now)
    ],
    λ either. elim either [
      | inl was ↦ subst (λ xs. Contains xs j) (sym pushed) (Contains-append_left old (d.id ∷ []) j was)
      | inr now ↦ subst (λ xs. Contains xs j) (sym pushed) (subst (Contains (old ++ d.id ∷ [])) (ap (λ (e : Deadline). e.id) (some_date d now.0 (sym is ∙ now.1)) ∙ now.2) (Contains-push old d.id))
    ],
  )
    where
      some_date : (d e : Deadline) → Some d ≡ Some e → d ≡ e
      some_date d e same = cc

  pub listed_none : (at : ℕ) (old : List ℕ) → slice_get items at ≡ None → (j : ℕ) → Contains old j ↔ (Contains old j ⊎ IsNumberAt items at j)
  listed_none at old is j = (
    λ there. inl there,
    λ either. elim either [
      | inl was ↦ was
      | inr now ↦ (let never : None ≡ Some now.0 = sym is ∙ now.1 in absurd (cc))
    ],
  )

  -- One more position.
  pub listed_more : (first at : ℕ) → first ≤ at → (old now new : List ℕ) → ((j : ℕ) → Contains now j ↔ (Contains old j ⊎ IsNumberWithin items first at j)) → ((j : ℕ) → Contains new j ↔ (Contains now j ⊎ IsNumberAt items at j))
      → (j : ℕ) → Contains new j ↔ (Contains old j ⊎ IsNumberWithin items first (at + 1) j)
  listed_more first at low old now new before one j = (
    λ there. elim ((one j).0 there) [
      | inl was ↦ elim ((before j).0 was) [
        | inl earlier ↦ inl earlier
        | inr (i, from, lt, rest) ↦ inr (i, from, omega (arith, lt), rest)
      ]
      | inr this ↦ inr (at, low, omega arith, this)
    ],
    λ either. elim either [
      | inl earlier ↦ (one j).1 (inl ((before j).1 (inl earlier)))
      | inr (i, from, lt, rest) ↦ elim (cases_lt i at) [
        | inl less ↦ (one j).1 (inl ((before j).1 (inr (i, from, less, rest))))
        | inr le ↦ (one j).1 (inr (subst (λ k. IsNumberAt items k j) (omega (arith, lt, le)) rest))
      ]
    ],
  )

  -- All positions, or none.
  pub listed_end : (first last at : ℕ) → last ≤ at → (first ≤ last → at ≤ last) → (last < first → at ≡ first) → (old now : List ℕ) → ((j : ℕ) → Contains now j ↔ (Contains old j ⊎ IsNumberWithin items first at j))
      → (j : ℕ) → Contains now j ↔ (Contains old j ⊎ IsNumberWithin items first last j)
  listed_end first last at ends high none old now all j = elim (cases_lt last first) [
    | inl lt ↦ (
      λ there. elim ((all j).0 there) [
        | inl was ↦ inl was
        | inr (i, from, less, rest) ↦ (let same = none lt in absurd (omega (arith, from, less, same)))
      ],
      λ either. elim either [
        | inl was ↦ (all j).1 (inl was)
        | inr (i, from, less, rest) ↦ absurd (omega (arith, from, less, lt))
      ],
    )
    | inr le ↦ (let upper = high le in let same : at ≡ last = omega (arith, upper, ends) in subst (λ k. Contains now j ↔ (Contains old j ⊎ IsNumberWithin items first k j)) same (all j))
  ]

-- A list of the jobs at positions of two lists.
pub listed_both : (none one two : List ℕ) → none ≡ [] → (P Q R : ℕ → Type 0) → ((j : ℕ) → Contains one j ↔ (Contains none j ⊎ P j)) → ((j : ℕ) → Contains two j ↔ (Contains one j ⊎ Q j)) → ((j : ℕ) → (P j ⊎ Q j) ↔ R j)
    → (j : ℕ) → Contains two j ↔ R j
listed_both none one two empty P Q R first second all j = (
  λ there. elim ((second j).0 there) [
    | inl was ↦ elim ((first j).0 was) [
      | inl nowhere ↦ (let within = subst (λ xs. Contains xs j) empty nowhere in absurd (omega (arith, within.1)))
      | inr p ↦ (all j).0 (inl p)
    ]
    | inr q ↦ (all j).0 (inr q)
  ],
  λ found. elim ((all j).1 found) [
    | inl p ↦ (second j).1 (inl ((first j).1 (inr p)))
    | inr q ↦ (second j).1 (inr q)
  ],
)

-- ## The jobs that a Clock changes

-- The dates at the positions from `low` up to `high` are those that are after a moment and not after another.
module _ (s : State) (known m : ℕ) (now : known ≡ s.moment) (holds deadlines : List Deadline) (timetable : Timetable) (timely : IsTimely (job_at s) timetable) (of : timetable.deadlines.items ≡ deadlines) (are : AreDates hold_date (job_at s) holds)
    (over last early : ℕ)
    (over_within : over ≤ length holds) (over_before : AllWithin (λ d. d.by ≤ known) holds 0 over) (over_behind : AllWithin (λ d. known < d.by) holds over (length holds))
    (last_within : last ≤ length holds) (last_before : AllWithin (λ d. d.by ≤ m) holds 0 last) (last_behind : AllWithin (λ d. m < d.by) holds last (length holds))
    (early_within : early ≤ length deadlines) (early_before : AllWithin (λ d. d.by < m) deadlines 0 early) (early_behind : AllWithin (λ d. m ≤ d.by) deadlines early (length deadlines))
    (at_most : m ≤ greatest_moment) where
  abbrev HasOver : ℕ → Type 0
  HasOver j = IsNumberWithin holds over last j

  abbrev IsLate : ℕ → Type 0
  IsLate j = IsNumberWithin deadlines 0 early j

  come_end : (hold : Hold) (j : ℕ) (d : Deadline) → end_of j hold ≡ Some d → s.moment < d.by → d.by ≤ m → has_come (end_of_hold hold s.moment) m ≡ true
  come_end Free j d never ahead reached = absurd (cc)
  come_end (Indefinite reason) j d never ahead reached = absurd (cc)
  come_end (Until until) j d own ahead reached = by_until d.by (until_of own) ahead reached
    where
      until_of : Some (record { by = until; id = j }) ≡ Some d → until ≡ d.by
      until_of e = cc

      by_until : (b : ℕ) → until ≡ b → s.moment < b → b ≤ m → has_come (end_of_hold (Until until) s.moment) m ≡ true
      by_until b same ahead reached = ap (λ x. has_come (cond x (Some until) None) m) is_ahead ∙ is_reached
        where
          is_ahead : nat_lt s.moment until ≡ true
          is_ahead = grind (arith, nat_tests)

          is_reached : nat_le until m ≡ true
          is_reached = grind (arith, nat_tests)

  come_late : (by : ℕ) → by < m → has_come (late_from (Some by)) m ≡ true
  come_late by lt = ap (λ x. has_come (cond x (Some (by + 1)) None) m) fits ∙ reached
    where
      fits : nat_le (by + 1) greatest_moment ≡ true
      fits = grind (arith, nat_tests, at_most)

      reached : nat_le (by + 1) m ≡ true
      reached = grind (arith, nat_tests)

  -- A job whose date is reached changes.
  hold_changes : (j : ℕ) → HasOver j → IsChangedJob s m j
  hold_changes j (i, low, high, (d, is, number)) = of_job (job_at s d.id) refl (are.only d there)
    where
      at : (i < length holds) × ((e : Deadline) → get_or holds i e ≡ d)
      at = get_there holds i d is

      there : Contains holds d
      there = (i, at.0, at.1 d)

      ahead : s.moment < d.by
      ahead = subst (λ n. n < d.by) now (subst (λ (e : Deadline). known < e.by) (at.1 d) (over_behind i d low at.0))

      reached : d.by ≤ m
      reached = subst (λ (e : Deadline). e.by ≤ m) (at.1 d) (last_before i d (omega arith) high)

      of_phase : (r : Job) (p : Phase) → end_of r.id (hold_of p) ≡ Some d → is_changed_in r p s.moment m ≡ true
      of_phase r (Incoming hold) own = come_end hold r.id d own ahead reached
      of_phase r (Waiting hold not_before first) own = ap (λ b. b || has_come (late_from r.by) m) (come_end hold r.id d own ahead reached)
      of_phase r (Processing attempt stage stages) own = absurd (cc)
      of_phase r Completed own = absurd (cc)
      of_phase r Canceled own = absurd (cc)
      of_phase r (Aborted reason) own = absurd (cc)

      of_job : (o : Option Job) → job_at s d.id ≡ o → date_found hold_date o ≡ Some d → IsChangedJob s m j
      of_job None here never = absurd (cc)
      of_job (Some r) here own = (r, ap (job_at s) (sym number) ∙ here, of_phase r r.phase own)

  or_true : (b : Bool) → (b || true) ≡ true
  or_true true = refl
  or_true false = refl

  late_changes : (j : ℕ) → IsLate j → IsChangedJob s m j
  late_changes j (i, low, high, (d, is, number)) = of_job (job_at s d.id) refl (timely.only d (subst (λ ds. Contains ds d) (sym of) there))
    where
      at : (i < length deadlines) × ((e : Deadline) → get_or deadlines i e ≡ d)
      at = get_there deadlines i d is

      there : Contains deadlines d
      there = (i, at.0, at.1 d)

      passed : d.by < m
      passed = subst (λ (e : Deadline). e.by < m) (at.1 d) (early_before i d (omega arith) high)

      of_phase : (r : Job) (p : Phase) → is_waiting p ≡ true → r.by ≡ Some d.by → is_changed_in r p s.moment m ≡ true
      of_phase r (Incoming hold) waits own = absurd (cc)
      of_phase r (Waiting hold not_before first) waits own =
          ap (λ o. has_come (end_of_hold hold s.moment) m || has_come (late_from o) m) own
          ∙ ap (λ b. has_come (end_of_hold hold s.moment) m || b) (come_late d.by passed)
          ∙ or_true (has_come (end_of_hold hold s.moment) m)
      of_phase r (Processing attempt stage stages) waits own = absurd (cc)
      of_phase r Completed waits own = absurd (cc)
      of_phase r Canceled waits own = absurd (cc)
      of_phase r (Aborted reason) waits own = absurd (cc)

      of_job : (o : Option Job) → job_at s d.id ≡ o → deadline_found o ≡ Some d → IsChangedJob s m j
      of_job None here never = absurd (cc)
      of_job (Some r) here is_some = (let own = deadline_own r d is_some in (r, ap (job_at s) (sym number) ∙ here, of_phase r r.phase own.0 own.1.0))

  -- A date that is reached is at one of the positions.
  over_there : (j : ℕ) (d : Deadline) → d.id ≡ j → Contains holds d → s.moment < d.by → d.by ≤ m → HasOver j
  over_there j d number there ahead reached = (there.0, low, high, (d, there_get holds there.0 d there.1 there.2, number))
    where
      low : over ≤ there.0
      low = elim (cases_lt there.0 over) [
        | inl lt ↦ (let never : d.by ≤ known = subst (λ (e : Deadline). e.by ≤ known) there.2 (over_before there.0 d (omega arith) lt) in absurd (omega (arith, never, ahead, now)))
        | inr le ↦ le
      ]

      high : there.0 < last
      high = elim (cases_lt there.0 last) [
        | inl lt ↦ lt
        | inr le ↦ (let never : m < d.by = subst (λ (e : Deadline). m < e.by) there.2 (last_behind there.0 d le there.1) in absurd (omega (arith, never, reached)))
      ]

  early_there : (j : ℕ) (d : Deadline) → d.id ≡ j → Contains deadlines d → d.by < m → IsLate j
  early_there j d number there passed = (there.0, omega arith, high, (d, there_get deadlines there.0 d there.1 there.2, number))
    where
      high : there.0 < early
      high = elim (cases_lt there.0 early) [
        | inl lt ↦ lt
        | inr le ↦ (let never : m ≤ d.by = subst (λ (e : Deadline). m ≤ e.by) there.2 (early_behind there.0 d le there.1) in absurd (omega (arith, never, passed)))
      ]

  module _ (j : ℕ) (r : Job) (there : job_at s j ≡ Some r) where
    over_by : (p : Phase) → r.phase ≡ p → has_come (end_of_hold (hold_of p) s.moment) m ≡ true → HasOver j
    over_by p is = by_hold (hold_of p) refl
      where
        by_hold : (hold : Hold) → hold_of p ≡ hold → has_come (end_of_hold hold s.moment) m ≡ true → HasOver j
        by_hold Free held come = absurd (cc)
        by_hold (Indefinite reason) held come = absurd (cc)
        by_hold (Until until) held come = either (nat_lt s.moment until) refl come
          where
            d : Deadline
            d = record { by = until; id = r.id }

            either : (b : Bool) → nat_lt s.moment until ≡ b → has_come (cond b (Some until) None) m ≡ true → HasOver j
            either true ahead reached =
                let listed = are.listed j d (ap (date_found hold_date) there ∙ ap (λ q. end_of r.id (hold_of q)) is ∙ ap (end_of r.id) held) in
                over_there j d listed.0 listed.1 (grind (arith, nat_tests)) (grind (arith, nat_tests))
            either false ahead reached = absurd (cc)

    late_by : is_waiting r.phase ≡ true → (o : Option ℕ) → r.by ≡ o → has_come (late_from o) m ≡ true → IsLate j
    late_by waits None own come = absurd (cc)
    late_by waits (Some by) own come = either (nat_le (by + 1) greatest_moment) refl come
      where
        d : Deadline
        d = record { by = by; id = r.id }

        either : (b : Bool) → nat_le (by + 1) greatest_moment ≡ b → has_come (cond b (Some (by + 1)) None) m ≡ true → IsLate j
        either true fits reached =
            let listed = timely.listed j d (ap deadline_found there ∙ deadline_made r by waits own) in
            early_there j d listed.0 (subst (λ ds. Contains ds d) of listed.1) (grind (arith, nat_tests))
        either false fits reached = absurd (cc)

    changed_by : (p : Phase) → r.phase ≡ p → is_changed_in r p s.moment m ≡ true → HasOver j ⊎ IsLate j
    changed_by (Incoming hold) is changed = inl (over_by (Incoming hold) is changed)
    changed_by (Waiting hold not_before first) is changed = either (has_come (end_of_hold hold s.moment) m) refl changed
      where
        either : (b : Bool) → has_come (end_of_hold hold s.moment) m ≡ b → (b || has_come (late_from r.by) m) ≡ true → HasOver j ⊎ IsLate j
        either true come rest = inl (over_by (Waiting hold not_before first) is come)
        either false come rest = inr (late_by (ap is_waiting is) r.by refl rest)
    changed_by (Processing attempt stage stages) is changed = absurd (cc)
    changed_by Completed is changed = absurd (cc)
    changed_by Canceled is changed = absurd (cc)
    changed_by (Aborted reason) is changed = absurd (cc)

  -- The jobs at these positions are those that the Clock changes.
  pub changed_jobs : (j : ℕ) → (HasOver j ⊎ IsLate j) ↔ IsChangedJob s m j
  changed_jobs j = (
    λ either. elim either [ inl hold ↦ hold_changes j hold | inr late ↦ late_changes j late ],
    λ found. changed_by j found.0 found.1 (found.0).phase refl found.2,
  )

-- ## Jobs that go on

not_then : (b : Bool) → not b ≡ true → b ≡ false
not_then true is = absurd (cc)
not_then false is = refl

neither_of : (a b : Bool) → (a || b) ≡ false → (a ≡ false) × (b ≡ false)
neither_of true b is = absurd (cc)
neither_of false b is = (refl, is)

stopped_queue : (o : Option QueueRow) → is_stopped_row o ≡ false → (q : QueueRow) × (o ≡ Some q) × (q.stopped ≡ false)
stopped_queue None is = absurd (cc)
stopped_queue (Some q) is = (q, refl, is)

module _ (s : State) (legal : IsLegal s) (idle : HasNoProcessing s) where
  not_busy : (name : List ℕ) → is_busy (finite.values s.jobs) name ≡ false
  not_busy name = false_from_ne_true (is_busy (finite.values s.jobs) name) (λ busy.
      let found = passing (λ (r : Job). is_of name r && is_processing r.phase) (finite.values s.jobs) busy in
      both_ways (is_processing found.0.phase) (idle found.0.id found.0 (there_value s legal found.0 found.1)) (and_parts (is_of name found.0) (is_processing found.0.phase) found.2).1)

  -- If no queue starts a job and none is processing, none is due at once.
  pub none_at_once : ((name : List ℕ) (q : QueueRow) → queue_at s name ≡ Some q → (j : ℕ) (r : Job) → job_at s j ≡ Some r → is_eligible (finite.values s.jobs) name q.stopped s.moment r ≡ false)
      → (j : ℕ) (r : Job) → job_at s j ≡ Some r → is_at_once s r ≡ false
  none_at_once none j r there = by_phase r.phase refl
    where
      eligible : (hold : Hold) (not_before : ℕ) (first : Bool) → r.phase ≡ Waiting hold not_before first → nat_lt s.moment not_before ≡ false → is_in_force s.moment hold ≡ false → (q : QueueRow) → q.stopped ≡ false
          → is_eligible (finite.values s.jobs) r.queue q.stopped s.moment r ≡ true
      eligible hold not_before first is waited free q goes =
          (λ i. (not (goes i) && not (not_busy r.queue i)) && (own i && is_ready s.moment (is i)))
          ∙ (λ i. not (free i) && ready i)
        where
          own : is_of r.queue r ≡ true
          own = (bytes_decides r.queue r.queue).1 refl

          ready : nat_le not_before s.moment ≡ true
          ready = grind (arith, nat_tests)

      by_phase : (p : Phase) → r.phase ≡ p → is_at_once_in s r p ≡ false
      by_phase (Incoming hold) is = refl
      by_phase (Waiting hold not_before first) is = false_from_ne_true (not (nat_lt s.moment not_before) && not (is_in_force s.moment hold || is_stopped s r)) (λ now.
          let parts = and_parts (not (nat_lt s.moment not_before)) (not (is_in_force s.moment hold || is_stopped s r)) now in
          let free = neither_of (is_in_force s.moment hold) (is_stopped s r) (not_then (is_in_force s.moment hold || is_stopped s r) parts.1) in
          let queue = stopped_queue (queue_at s r.queue) free.1 in
          both_ways (is_eligible (finite.values s.jobs) r.queue queue.0.stopped s.moment r) (none r.queue queue.0 queue.1 j r there)
          (eligible hold not_before first is (not_then (nat_lt s.moment not_before) parts.0) free.0 queue.0 queue.2))
      by_phase (Processing attempt stage stages) is = absurd (both_ways (is_processing r.phase) (idle j r there) (ap is_processing is))
      by_phase Completed is = refl
      by_phase Canceled is = refl
      by_phase (Aborted reason) is = refl

-- If no row of a queue has a job to start, no queue has.
pub no_row_starts : (s : State) → IsLegal s → (rows : List QueueRow) → rows ≡ finite.values s.queues → (n : ℕ) → length rows ≤ n
    → ((i : ℕ) (d : QueueRow) → i < n → (q : QueueRow) → queue_at s (get_or (finite.values s.queues) i d).name ≡ Some q
    → (j : ℕ) (r : Job) → job_at s j ≡ Some r → is_eligible (finite.values s.jobs) (get_or (finite.values s.queues) i d).name q.stopped s.moment r ≡ false)
    → (name : List ℕ) (q : QueueRow) → queue_at s name ≡ Some q → (j : ℕ) (r : Job) → job_at s j ≡ Some r → is_eligible (finite.values s.jobs) name q.stopped s.moment r ≡ false
no_row_starts s legal rows same n ends none name q of =
    let there = found_value (slice_cmp nat_cmp) (finite.entries s.queues) name q (sym (finite.get-entries s.queues name) ∙ of) in
    let own : (get_or (finite.values s.queues) there.0 q).name ≡ name = ap (λ (x : QueueRow). x.name) there.2 ∙ legal.names name q of in
    subst (λ k. (x : QueueRow) → queue_at s k ≡ Some x → (j : ℕ) (r : Job) → job_at s j ≡ Some r → is_eligible (finite.values s.jobs) k x.stopped s.moment r ≡ false) own
    (none there.0 q (omega (arith, there.1, ap length same, ends))) q of

-- A job that a queue may start is due at once.
pub some_at_once : (s : State) → (name : List ℕ) × (q : QueueRow) × (j : ℕ) × (r : Job) × (queue_at s name ≡ Some q) × (job_at s j ≡ Some r) × (is_eligible (finite.values s.jobs) name q.stopped s.moment r ≡ true)
    → ¬ ((j : ℕ) (r : Job) → job_at s j ≡ Some r → is_at_once s r ≡ false)
some_at_once s (name, q, j, r, of, there, eligible) none = both_ways (is_at_once s r) (none j r there) (by_phase r.phase ready.1)
  where
    parts : ((not q.stopped && not (is_busy (finite.values s.jobs) name)) ≡ true) × ((is_of name r && is_ready s.moment r.phase) ≡ true)
    parts = and_parts (not q.stopped && not (is_busy (finite.values s.jobs) name)) (is_of name r && is_ready s.moment r.phase) eligible

    ready : (is_of name r ≡ true) × (is_ready s.moment r.phase ≡ true)
    ready = and_parts (is_of name r) (is_ready s.moment r.phase) parts.1

    goes : is_stopped s r ≡ false
    goes =
        ap is_stopped_row (ap (queue_at s) ((bytes_decides r.queue name).0 ready.0) ∙ of)
        ∙ not_then q.stopped (and_parts (not q.stopped) (not (is_busy (finite.values s.jobs) name)) parts.0).0

    by_phase : (p : Phase) → is_ready s.moment p ≡ true → is_at_once_in s r p ≡ true
    by_phase (Incoming hold) is = absurd (cc)
    by_phase (Waiting hold not_before first) is =
        let may = and_parts (not (is_in_force s.moment hold)) (nat_le not_before s.moment) is in
        let free : is_in_force s.moment hold ≡ false = not_then (is_in_force s.moment hold) may.0 in
        let waited : nat_lt s.moment not_before ≡ false = grind (arith, nat_tests, may.1) in
        λ i. not (waited i) && not (free i || goes i)
    by_phase (Processing attempt stage stages) is = absurd (cc)
    by_phase Completed is = absurd (cc)
    by_phase Canceled is = absurd (cc)
    by_phase (Aborted reason) is = absurd (cc)

-- A processing job is due at once.
pub idle_if_none : (s : State) → ((j : ℕ) (r : Job) → job_at s j ≡ Some r → is_at_once s r ≡ false) → HasNoProcessing s
idle_if_none s none j r there = by_phase r.phase (none j r there)
  where
    by_phase : (p : Phase) → is_at_once_in s r p ≡ false → is_processing p ≡ false
    by_phase (Incoming hold) is = refl
    by_phase (Waiting hold not_before first) is = refl
    by_phase (Processing attempt stage stages) is = absurd (cc)
    by_phase Completed is = refl
    by_phase Canceled is = refl
    by_phase (Aborted reason) is = refl
