-- The timetable of the jobs of a table, and the timetable after a job got another deadline.
use Rattle.std.proofs.Common.{◌≡◌, ℕ, ◌+◌, ◌<◌, ◌≤◌, ◌⊎◌, inl, inr, Bool, true, false, cond, List, [], ◌∷◌, length, map, Option, Some, None, refl, sym, ap, subst, ◌∙◌, arith, rules}
use Rattle.std.specs.Prelude.{◌↔◌, is_some}
use Rattle.std.specs.Option.{option_map}
use Rattle.std.specs.List.{Contains, AllPairs, AllByRecursion}
use Rattle.std.proofs.lemmas.Bool.{cases_eq}
use Rattle.std.proofs.lemmas.List.{length-map}
use Rattle.spool_types.specs.Phases.{is_waiting}
use Rattle.spool_types.specs.State.{Job}
use Rattle.queue_sched.specs.Deadlines.{Limits, InTurn, LacksDeadline, comes_before}
use Rattle.queue_sched.specs.declared.deadlines.Deadline.{Deadline}
use Rattle.job_table.specs.Lanes.{AtMost}
use Rattle.job_table.specs.Timely.{deadline_of, deadline_found, has_by, unsorted, IsAdmitted, IsDismissed, IsTimely, IsRetimed}
use Rattle.job_table.specs.declared.timetable.Timetable.{Timetable}
use Rattle.job_table.proofs.Lanes.{all_from, all_numbers, apart_in_order, as_many, differ_numbers, no_more, none_pass, one_less, one_more}

-- ## The deadline of a job

-- The deadline belongs to the job, which is waiting and must start by its moment.
pub deadline_own : (r : Job) (d : Deadline) → deadline_of r ≡ Some d → (is_waiting r.phase ≡ true) × ((r.by ≡ Some d.by) × (r.id ≡ d.id))
deadline_own r d is = by_phase (is_waiting r.phase) r.by refl is
  where
    made : (by : ℕ) → Some (record { by = by; id = r.id }) ≡ Some d → (Some by ≡ Some d.by) × (r.id ≡ d.id)
    made by same = (ap (λ (o : Option Deadline). option_map (λ (e : Deadline). e.by) o) same, by_some same)
      where
        by_some : Some (record { by = by; id = r.id }) ≡ Some d → r.id ≡ d.id
        by_some e = cc

    by_phase : (b : Bool) (o : Option ℕ) → is_waiting r.phase ≡ b → cond b (option_map (λ by. record { by = by; id = r.id }) o) None ≡ Some d → (b ≡ true) × ((o ≡ Some d.by) × (r.id ≡ d.id))
    by_phase true None waits same = absurd (cc)
    by_phase true (Some by) waits same = (refl, made by same)
    by_phase false o waits same = absurd (cc)

pub deadline_made : (r : Job) (by : ℕ) → is_waiting r.phase ≡ true → r.by ≡ Some by → deadline_of r ≡ Some (record { by = by; id = r.id })
deadline_made r by waits is =
    ap (λ b. cond b (option_map (λ m. record { by = m; id = r.id }) r.by) None) waits
    ∙ ap (option_map (λ m. record { by = m; id = r.id })) is

pub deadline_timed : (o : Option Job) (d : Deadline) → deadline_found o ≡ Some d → has_by o ≡ true
deadline_timed None d is = absurd (cc)
deadline_timed (Some r) d is = ap is_some (deadline_own r d is).1.0

-- ## One timetable

before_itself : (d : Deadline) → comes_before d d ≡ false
before_itself d = search rules

same_deadline : (d e : Deadline) → Some d ≡ Some e → d ≡ e
same_deadline d e is = cc

module _ (jobs : ℕ → Option Job) (t : Timetable) (is : IsTimely jobs t) where
  -- No two deadlines belong to the same job.
  deadlines_apart : InTurn t.deadlines.items → AllPairs (λ d e. ¬ (e.id ≡ d.id)) t.deadlines.items
  deadlines_apart order =
      apart_in_order (λ (d : Deadline). d.id) comes_before before_itself (λ d. deadline_found (jobs d.id) ≡ Some d)
      (λ d e own own_too same. same_deadline d e (sym own ∙ ap (λ k. deadline_found (jobs k)) same ∙ own_too)) t.deadlines.items order is.only

  -- A job without a deadline has none in the list.
  pub lacks_deadline : (j : ℕ) → deadline_found (jobs j) ≡ None → LacksDeadline t.deadlines.items j
  lacks_deadline j none d there same = (let no : Some d ≡ None = sym (is.only d there) ∙ ap (λ k. deadline_found (jobs k)) same ∙ none in absurd (cc))

  -- There is room for the deadline of a job that has none yet.
  pub room_for_one : InTurn t.deadlines.items → (j : ℕ) → deadline_found (jobs j) ≡ None → has_by (jobs j) ≡ true → length t.deadlines.items < t.timed
  room_for_one order j none timed =
      let items = t.deadlines.items in
      let others : AllByRecursion (λ k. ¬ (k ≡ j)) (map (λ d. d.id) items) =
      all_numbers (λ (d : Deadline). d.id) items (λ k. ¬ (k ≡ j)) (all_from (λ d. ¬ (d.id ≡ j)) items (lacks_deadline j none)) in
      let all : AllByRecursion (λ k. has_by (jobs k) ≡ true) (map (λ d. d.id) items) =
      all_numbers (λ (d : Deadline). d.id) items (λ k. has_by (jobs k) ≡ true) (all_from (λ d. has_by (jobs d.id) ≡ true) items (λ d there. deadline_timed (jobs d.id) d (is.only d there))) in
      let most : length (j ∷ map (λ d. d.id) items) ≤ t.timed =
      is.few (j ∷ map (λ d. d.id) items) (others, differ_numbers (λ (d : Deadline). d.id) items (deadlines_apart order)) (timed, all) in
      omega (arith, most, length-map items (λ d. d.id))

-- ## A job gets another deadline

module _ (old new : ℕ → Option Job) (j : ℕ) (t : Timetable) (is : IsTimely old t) where
  module _ (to : Option Deadline) (retimed : IsRetimed old new j to) where
    few_too : (k : ℕ) → has_by (new k) ≡ true → has_by (old k) ≡ true
    few_too k timed = sym (retimed.timed k) ∙ timed

    -- The deadlines of other jobs do not change.
    kept : (k : ℕ) (d : Deadline) → ¬ (k ≡ j) → deadline_found (new k) ≡ Some d → deadline_found (old k) ≡ Some d
    kept k d other at = sym (retimed.others k other) ∙ at

  pub retimed_same : IsRetimed old new j (deadline_found (old j)) → IsTimely new t
  retimed_same retimed = record {
    only = λ d there. same d.id ∙ is.only d there;
    listed = λ k d at. is.listed k d (sym (same k) ∙ at);
    few = no_more (λ k. has_by (old k)) (λ k. has_by (new k)) t.timed is.few (few_too _ retimed);
    room = is.room;
  }
    where
      same : (k : ℕ) → deadline_found (new k) ≡ deadline_found (old k)
      same k = elim (cases_eq k j) [
        | inl own ↦ ap (λ i. deadline_found (new i)) own ∙ retimed.own ∙ ap (λ i. deadline_found (old i)) (sym own)
        | inr other ↦ retimed.others k other
      ]

  -- The job no longer has a deadline.
  pub retimed_less : (d : Deadline) → deadline_found (old j) ≡ Some d → IsRetimed old new j None → (l : Limits) → ((e : Deadline) → Contains l.items e ↔ (Contains t.deadlines.items e × ¬ (e ≡ d))) → l.room ≡ t.deadlines.room
      → IsTimely new (record t { deadlines = l })
  retimed_less d was retimed l items room = record {
    only = λ e there.
        let before = (items e).0 there in
        retimed.others e.id (λ own. before.1 (same_deadline e d (sym (is.only e before.0) ∙ ap (λ i. deadline_found (old i)) own ∙ was))) ∙ is.only e before.0;
    listed = λ k e at.
        let other : ¬ (k ≡ j) = λ own. (let no : None ≡ Some e = sym retimed.own ∙ ap (λ i. deadline_found (new i)) (sym own) ∙ at in absurd (cc)) in
        let before = is.listed k e (kept None retimed k e other at) in
        (before.0, (items e).1 (before.1, λ same. other (sym before.0 ∙ ap (λ (f : Deadline). f.id) same ∙ (is.listed j d was).0)));
    few = no_more (λ k. has_by (old k)) (λ k. has_by (new k)) t.timed is.few (few_too None retimed);
    room = rw room is.room;
  }

  -- The job has a deadline now.
  pub retimed_more : (d : Deadline) → d.id ≡ j → deadline_found (old j) ≡ None → IsRetimed old new j (Some d) → (l : Limits) → ((e : Deadline) → Contains l.items e ↔ (Contains t.deadlines.items e ⊎ (e ≡ d))) → l.room ≡ t.deadlines.room
      → IsTimely new (record t { deadlines = l })
  retimed_more d number was retimed l items room = record {
    only = λ e there. elim ((items e).0 there) [
      | inl before ↦ retimed.others e.id (λ own. lacks_deadline old t is j was e before own) ∙ is.only e before
      | inr same ↦ ap (λ (f : Deadline). deadline_found (new f.id)) same ∙ ap (λ i. deadline_found (new i)) number ∙ retimed.own ∙ ap Some (sym same)
    ];
    listed = λ k e at. elim (cases_eq k j) [
      | inl own ↦ (let same : e ≡ d = same_deadline e d (sym at ∙ ap (λ i. deadline_found (new i)) own ∙ retimed.own) in
          (ap (λ (f : Deadline). f.id) same ∙ number ∙ sym own, (items e).1 (inr same)))
      | inr other ↦ (let before = is.listed k e (kept (Some d) retimed k e other at) in (before.0, (items e).1 (inl before.1)))
    ];
    few = no_more (λ k. has_by (old k)) (λ k. has_by (new k)) t.timed is.few (few_too (Some d) retimed);
    room = rw room is.room;
  }

-- ## No jobs

pub no_deadlines : (l : Limits) → l.items ≡ [] → (jobs : ℕ → Option Job) → ((j : ℕ) → jobs j ≡ None) → IsTimely jobs (record { deadlines = l; timed = 0 })
no_deadlines l none jobs absent = record {
  only = λ d there. absurd (nothing d (subst (λ ds. Contains ds d) none there));
  listed = λ j d at. (let no : None ≡ Some d = sym (ap deadline_found (absent j)) ∙ at in absurd (cc));
  few = none_pass (λ j. has_by (jobs j)) (λ j. ap has_by (absent j));
  room = omega arith;
}
  where
    nothing : (d : Deadline) → Contains [] d → ⊥
    nothing d there = omega (arith, there.1)

-- ## Deadlines in order

pub sorted_timely : (items : List Deadline) (timed : ℕ) (l : Limits) → ((d : Deadline) → Contains l.items d ↔ Contains items d) → timed ≤ l.room
    → (jobs : ℕ → Option Job) → IsTimely jobs (unsorted items timed) → IsTimely jobs (record { deadlines = l; timed = timed })
sorted_timely items timed l same room jobs is = record {
  only = λ d there. is.only d ((same d).0 there);
  listed = λ j d at. (let listed = is.listed j d at in (listed.0, (same d).1 listed.1));
  few = is.few;
  room = room;
}

-- ## A new job

-- A timetable depends only on the deadlines of the jobs.
pub timely_as : (old new : ℕ → Option Job) (t : Timetable) → ((k : ℕ) → new k ≡ old k) → IsTimely old t → IsTimely new t
timely_as old new t same is = record {
  only = λ d there. ap deadline_found (same d.id) ∙ is.only d there;
  listed = λ j d at. is.listed j d (ap deadline_found (sym (same j)) ∙ at);
  few = no_more (λ k. has_by (old k)) (λ k. has_by (new k)) t.timed is.few (λ k timed. ap has_by (sym (same k)) ∙ timed);
  room = is.room;
}

module _ (old new : ℕ → Option Job) (j : ℕ) (t : Timetable) (is : IsTimely old t) (timed : Bool) (admitted : IsAdmitted old new j timed) where
  same_deadlines : (k : ℕ) → deadline_found (new k) ≡ deadline_found (old k)
  same_deadlines k = elim (cases_eq k j) [
    | inl own ↦ ap (λ i. deadline_found (new i)) own ∙ admitted.own ∙ sym (ap (λ i. deadline_found (old i)) own ∙ ap deadline_found admitted.absent)
    | inr other ↦ ap deadline_found (admitted.others k other)
  ]

  others_timed : (k : ℕ) → ¬ (k ≡ j) → has_by (new k) ≡ has_by (old k)
  others_timed k other = ap has_by (admitted.others k other)

  -- The job need not start by any moment.
  pub admitted_free : timed ≡ false → IsTimely new t
  admitted_free free = record {
    only = λ d there. same_deadlines d.id ∙ is.only d there;
    listed = λ k d at. is.listed k d (sym (same_deadlines k) ∙ at);
    few = as_many (λ k. has_by (old k)) (λ k. has_by (new k)) j t.timed is.few others_timed (admitted.by ∙ free);
    room = is.room;
  }

  -- The job must start by a moment, so one more job is counted.
  pub admitted_timed : (n : ℕ) → n ≡ t.timed + 1 → t.timed < t.deadlines.room → IsTimely new (record t { timed = n })
  admitted_timed n more space = record {
    only = λ d there. same_deadlines d.id ∙ is.only d there;
    listed = λ k d at. is.listed k d (sym (same_deadlines k) ∙ at);
    few = subst (AtMost (λ k. has_by (new k))) (sym more) (one_more (λ k. has_by (old k)) (λ k. has_by (new k)) j t.timed is.few others_timed);
    room = omega (arith, more, space);
  }

-- ## A removed job

module _ (old new : ℕ → Option Job) (j : ℕ) (t : Timetable) (is : IsTimely old t) (timed : Bool) (dismissed : IsDismissed old new j timed) where
  kept_deadlines : (k : ℕ) → deadline_found (new k) ≡ deadline_found (old k)
  kept_deadlines k = elim (cases_eq k j) [
    | inl own ↦ ap (λ i. deadline_found (new i)) own ∙ ap deadline_found dismissed.absent ∙ sym (ap (λ i. deadline_found (old i)) own ∙ dismissed.own)
    | inr other ↦ ap deadline_found (dismissed.others k other)
  ]

  kept_timed : (k : ℕ) → ¬ (k ≡ j) → has_by (new k) ≡ has_by (old k)
  kept_timed k other = ap has_by (dismissed.others k other)

  -- The job did not have to start by any moment.
  pub dismissed_free : IsTimely new t
  dismissed_free = record {
    only = λ d there. kept_deadlines d.id ∙ is.only d there;
    listed = λ k d at. is.listed k d (sym (kept_deadlines k) ∙ at);
    few = as_many (λ k. has_by (old k)) (λ k. has_by (new k)) j t.timed is.few kept_timed (ap has_by dismissed.absent);
    room = is.room;
  }

  -- The job had to start by a moment, and was counted.
  pub dismissed_timed : timed ≡ true → (n : ℕ) → n + 1 ≡ t.timed → IsTimely new (record t { timed = n })
  dismissed_timed was n less = record {
    only = λ d there. kept_deadlines d.id ∙ is.only d there;
    listed = λ k d at. is.listed k d (sym (kept_deadlines k) ∙ at);
    few = one_less (λ k. has_by (old k)) (λ k. has_by (new k)) j t.timed is.few kept_timed (ap has_by dismissed.absent) (dismissed.by ∙ was) n less;
    room = (let before = is.room in omega (arith, less, before));
  }

pub no_more_timed : (timed : Bool) (n m : ℕ) → n + cond timed 1 0 ≡ m → n ≤ m
no_more_timed true n m is = omega (arith, is)
no_more_timed false n m is = omega (arith, is)
