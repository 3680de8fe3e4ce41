-- The agenda of the jobs of a table, and its lists after a job got other dates.
use Rattle.std.proofs.Common.{◌≡◌, ℕ, ◌+◌, ◌<◌, ◌≤◌, ◌⊎◌, inl, inr, Bool, true, false, cond, nat_lt, List, [], ◌∷◌, length, map, Option, Some, None, refl, sym, ap, subst, ◌∙◌, arith, rules}
use Rattle.std.specs.Prelude.{◌↔◌, is_some}
use Rattle.std.specs.List.{Contains, AllPairs, AllByRecursion}
use Rattle.std.proofs.lemmas.Bool.{cases_eq}
use Rattle.std.proofs.lemmas.List.{length-map}
use Rattle.spool_types.specs.declared.phase.Hold.{Hold}
use Rattle.spool_types.specs.declared.phase.Hold.TheVariants.{Free, Indefinite, Until}
use Rattle.spool_types.specs.declared.phase.Phase.{Phase}
use Rattle.spool_types.specs.declared.phase.Phase.TheVariants.{Incoming, Waiting, Processing, Completed, Canceled, Aborted}
use Rattle.spool_types.specs.Phases.{has_ended, hold_of}
use Rattle.spool_types.specs.State.{Job}
use Rattle.queue_sched.specs.Deadlines.{Limits, InTurn, LacksDeadline, comes_before}
use Rattle.queue_sched.specs.declared.deadlines.Deadline.{Deadline}
use Rattle.job_table.specs.Agendas.{dates_found, date_found, end_of, retry_in, hold_date, retry_date, ended_date, AreDates, IsAgenda, IsRedated, MayList, MayRedate}
use Rattle.job_table.specs.Lanes.{AtMost}
use Rattle.job_table.specs.declared.agenda.Agenda.{Agenda}
use Rattle.job_table.specs.declared.agenda.Dates.{Dates}
use Rattle.job_table.proofs.Lanes.{all_from, all_numbers, apart_in_order, as_many, differ_numbers, no_more, none_pass, one_less, one_more}

before_itself : (d : Deadline) → comes_before d d ≡ false
before_itself d = search rules

pub same_date : (d e : Deadline) → Some d ≡ Some e → d ≡ e
same_date d e is = cc

date_exists : (date : Job → Option Deadline) (o : Option Job) (d : Deadline) → date_found date o ≡ Some d → is_some o ≡ true
date_exists date None d is = absurd (cc)
date_exists date (Some r) d is = refl

-- ## One list

module _ (date : Job → Option Deadline) (jobs : ℕ → Option Job) (items : List Deadline) (is : AreDates date jobs items) where
  -- No two dates belong to the same job.
  dates_apart : InTurn items → AllPairs (λ d e. ¬ (e.id ≡ d.id)) items
  dates_apart order =
      apart_in_order (λ (d : Deadline). d.id) comes_before before_itself (λ d. date_found date (jobs d.id) ≡ Some d)
      (λ d e own own_too same. same_date d e (sym own ∙ ap (λ k. date_found date (jobs k)) same ∙ own_too)) items order is.only

  -- A job without a date has none in the list.
  pub lacks_date : (j : ℕ) → date_found date (jobs j) ≡ None → LacksDeadline items j
  lacks_date j none d there same = (let no : Some d ≡ None = sym (is.only d there) ∙ ap (λ k. date_found date (jobs k)) same ∙ none in absurd (cc))

  all_exist : AllByRecursion (λ k. is_some (jobs k) ≡ true) (map (λ d. d.id) items)
  all_exist = all_numbers (λ (d : Deadline). d.id) items (λ k. is_some (jobs k) ≡ true)
      (all_from (λ d. is_some (jobs d.id) ≡ true) items (λ d there. date_exists date (jobs d.id) d (is.only d there)))

  -- There are at most as many dates as jobs.
  pub few_dates : InTurn items → (n : ℕ) → AtMost (λ k. is_some (jobs k)) n → length items ≤ n
  few_dates order n few =
      let most : length (map (λ d. d.id) items) ≤ n = few (map (λ d. d.id) items) (differ_numbers (λ (d : Deadline). d.id) items (dates_apart order)) all_exist in
      omega (arith, most, length-map items (λ d. d.id))

  few_others : InTurn items → (n : ℕ) → AtMost (λ k. is_some (jobs k)) n → (j : ℕ) → date_found date (jobs j) ≡ None → is_some (jobs j) ≡ true → length items < n
  few_others order n few j none exists =
      let others : AllByRecursion (λ k. ¬ (k ≡ j)) (map (λ d. d.id) items) =
      all_numbers (λ (d : Deadline). d.id) items (λ k. ¬ (k ≡ j)) (all_from (λ d. ¬ (d.id ≡ j)) items (lacks_date j none)) in
      let most : length (j ∷ map (λ d. d.id) items) ≤ n =
      few (j ∷ map (λ d. d.id) items) (others, differ_numbers (λ (d : Deadline). d.id) items (dates_apart order)) (exists, all_exist) in
      omega (arith, most, length-map items (λ d. d.id))

-- There is room for the date of a job that has none.
pub room_for_date : (list : Limits) (j : ℕ) (to : Option Deadline) (may : MayList list j None to) → InTurn list.items → length list.items < list.room
room_for_date list j to may order = either (is_some (may.jobs j)) refl
  where
    either : (b : Bool) → is_some (may.jobs j) ≡ b → length list.items < list.room
    either true exists = (let few = few_others may.date may.jobs list.items may.dates order may.count may.few j may.own exists in omega (arith, few, may.fits))
    either false absent = (let few = few_dates may.date may.jobs list.items may.dates order may.count may.few in omega (arith, few, may.room absent))

-- ## A job gets another date

module _ (date : Job → Option Deadline) (old new : ℕ → Option Job) (j : ℕ) (items : List Deadline) (is : AreDates date old items) (others : (k : ℕ) → ¬ (k ≡ j) → new k ≡ old k) where
  pub relisted_same : date_found date (new j) ≡ date_found date (old j) → AreDates date new items
  relisted_same own = record {
    only = λ d there. same d.id ∙ is.only d there;
    listed = λ k d at. is.listed k d (sym (same k) ∙ at);
  }
    where
      same : (k : ℕ) → date_found date (new k) ≡ date_found date (old k)
      same k = elim (cases_eq k j) [
        | inl equal ↦ ap (λ i. date_found date (new i)) equal ∙ own ∙ ap (λ i. date_found date (old i)) (sym equal)
        | inr other ↦ ap (date_found date) (others k other)
      ]

  module _ (from to : Option Deadline) (before : date_found date (old j) ≡ from) (after : date_found date (new j) ≡ to) (number : (d : Deadline) → to ≡ Some d → d.id ≡ j) where
    pub relisted : (result : List Deadline) → ((d : Deadline) → Contains result d ↔ ((Contains items d × ¬ (from ≡ Some d)) ⊎ (to ≡ Some d))) → AreDates date new result
    relisted result same = record {
      only = λ d there. elim ((same d).0 there) [
        | inl was ↦
            (let other : ¬ (d.id ≡ j) = λ own. was.1 (sym before ∙ ap (λ k. date_found date (old k)) (sym own) ∙ is.only d was.0) in
            ap (date_found date) (others d.id other) ∙ is.only d was.0)
        | inr now ↦ ap (λ k. date_found date (new k)) (number d now) ∙ after ∙ now
      ];
      listed = λ k d at. elim (cases_eq k j) [
        | inl own ↦
            (let now : to ≡ Some d = sym after ∙ ap (λ i. date_found date (new i)) (sym own) ∙ at in
            (number d now ∙ sym own, (same d).1 (inr now)))
        | inr other ↦
            (let was = is.listed k d (sym (ap (date_found date) (others k other)) ∙ at) in
            (was.0, (same d).1 (inl (was.1, λ own. other (sym was.0 ∙ (is.listed j d (before ∙ own)).0)))))
      ];
    }

-- The list after a date was removed, added, or both.
module _ (items : List Deadline) where
  pub with_less : (before : Deadline) (less : List Deadline) → ((d : Deadline) → Contains less d ↔ (Contains items d × ¬ (d ≡ before)))
      → (d : Deadline) → Contains less d ↔ ((Contains items d × ¬ (Some before ≡ Some d)) ⊎ (None ≡ Some d))
  with_less before less removed d = (
    λ there. (let was = (removed d).0 there in inl (was.0, λ same. was.1 (sym (same_date before d same)))),
    λ either. elim either [
      | inl was ↦ (removed d).1 (was.0, λ same. was.1 (ap Some (sym same)))
      | inr never ↦ absurd (cc)
    ],
  )

  pub with_more : (after : Deadline) (more : List Deadline) → ((d : Deadline) → Contains more d ↔ (Contains items d ⊎ (d ≡ after)))
      → (d : Deadline) → Contains more d ↔ ((Contains items d × ¬ (None ≡ Some d)) ⊎ (Some after ≡ Some d))
  with_more after more added d = (
    λ there. elim ((added d).0 there) [
      | inl was ↦ inl (was, λ never. absurd (cc))
      | inr now ↦ inr (ap Some (sym now))
    ],
    λ either. elim either [
      | inl was ↦ (added d).1 (inl was.0)
      | inr now ↦ (added d).1 (inr (sym (same_date after d now)))
    ],
  )

  pub with_other : (before after : Deadline) (result : List Deadline) → ((d : Deadline) → Contains result d ↔ ((Contains items d × ¬ (d ≡ before)) ⊎ (d ≡ after)))
      → (d : Deadline) → Contains result d ↔ ((Contains items d × ¬ (Some before ≡ Some d)) ⊎ (Some after ≡ Some d))
  with_other before after result replaced d = (
    λ there. elim ((replaced d).0 there) [
      | inl was ↦ inl (was.0, λ same. was.1 (sym (same_date before d same)))
      | inr now ↦ inr (ap Some (sym now))
    ],
    λ either. elim either [
      | inl was ↦ (replaced d).1 (inl (was.0, λ same. was.1 (ap Some (sym same))))
      | inr now ↦ (replaced d).1 (inr (sym (same_date after d now)))
    ],
  )

  pub replaced : (before after : Deadline) (less result : List Deadline) → ((d : Deadline) → Contains less d ↔ (Contains items d × ¬ (d ≡ before))) → ((d : Deadline) → Contains result d ↔ (Contains less d ⊎ (d ≡ after)))
      → (d : Deadline) → Contains result d ↔ ((Contains items d × ¬ (d ≡ before)) ⊎ (d ≡ after))
  replaced before after less result removed added d = (
    λ there. elim ((added d).0 there) [ inl was ↦ inl ((removed d).0 was) | inr now ↦ inr now ],
    λ either. elim either [ inl was ↦ (added d).1 (inl ((removed d).1 was)) | inr now ↦ (added d).1 (inr now) ],
  )

-- ## All lists

pub hold_there : (o : Option Job) → date_found hold_date o ≡ (dates_found o).hold
hold_there None = refl
hold_there (Some r) = refl

pub retry_there : (o : Option Job) → date_found retry_date o ≡ (dates_found o).retry
retry_there None = refl
retry_there (Some r) = refl

pub ended_there : (o : Option Job) → date_found ended_date o ≡ (dates_found o).ended
ended_there None = refl
ended_there (Some r) = refl

pub exists_there : (o : Option Job) → is_some o ≡ (dates_found o).exists
exists_there None = refl
exists_there (Some r) = refl

-- An agenda depends only on the jobs.
pub agenda_as : (old new : ℕ → Option Job) (a : Agenda) → ((k : ℕ) → new k ≡ old k) → IsAgenda old a → IsAgenda new a
agenda_as old new a same is = record {
  holds = dates_as hold_date a.holds.items is.holds;
  retries = dates_as retry_date a.retries.items is.retries;
  ended = dates_as ended_date a.ended.items is.ended;
  few = no_more (λ k. is_some (old k)) (λ k. is_some (new k)) a.jobs is.few (λ k exists. ap is_some (sym (same k)) ∙ exists);
  fits = is.fits;
  holds_room = is.holds_room;
  retries_room = is.retries_room;
  ended_room = is.ended_room;
}
  where
    dates_as : (date : Job → Option Deadline) (items : List Deadline) → AreDates date old items → AreDates date new items
    dates_as date items dates = record {
      only = λ d there. ap (date_found date) (same d.id) ∙ dates.only d there;
      listed = λ j d at. dates.listed j d (ap (date_found date) (sym (same j)) ∙ at);
    }

-- The number of jobs after one has appeared or disappeared.
module _ (old new : ℕ → Option Job) (j n : ℕ) (few : AtMost (λ k. is_some (old k)) n) (to : Dates) (redated : IsRedated old new j to) where
  others_exist : (k : ℕ) → ¬ (k ≡ j) → is_some (new k) ≡ is_some (old k)
  others_exist k other = ap is_some (redated.others k other)

  exists_now : is_some (new j) ≡ to.exists
  exists_now = exists_there (new j) ∙ ap (λ (d : Dates). d.exists) redated.own

  pub few_more : AtMost (λ k. is_some (new k)) (n + 1)
  few_more = one_more (λ k. is_some (old k)) (λ k. is_some (new k)) j n few others_exist

  pub few_same : to.exists ≡ false → AtMost (λ k. is_some (new k)) n
  few_same absent = as_many (λ k. is_some (old k)) (λ k. is_some (new k)) j n few others_exist (exists_now ∙ absent)

  pub few_kept : is_some (old j) ≡ true → AtMost (λ k. is_some (new k)) n
  few_kept exists = no_more (λ k. is_some (old k)) (λ k. is_some (new k)) n few (λ k now. elim (cases_eq k j) [
    | inl own ↦ ap (λ i. is_some (old i)) own ∙ exists
    | inr other ↦ sym (others_exist k other) ∙ now
  ])

  pub few_less : to.exists ≡ false → is_some (old j) ≡ true → (m : ℕ) → m + 1 ≡ n → AtMost (λ k. is_some (new k)) m
  few_less absent exists = one_less (λ k. is_some (old k)) (λ k. is_some (new k)) j n few others_exist (exists_now ∙ absent) exists

-- The agenda after each list got the dates of the job.
pub redated_agenda : (old new : ℕ → Option Job) (j : ℕ) (a : Agenda) (from to : Dates) → IsAgenda old a → dates_found (old j) ≡ from → IsRedated old new j to → (holds retries ended : Limits) (n : ℕ)
    → (AreDates hold_date old a.holds.items → date_found hold_date (old j) ≡ from.hold → date_found hold_date (new j) ≡ to.hold → ((k : ℕ) → ¬ (k ≡ j) → new k ≡ old k) → AreDates hold_date new holds.items)
    → (AreDates retry_date old a.retries.items → date_found retry_date (old j) ≡ from.retry → date_found retry_date (new j) ≡ to.retry → ((k : ℕ) → ¬ (k ≡ j) → new k ≡ old k) → AreDates retry_date new retries.items)
    → (AreDates ended_date old a.ended.items → date_found ended_date (old j) ≡ from.ended → date_found ended_date (new j) ≡ to.ended → ((k : ℕ) → ¬ (k ≡ j) → new k ≡ old k) → AreDates ended_date new ended.items)
    → holds.room ≡ a.holds.room → retries.room ≡ a.retries.room → ended.room ≡ a.ended.room → AtMost (λ k. is_some (new k)) n → n ≤ a.room
    → IsAgenda new (record { holds = holds; retries = retries; ended = ended; jobs = n; room = a.room })
redated_agenda old new j a from to is own redated holds retries ended n by_hold by_retry by_end holds_room retries_room ended_room few fits = record {
  holds = by_hold is.holds (hold_there (old j) ∙ ap (λ (d : Dates). d.hold) own) (hold_there (new j) ∙ ap (λ (d : Dates). d.hold) redated.own) redated.others;
  retries = by_retry is.retries (retry_there (old j) ∙ ap (λ (d : Dates). d.retry) own) (retry_there (new j) ∙ ap (λ (d : Dates). d.retry) redated.own) redated.others;
  ended = by_end is.ended (ended_there (old j) ∙ ap (λ (d : Dates). d.ended) own) (ended_there (new j) ∙ ap (λ (d : Dates). d.ended) redated.own) redated.others;
  few = few;
  fits = fits;
  holds_room = (let room = is.holds_room in omega (arith, room, holds_room));
  retries_room = (let room = is.retries_room in omega (arith, room, retries_room));
  ended_room = (let room = is.ended_room in omega (arith, room, ended_room));
}

-- An existing job is counted.
pub one_counted : (jobs : ℕ → Option Job) (a : Agenda) → IsAgenda jobs a → (j : ℕ) → is_some (jobs j) ≡ true → 0 < a.jobs
one_counted jobs a is j exists = (let one = is.few (j ∷ []) (tt, tt) (exists, tt) in omega (arith, one))

-- ## No jobs

pub no_agenda : (holds retries ended : Limits) → holds.items ≡ [] → retries.items ≡ [] → ended.items ≡ [] → (jobs : ℕ → Option Job) → ((j : ℕ) → jobs j ≡ None)
    → IsAgenda jobs (record { holds = holds; retries = retries; ended = ended; jobs = 0; room = 0 })
no_agenda holds retries ended no_holds no_retries no_ended jobs absent = record {
  holds = no_list hold_date holds.items no_holds;
  retries = no_list retry_date retries.items no_retries;
  ended = no_list ended_date ended.items no_ended;
  few = none_pass (λ j. is_some (jobs j)) (λ j. ap is_some (absent j));
  fits = omega arith;
  holds_room = omega arith;
  retries_room = omega arith;
  ended_room = omega arith;
}
  where
    no_list : (date : Job → Option Deadline) (items : List Deadline) → items ≡ [] → AreDates date jobs items
    no_list date items none = record {
      only = λ d there. (let empty = subst (λ ds. Contains ds d) none there in absurd (omega (arith, empty.1)));
      listed = λ j d at. (let no : None ≡ Some d = sym (ap (date_found date) (absent j)) ∙ at in absurd (cc));
    }

-- ## Dates in order

pub sorted_dates : (date : Job → Option Deadline) (jobs : ℕ → Option Job) (items sorted : List Deadline) → ((d : Deadline) → Contains sorted d ↔ Contains items d) → AreDates date jobs items → AreDates date jobs sorted
sorted_dates date jobs items sorted same is = record {
  only = λ d there. is.only d ((same d).0 there);
  listed = λ j d at. (let listed = is.listed j d at in (listed.0, (same d).1 listed.1));
}

-- ## A list may take the date of a job

module _ (a : Agenda) (j : ℕ) (from to : Dates) (may : MayRedate a j from to) where
  own_exists : is_some (may.jobs j) ≡ from.exists
  own_exists = exists_there (may.jobs j) ∙ ap (λ (d : Dates). d.exists) may.own

  may_list : (date : Job → Option Deadline) (part : Dates → Option Deadline) → ((o : Option Job) → date_found date o ≡ part (dates_found o))
      → ((r : Job) (d : Deadline) → date r ≡ Some d → d.id ≡ r.id) → (list : Limits) → AreDates date may.jobs list.items → a.room ≤ list.room
      → MayList list j (part from) (part to)
  may_list date part there number list dates room = record {
    date = date;
    jobs = may.jobs;
    count = a.jobs;
    dates = dates;
    own = there (may.jobs j) ∙ ap part may.own;
    number = λ d is. of_next may.next refl d (there may.next ∙ ap part may.later ∙ is);
    few = may.agenda.few;
    fits = omega (arith, may.agenda.fits, room);
    room = λ absent. (let less = may.room (sym own_exists ∙ absent) in omega (arith, less, room));
  }
    where
      of_next : (o : Option Job) → may.next ≡ o → (d : Deadline) → date_found date o ≡ Some d → d.id ≡ j
      of_next None is d none = absurd (cc)
      of_next (Some r) is d own = number r d own ∙ may.number r is

date_id : (j by : ℕ) (d : Deadline) → Some (record { by = by; id = j }) ≡ Some d → d.id ≡ j
date_id j by d is = ap (λ (e : Deadline). e.id) (sym (same_date (record { by = by; id = j }) d is))

pub hold_own : (r : Job) (d : Deadline) → hold_date r ≡ Some d → d.id ≡ r.id
hold_own r d is = own_in (hold_of r.phase) is
  where
    own_in : (h : Hold) → end_of r.id h ≡ Some d → d.id ≡ r.id
    own_in Free none = absurd (cc)
    own_in (Indefinite reason) none = absurd (cc)
    own_in (Until until) some = date_id r.id until d some

pub retry_own : (r : Job) (d : Deadline) → retry_date r ≡ Some d → d.id ≡ r.id
retry_own r d is = own_in r.phase is
  where
    some_only : (b : Bool) (not_before : ℕ) → cond b (Some (record { by = not_before; id = r.id })) None ≡ Some d → d.id ≡ r.id
    some_only true not_before some = date_id r.id not_before d some
    some_only false not_before none = absurd (cc)

    own_in : (p : Phase) → retry_in r.id p ≡ Some d → d.id ≡ r.id
    own_in (Incoming hold) none = absurd (cc)
    own_in (Waiting hold not_before first) some = some_only (nat_lt 0 not_before) not_before some
    own_in (Processing attempt stage stages) none = absurd (cc)
    own_in Completed none = absurd (cc)
    own_in Canceled none = absurd (cc)
    own_in (Aborted reason) none = absurd (cc)

pub ended_own : (r : Job) (d : Deadline) → ended_date r ≡ Some d → d.id ≡ r.id
ended_own r d is = own_in (has_ended r.phase) is
  where
    own_in : (b : Bool) → cond b (Some (record { by = 0; id = r.id })) None ≡ Some d → d.id ≡ r.id
    own_in true some = date_id r.id 0 d some
    own_in false none = absurd (cc)

-- The lists of an agenda may take the dates of the job.
module _ (a : Agenda) (j : ℕ) (from to : Dates) (may : MayRedate a j from to) where
  pub may_hold : MayList a.holds j from.hold to.hold
  may_hold = may_list a j from to may hold_date (λ (d : Dates). d.hold) hold_there hold_own a.holds may.agenda.holds may.agenda.holds_room

  pub may_retry : MayList a.retries j from.retry to.retry
  may_retry = may_list a j from to may retry_date (λ (d : Dates). d.retry) retry_there retry_own a.retries may.agenda.retries may.agenda.retries_room

  pub may_end : MayList a.ended j from.ended to.ended
  may_end = may_list a j from to may ended_date (λ (d : Dates). d.ended) ended_there ended_own a.ended may.agenda.ended may.agenda.ended_room
