-- The dates that are collected from all jobs of a table, and the jobs that have ended in order.
use Rattle.std.proofs.Common.{◌≡◌, ℕ, ◌+◌, ◌<◌, ◌≤◌, inl, inr, Bool, true, false, cond, ◌==◌, nat_lt, List, [], ◌∷◌, length, get_or, map, Option, Some, None, refl, sym, ap, subst, ◌∙◌, arith}
use Rattle.std.specs.Prelude.{◌↔◌, count_by, is_some}
use Rattle.std.specs.List.{AllPairs, Contains, filter_map, slice_get}
use Rattle.std.specs.Option.{option_map}
use Rattle.std.specs.FinMap as finite
use Rattle.std.proofs.Math.ListN.{get_or-map}
use Rattle.std.proofs.lemmas.Bool.Decides.{nat_tests}
use Rattle.std.proofs.lemmas.List.{length-map}
use Rattle.std.proofs.lemmas.Option.{slice_get-map}
use Rattle.std.proofs.lemmas.List.Elements.{Contains-get_or}
use Rattle.spool_types.specs.Phases.{has_ended}
use Rattle.spool_types.specs.State.{State, Job, job_of, job_at}
use Rattle.spool_types.specs.declared.rows.JobRow.{JobRow}
use Rattle.queue_sched.specs.Deadlines.{HasEachDeadlineOnce, InTurn, comes_before}
use Rattle.queue_sched.specs.declared.deadlines.Deadline.{Deadline}
use Rattle.job_table.specs.Agendas.{date_found, hold_date, retry_date, ended_date, unsorted_agenda, AreDates, IsAgenda}
use Rattle.job_table.specs.DueTimes.{ended_number, ended_numbers}
use Rattle.job_table.specs.Lanes.{AtMost}
use Rattle.job_table.specs.Legal.{IsLegal}
use Rattle.job_table.proofs.Begun.{numbers_rise}
use Rattle.job_table.proofs.Choice.{there_value, value_there}
use Rattle.job_table.proofs.Gathered.{IsNumber, count_more, few_numbers, first_here, first_or_rest, given, given_apart, given_by, given_few, mapped_by, pairs_first, pairs_rest, rest_here, row_of, row_there, rows_apart}
use Rattle.job_table.proofs.Redated.{hold_own, retry_own, ended_own}

-- ## Collecting the dates

count_all : (rows : List JobRow) → count_by (λ row. true) rows ≡ length rows
count_all [] = refl
count_all (row ∷ rows) = (let rest = count_all rows in let more = count_more (λ (r : JobRow). true) row rows in omega (arith, rest, more))

module _ (s : State) (legal : IsLegal s) (rows : List JobRow) (same : map job_of rows ≡ finite.values s.jobs) where
  module _ (date : Job → Option Deadline) (own : (r : Job) (d : Deadline) → date r ≡ Some d → d.id ≡ r.id) where
    abbrev row_date : JobRow → Option Deadline
    row_date row = date row.job

    pub dated_once : HasEachDeadlineOnce (filter_map row_date rows)
    dated_once = given_apart row_date (λ x y. ¬ (x.job.id ≡ y.job.id)) (λ d e. ¬ (d.id ≡ e.id))
        (λ x y d e apart is is_too equal. apart (sym (own x.job d is) ∙ equal ∙ own y.job e is_too)) rows (rows_apart s legal rows same)

    pub dated_few : length (filter_map row_date rows) ≤ length rows
    dated_few = (let few = given_few row_date (λ row. true) (λ row d is. refl) rows in omega (arith, few, count_all rows))

    listed_by : (j : ℕ) (d : Deadline) (o : Option Job) → job_at s j ≡ o → date_found date o ≡ Some d → (d.id ≡ j) × Contains (filter_map row_date rows) d
    listed_by j d None there is = absurd (cc)
    listed_by j d (Some r) there is =
        let found = row_of s legal rows same j r there in
        (own r d is ∙ (legal.jobs j r there).id, given row_date rows found.0 d found.1 (ap date found.2 ∙ is))

    dated : AreDates date (job_at s) (filter_map row_date rows)
    dated = record {
      only = λ d there.
          let found = given_by row_date rows d there in
          ap (λ k. date_found date (job_at s k)) (own found.0.job d found.2) ∙ ap (date_found date) (row_there s legal rows same found.0 found.1) ∙ found.2;
      listed = λ j d at. listed_by j d (job_at s j) refl at;
    }

  exists_by : (j : ℕ) (o : Option Job) → job_at s j ≡ o → is_some o ≡ true → IsNumber (λ (row : JobRow). row.job.id) (λ row. true) rows j
  exists_by j None there is = absurd (cc)
  exists_by j (Some r) there is =
      let found = row_of s legal rows same j r there in
      (found.0, found.1, ap (λ (x : Job). x.id) found.2 ∙ (legal.jobs j r there).id, refl)

  jobs_few : AtMost (λ j. is_some (job_at s j)) (length rows)
  jobs_few = subst (AtMost (λ j. is_some (job_at s j))) (count_all rows)
      (few_numbers (λ (row : JobRow). row.job.id) (λ row. true) rows (λ j. is_some (job_at s j)) (λ j is. exists_by j (job_at s j) refl is))

  pub dated_agenda : IsAgenda (job_at s) (unsorted_agenda (filter_map (λ row. hold_date row.job) rows) (filter_map (λ row. retry_date row.job) rows) (filter_map (λ row. ended_date row.job) rows) (length rows))
  dated_agenda = record {
    holds = dated hold_date hold_own;
    retries = dated retry_date retry_own;
    ended = dated ended_date ended_own;
    few = jobs_few;
    fits = omega arith;
    holds_room = omega arith;
    retries_room = omega arith;
    ended_room = omega arith;
  }

-- ## Ascending lists

module _ (x y : ℕ) (xs ys : List ℕ) (rise : AllPairs (λ a b. a < b) (x ∷ xs)) (rise_too : AllPairs (λ a b. a < b) (y ∷ ys)) (to : (j : ℕ) → Contains (x ∷ xs) j → Contains (y ∷ ys) j) (back : (j : ℕ) → Contains (y ∷ ys) j → Contains (x ∷ xs) j) where
  same_heads : x ≡ y
  same_heads = elim (first_or_rest y ys x (to x (first_here x xs))) [
    | inl same ↦ sym same
    | inr later ↦ elim (first_or_rest x xs y (back y (first_here y ys))) [
      | inl same ↦ same
      | inr later_too ↦
          (let lt = pairs_first (λ a b. a < b) y ys rise_too x later in
          let gt = pairs_first (λ a b. a < b) x xs rise y later_too in
          absurd (omega (arith, lt, gt)))
    ]
  ]

rest_within : (x y : ℕ) (xs ys : List ℕ) → AllPairs (λ a b. a < b) (x ∷ xs) → ((j : ℕ) → Contains (x ∷ xs) j → Contains (y ∷ ys) j) → x ≡ y → (j : ℕ) → Contains xs j → Contains ys j
rest_within x y xs ys rise to heads j there = elim (first_or_rest y ys j (to j (rest_here x xs j there))) [
  | inl same ↦ (let lt = pairs_first (λ a b. a < b) x xs rise j there in absurd (omega (arith, lt, same, heads)))
  | inr later ↦ later
]

-- Two ascending lists with the same numbers are equal.
same_ascending : (xs ys : List ℕ) → AllPairs (λ a b. a < b) xs → AllPairs (λ a b. a < b) ys → ((j : ℕ) → Contains xs j → Contains ys j) → ((j : ℕ) → Contains ys j → Contains xs j) → xs ≡ ys
same_ascending [] [] rise rise_too to back = refl
same_ascending [] (y ∷ ys) rise rise_too to back = (let there = back y (first_here y ys) in absurd (omega (arith, there.1)))
same_ascending (x ∷ xs) [] rise rise_too to back = (let there = to x (first_here x xs) in absurd (omega (arith, there.1)))
same_ascending (x ∷ xs) (y ∷ ys) rise rise_too to back =
    let heads : x ≡ y = same_heads x y xs ys rise rise_too to back in
    let tails : xs ≡ ys = same_ascending xs ys (pairs_rest (λ a b. a < b) x xs rise) (pairs_rest (λ a b. a < b) y ys rise_too)
    (rest_within x y xs ys rise to heads) (rest_within y x ys xs rise_too back (sym heads)) in
    λ i. heads i ∷ tails i

-- ## The jobs that have ended

number_own : (r : Job) (n : ℕ) → ended_number r ≡ Some n → (has_ended r.phase ≡ true) × (r.id ≡ n)
number_own r n is = by_end (has_ended r.phase) refl is
  where
    same_number : (a b : ℕ) → Some a ≡ Some b → a ≡ b
    same_number a b equal = cc

    by_end : (b : Bool) → has_ended r.phase ≡ b → cond b (Some r.id) None ≡ Some n → (has_ended r.phase ≡ true) × (r.id ≡ n)
    by_end true over some = (over, same_number r.id n some)
    by_end false lasts none = absurd (cc)

ended_parts : (r : Job) (d : Deadline) → ended_date r ≡ Some d → (has_ended r.phase ≡ true) × ((d.by ≡ 0) × (r.id ≡ d.id))
ended_parts r d is = by_end (has_ended r.phase) refl is
  where
    parts : Some (record { by = 0; id = r.id }) ≡ Some d → (d.by ≡ 0) × (r.id ≡ d.id)
    parts some = (at_zero some, sym (ended_by some))
      where
        at_zero : Some (record { by = 0; id = r.id }) ≡ Some d → d.by ≡ 0
        at_zero e = cc

        ended_by : Some (record { by = 0; id = r.id }) ≡ Some d → d.id ≡ r.id
        ended_by e = cc

    by_end : (b : Bool) → has_ended r.phase ≡ b → cond b (Some (record { by = 0; id = r.id })) None ≡ Some d → (has_ended r.phase ≡ true) × ((d.by ≡ 0) × (r.id ≡ d.id))
    by_end true over some = (over, parts some)
    by_end false lasts none = absurd (cc)

both_zero : (a i b j : ℕ) → a ≡ 0 → b ≡ 0 → cond (a == b) (nat_lt i j) (nat_lt a b) ≡ true → i < j
both_zero a i b j first second comes = grind (arith, nat_tests)

module _ (s : State) (legal : IsLegal s) (items : List Deadline) (order : InTurn items) (is : AreDates ended_date (job_at s) items) where
  ended_at : (d : Deadline) → Contains items d → (r : Job) × (job_at s d.id ≡ Some r) × (has_ended r.phase ≡ true) × (d.by ≡ 0)
  ended_at d there = by_job (job_at s d.id) refl (is.only d there)
    where
      by_job : (o : Option Job) → job_at s d.id ≡ o → date_found ended_date o ≡ Some d → (r : Job) × (job_at s d.id ≡ Some r) × (has_ended r.phase ≡ true) × (d.by ≡ 0)
      by_job None at none = absurd (cc)
      by_job (Some r) at some = (let parts = ended_parts r d some in (r, at, parts.0, parts.1.0))

  rises : AllPairs (λ a b. a < b) (map (λ (d : Deadline). d.id) items)
  rises i k n lt within =
      let e : Deadline = record { by = 0; id = n } in
      let inside : k < length items = omega (arith, within, length-map items (λ (d : Deadline). d.id)) in
      let first = get_or items i e in
      let second = get_or items k e in
      let lt_ids : first.id < second.id = both_zero first.by first.id second.by second.id
      (ended_at first (Contains-get_or items i e (omega (arith, lt, inside)))).3 (ended_at second (Contains-get_or items k e inside)).3 (order i k e lt inside) in
      let one : get_or (map (λ (d : Deadline). d.id) items) i n ≡ first.id = get_or-map (λ (d : Deadline). d.id) items i e in
      let two : get_or (map (λ (d : Deadline). d.id) items) k n ≡ second.id = get_or-map (λ (d : Deadline). d.id) items k e in
      omega (arith, lt_ids, one, two)

  ended_rise : AllPairs (λ a b. a < b) (ended_numbers s)
  ended_rise = given_apart ended_number (λ x y. x.id < y.id) (λ a b. a < b)
      (λ x y a b lt is_a is_b. (let one = (number_own x a is_a).1 in let two = (number_own y b is_b).1 in omega (arith, lt, one, two)))
      (finite.values s.jobs) (λ i k r lt within. numbers_rise s legal i k r lt within)

  to_number : (j : ℕ) → Contains (map (λ (d : Deadline). d.id) items) j → Contains (ended_numbers s) j
  to_number j there =
      let found = mapped_by (λ (d : Deadline). d.id) items j there in
      let ended = ended_at found.0 found.1 in
      let number : ended.0.id ≡ j = (legal.jobs found.0.id ended.0 ended.1).id ∙ found.2 in
      given ended_number (finite.values s.jobs) ended.0 j (value_there s found.0.id ended.0 ended.1)
      (ap (λ b. cond b (Some ended.0.id) None) ended.2 ∙ ap Some number)

  from_number : (j : ℕ) → Contains (ended_numbers s) j → Contains (map (λ (d : Deadline). d.id) items) j
  from_number j there =
      let found = given_by ended_number (finite.values s.jobs) j there in
      let own = number_own found.0 j found.2 in
      let at : job_at s found.0.id ≡ Some found.0 = there_value s legal found.0 found.1 in
      let d : Deadline = record { by = 0; id = found.0.id } in
      let listed = (is.listed found.0.id d (ap (date_found ended_date) at ∙ ap (λ b. cond b (Some d) None) own.0)).1 in
      subst (Contains (map (λ (e : Deadline). e.id) items)) own.1
      (listed.0, omega (arith, listed.1, length-map items (λ (e : Deadline). e.id)), get_or-map (λ (e : Deadline). e.id) items listed.0 d ∙ ap (λ (e : Deadline). e.id) listed.2)

  -- The list has the numbers of the jobs that have ended, in ascending order.
  pub ended_in_order : map (λ d. d.id) items ≡ ended_numbers s
  ended_in_order = same_ascending (map (λ (d : Deadline). d.id) items) (ended_numbers s) rises ended_rise to_number from_number

  pub ended_place : (at : ℕ) (found : Option Deadline) → found ≡ slice_get items at → option_map (λ d. d.id) found ≡ slice_get (ended_numbers s) at
  ended_place at found is =
      ap (option_map (λ (d : Deadline). d.id)) is
      ∙ sym (slice_get-map (λ (d : Deadline). d.id) items at)
      ∙ ap (λ ns. slice_get ns at) ended_in_order
