-- The timetable that is collected from all jobs of a table.
use Rattle.std.proofs.Common.{◌≡◌, ℕ, zero, suc, ◌+◌, ◌<◌, ◌≤◌, ◌⊎◌, inl, inr, Bool, true, false, cond, List, [], ◌∷◌, length, get_or, map, Option, Some, None, refl, sym, ap, subst, ◌∙◌, arith}
use Rattle.std.specs.Prelude.{count_by, is_some}
use Rattle.std.specs.List.{AllPairs, Contains, cons_option, filter_map}
use Rattle.std.specs.FinMap as finite
use Rattle.std.proofs.Math.ListN.{get_or-map}
use Rattle.std.proofs.lemmas.Bool.{both_ways, cases_eq}
use Rattle.std.proofs.lemmas.List.{length-map}
use Rattle.std.proofs.lemmas.List.Elements.{Contains-get_or}
use Rattle.std.proofs.lemmas.List.Sums.{sum_by-cons}
use Rattle.spool_types.specs.State.{State, Job, job_of, job_at}
use Rattle.spool_types.specs.declared.rows.JobRow.{JobRow}
use Rattle.queue_sched.specs.Deadlines.{HasEachDeadlineOnce}
use Rattle.queue_sched.specs.declared.deadlines.Deadline.{Deadline}
use Rattle.job_table.specs.Lanes.{AtMost}
use Rattle.job_table.specs.Legal.{IsLegal}
use Rattle.job_table.specs.Timely.{deadline_of, deadline_found, has_by, unsorted, IsTimely}
use Rattle.job_table.proofs.Begun.{numbers_rise}
use Rattle.job_table.proofs.Choice.{there_value, value_there}
use Rattle.job_table.proofs.Lanes.{none_pass, one_more}
use Rattle.job_table.proofs.Timely.{deadline_own, deadline_timed}

-- ## Elements of a list

module _ {X : Type 0} where
  pub first_here : (x : X) (xs : List X) → Contains (x ∷ xs) x
  first_here x xs = (0, omega arith, refl)

  pub rest_here : (x : X) (xs : List X) (y : X) → Contains xs y → Contains (x ∷ xs) y
  rest_here x xs y there = (suc there.0, omega (arith, there.1), there.2)

  pub first_or_rest : (x : X) (xs : List X) (y : X) → Contains (x ∷ xs) y → (x ≡ y) ⊎ Contains xs y
  first_or_rest x xs y (zero, within, here) = inl here
  first_or_rest x xs y (suc k, within, here) = inr (k, omega (arith, within), here)

  -- An element differs from all later ones.
  pairs_more : (R : X → X → Type 0) (x : X) (xs : List X) → ((y : X) → Contains xs y → R x y) → AllPairs R xs → AllPairs R (x ∷ xs)
  pairs_more R x xs first rest zero zero d lt within = absurd (omega (arith, lt))
  pairs_more R x xs first rest zero (suc k) d lt within = first (get_or xs k d) (Contains-get_or xs k d (omega (arith, within)))
  pairs_more R x xs first rest (suc i) zero d lt within = absurd (omega (arith, lt))
  pairs_more R x xs first rest (suc i) (suc k) d lt within = rest i k d (omega (arith, lt)) (omega (arith, within))

  pub pairs_first : (R : X → X → Type 0) (x : X) (xs : List X) → AllPairs R (x ∷ xs) → (y : X) → Contains xs y → R x y
  pairs_first R x xs pairs y there = subst (R x) there.2 (pairs 0 (suc there.0) y (omega arith) (omega (arith, there.1)))

  pub pairs_rest : (R : X → X → Type 0) (x : X) (xs : List X) → AllPairs R (x ∷ xs) → AllPairs R xs
  pairs_rest R x xs pairs i k d lt within = pairs (suc i) (suc k) d (omega (arith, lt)) (omega (arith, within))

pub mapped_by : {X Y : Type 0} (f : X → Y) (xs : List X) (y : Y) → Contains (map f xs) y → (x : X) × Contains xs x × (f x ≡ y)
mapped_by f [] y there = absurd (omega (arith, there.1))
mapped_by f (x ∷ xs) y there = elim (first_or_rest (f x) (map f xs) y there) [
  | inl own ↦ (x, first_here x xs, own)
  | inr rest ↦ (let found = mapped_by f xs y rest in (found.0, rest_here x xs found.0 found.1, found.2))
]

abbrev pub one_if : Bool → ℕ
one_if b = cond b 1 0

pub count_more : {X : Type 0} (p : X → Bool) (x : X) (xs : List X) → count_by p (x ∷ xs) ≡ one_if (p x) + count_by p xs
count_more p x xs = sum_by-cons (λ y. one_if (p y)) x xs

-- ## Collecting from a list

module _ {X Y : Type 0} (h : X → Option Y) where
  abbrev pub IsGiven : List X → Y → Type 0
  IsGiven xs y = (x : X) × Contains xs x × (h x ≡ Some y)

  given_later : (x : X) (xs : List X) (y : Y) → IsGiven xs y → IsGiven (x ∷ xs) y
  given_later x xs y found = (found.0, rest_here x xs found.0 found.1, found.2)

  given_first : (x : X) (xs : List X) (y : Y) (o : Option Y) → h x ≡ o → (Contains (filter_map h xs) y → IsGiven xs y) → Contains (cons_option o (filter_map h xs)) y → IsGiven (x ∷ xs) y
  given_first x xs y None is later there = given_later x xs y (later there)
  given_first x xs y (Some z) is later there = elim (first_or_rest z (filter_map h xs) y there) [
    | inl own ↦ (x, first_here x xs, is ∙ ap Some own)
    | inr rest ↦ given_later x xs y (later rest)
  ]

  -- Each collected item comes from an element.
  pub given_by : (xs : List X) (y : Y) → Contains (filter_map h xs) y → IsGiven xs y
  given_by [] y there = absurd (omega (arith, there.1))
  given_by (x ∷ xs) y there = given_first x xs y (h x) refl (given_by xs y) there

  kept_first : (ys : List Y) (y : Y) (o : Option Y) → Contains ys y → Contains (cons_option o ys) y
  kept_first ys y None later = later
  kept_first ys y (Some z) later = rest_here z ys y later

  -- The item of each element is collected.
  pub given : (xs : List X) (x : X) (y : Y) → Contains xs x → h x ≡ Some y → Contains (filter_map h xs) y
  given [] x y there is = absurd (omega (arith, there.1))
  given (z ∷ xs) x y there is = elim (first_or_rest z xs x there) [
    | inl own ↦ subst (λ o. Contains (cons_option o (filter_map h xs)) y) (sym (ap h own ∙ is)) (first_here y (filter_map h xs))
    | inr rest ↦ kept_first (filter_map h xs) y (h z) (given xs x y rest is)
  ]

  module _ (R : X → X → Type 0) (Q : Y → Y → Type 0) (step : (x z : X) (y w : Y) → R x z → h x ≡ Some y → h z ≡ Some w → Q y w) where
    apart_first : (x : X) (xs : List X) (o : Option Y) → h x ≡ o → ((z : X) → Contains xs z → R x z) → AllPairs Q (filter_map h xs) → AllPairs Q (cons_option o (filter_map h xs))
    apart_first x xs None is first rest = rest
    apart_first x xs (Some y) is first rest = pairs_more Q y (filter_map h xs) (λ w there.
        let found = given_by xs w there in
        step x found.0 y w (first found.0 found.1) is found.2) rest

    -- Different elements have different items.
    pub given_apart : (xs : List X) → AllPairs R xs → AllPairs Q (filter_map h xs)
    given_apart [] pairs = λ i k d lt within. absurd (omega (arith, within))
    given_apart (x ∷ xs) pairs = apart_first x xs (h x) refl (pairs_first R x xs pairs) (given_apart xs (pairs_rest R x xs pairs))

  module _ (p : X → Bool) (passes : (x : X) (y : Y) → h x ≡ Some y → p x ≡ true) where
    few_first : (x : X) (xs : List X) (o : Option Y) → h x ≡ o → length (filter_map h xs) ≤ count_by p xs → length (cons_option o (filter_map h xs)) ≤ count_by p (x ∷ xs)
    few_first x xs None is rest = omega (arith, rest, count_more p x xs)
    few_first x xs (Some y) is rest = omega (arith, rest, count_more p x xs, ap one_if (passes x y is))

    -- At most as many items are collected as elements pass.
    pub given_few : (xs : List X) → length (filter_map h xs) ≤ count_by p xs
    given_few [] = omega arith
    given_few (x ∷ xs) = few_first x xs (h x) refl (given_few xs)

-- ## The number of numbers that pass

-- The numbers that pass, except one number.
but : (ℕ → Bool) → ℕ → ℕ → Bool
but p n j = elim (cases_eq j n) [ inl own ↦ false | inr other ↦ p j ]

but_same : (p : ℕ → Bool) (n j : ℕ) → ¬ (j ≡ n) → p j ≡ but p n j
unfolding but
but_same p n j apart = by_case (cases_eq j n)
  where
    by_case : (o : (j ≡ n) ⊎ (j ≡ n → ⊥)) → p j ≡ elim o [ inl own ↦ false | inr other ↦ p j ]
    by_case (inl own) = absurd (apart own)
    by_case (inr other) = refl

but_pass : (p : ℕ → Bool) (n j : ℕ) → but p n j ≡ true → (¬ (j ≡ n)) × (p j ≡ true)
unfolding but
but_pass p n j is = by_case (cases_eq j n) is
  where
    by_case : (o : (j ≡ n) ⊎ (j ≡ n → ⊥)) → elim o [ inl own ↦ false | inr other ↦ p j ] ≡ true → (¬ (j ≡ n)) × (p j ≡ true)
    by_case (inl own) never = absurd (cc)
    by_case (inr other) passes = (other, passes)

module _ {X : Type 0} (id : X → ℕ) (t : X → Bool) where
  -- The number of an element that passes.
  abbrev pub IsNumber : List X → ℕ → Type 0
  IsNumber xs j = (x : X) × Contains xs x × (id x ≡ j) × (t x ≡ true)

  module _ (x : X) (xs : List X) (p : ℕ → Bool) (each : (j : ℕ) → p j ≡ true → IsNumber (x ∷ xs) j) where
    of_others : (j : ℕ) → but p (id x) j ≡ true → IsNumber xs j
    of_others j is =
        let passes = but_pass p (id x) j is in
        let found = each j passes.1 in
        elim (first_or_rest x xs found.0 found.1) [
          | inl own ↦ absurd (passes.0 (sym (ap id own ∙ found.2)))
          | inr rest ↦ (found.0, rest, found.2, found.3)
        ]

    of_rest : t x ≡ false → (j : ℕ) → p j ≡ true → IsNumber xs j
    of_rest never j is =
        let found = each j is in
        elim (first_or_rest x xs found.0 found.1) [
          | inl own ↦ absurd (both_ways (t x) never (ap t own ∙ found.3))
          | inr rest ↦ (found.0, rest, found.2, found.3)
        ]

    number_first : (b : Bool) → t x ≡ b → ((q : ℕ → Bool) → ((j : ℕ) → q j ≡ true → IsNumber xs j) → AtMost q (count_by t xs)) → AtMost p (count_by t (x ∷ xs))
    number_first true is rest =
        let more : count_by t xs + 1 ≡ count_by t (x ∷ xs) = omega (arith, count_more t x xs, ap one_if is) in
        subst (AtMost p) more (one_more (but p (id x)) p (id x) (count_by t xs) (rest (but p (id x)) of_others) (but_same p (id x)))
    number_first false is rest =
        let same : count_by t xs ≡ count_by t (x ∷ xs) = omega (arith, count_more t x xs, ap one_if is) in
        subst (AtMost p) same (rest p (of_rest is))

  none_of : (p : ℕ → Bool) → ((j : ℕ) → p j ≡ true → IsNumber [] j) → (j : ℕ) (b : Bool) → p j ≡ b → b ≡ false
  none_of p each j true is = (let found = each j is in absurd (omega (arith, found.1.1)))
  none_of p each j false is = refl

  -- If each number that passes belongs to an element that passes, at most as many numbers pass as elements.
  pub few_numbers : (xs : List X) (p : ℕ → Bool) → ((j : ℕ) → p j ≡ true → IsNumber xs j) → AtMost p (count_by t xs)
  few_numbers [] p each = none_pass p (λ j. none_of p each j (p j) refl)
  few_numbers (x ∷ xs) p each = number_first x xs p each (t x) refl (few_numbers xs)

-- ## The jobs of a table

abbrev pub row_deadline : JobRow → Option Deadline
row_deadline row = deadline_of row.job

abbrev pub is_timed : JobRow → Bool
is_timed row = is_some row.job.by

module _ (s : State) (legal : IsLegal s) (rows : List JobRow) (same : map job_of rows ≡ finite.values s.jobs) where
  abbrev pub jobs : List Job
  jobs = finite.values s.jobs

  row_job : (i : ℕ) (d : JobRow) → get_or jobs i d.job ≡ (get_or rows i d).job
  row_job i d = ap (λ js. get_or js i d.job) (sym same) ∙ get_or-map job_of rows i d

  row_within : (i : ℕ) → i < length rows → i < length jobs
  row_within i lt = subst (λ n. i < n) (sym (length-map rows job_of) ∙ ap length same) lt

  pub row_there : (row : JobRow) → Contains rows row → job_at s row.job.id ≡ Some row.job
  row_there row there = there_value s legal row.job (there.0, row_within there.0 there.1, row_job there.0 row ∙ ap job_of there.2)

  pub row_of : (j : ℕ) (r : Job) → job_at s j ≡ Some r → (row : JobRow) × Contains rows row × (row.job ≡ r)
  row_of j r there = mapped_by job_of rows r (subst (λ js. Contains js r) (sym same) (value_there s j r there))

  pub rows_apart : AllPairs (λ x y. ¬ (x.job.id ≡ y.job.id)) rows
  rows_apart i k d lt within own =
      let rise = numbers_rise s legal i k d.job lt (row_within k within) in
      omega (arith, rise, ap (λ (x : Job). x.id) (row_job i d), ap (λ (x : Job). x.id) (row_job k d), own)

  pub gathered_once : HasEachDeadlineOnce (filter_map row_deadline rows)
  gathered_once = given_apart row_deadline (λ x y. ¬ (x.job.id ≡ y.job.id)) (λ d e. ¬ (d.id ≡ e.id))
      (λ x y d e apart is is_too own. apart ((deadline_own x.job d is).1.1 ∙ own ∙ sym (deadline_own y.job e is_too).1.1)) rows rows_apart

  pub gathered_few : length (filter_map row_deadline rows) ≤ count_by is_timed rows
  gathered_few = given_few row_deadline is_timed (λ row d is. deadline_timed (Some row.job) d is) rows

  -- The deadline of a job is in the list.
  listed_by : (j : ℕ) (d : Deadline) (o : Option Job) → job_at s j ≡ o → deadline_found o ≡ Some d → (d.id ≡ j) × Contains (filter_map row_deadline rows) d
  listed_by j d None there is = absurd (cc)
  listed_by j d (Some r) there is =
      let found = row_of j r there in (
        sym (deadline_own r d is).1.1 ∙ (legal.jobs j r there).id,
        given row_deadline rows found.0 d found.1 (ap deadline_of found.2 ∙ is),
      )

  -- A job that must start by a moment is counted.
  timed_by : (j : ℕ) (o : Option Job) → job_at s j ≡ o → has_by o ≡ true → IsNumber (λ (row : JobRow). row.job.id) is_timed rows j
  timed_by j None there is = absurd (cc)
  timed_by j (Some r) there is =
      let found = row_of j r there in
      (found.0, found.1, ap (λ (x : Job). x.id) found.2 ∙ (legal.jobs j r there).id, ap (λ (x : Job). is_some x.by) found.2 ∙ is)

  pub gathered : IsTimely (job_at s) (unsorted (filter_map row_deadline rows) (count_by is_timed rows))
  gathered = record {
    only = λ d there.
        let found = given_by row_deadline rows d there in
        ap (λ k. deadline_found (job_at s k)) (sym (deadline_own found.0.job d found.2).1.1) ∙ ap deadline_found (row_there found.0 found.1) ∙ found.2;
    listed = λ j d at. listed_by j d (job_at s j) refl at;
    few = few_numbers (λ (row : JobRow). row.job.id) is_timed rows (λ j. has_by (job_at s j)) (λ j is. timed_by j (job_at s j) refl is);
    room = omega arith;
  }
