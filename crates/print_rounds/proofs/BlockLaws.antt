-- The positions of queues among the names, and the queues with a running child.
use Rattle.std.proofs.Common.{◌≡◌, ◌≢◌, ℕ, zero, suc, ◌+◌, ◌<◌, Bool, true, false, cond, not, ◌&&◌, ◌||◌, List, [], ◌∷◌, ◌++◌, length, map, take, get_or, set, replicate, Option, Some, None, Result, Ok, Err, IfSome, IsNone, IsTrue, inl, inr, refl, sym, ap, subst, ◌∙◌, arith}
use Rattle.std.specs.Cmp.{first_so, second_so, tied_itself}
use Rattle.std.specs.Cmp.Lexicographic.{slice_cmp, nat_list_cmp_total, nat_list_eq_equiv, same_text}
use Rattle.std.specs.FinMap as finite
use Rattle.std.specs.FinMap.Entries.{below_all, is_sorted}
use Rattle.std.specs.List.{filter, list_any}
use Rattle.std.specs.List.Sorted.{IsBinarySearchResult, IsNonDecreasingBy, IsSearchInRange}
use Rattle.std.specs.Ordering.{eq_by_cmp, is_eq, is_lt, nat_cmp, ordering_index, ordering_reverse}
use Rattle.std.specs.Result.{result_ok}
use Rattle.std.specs.declared.cmp.Ordering.{Ordering}
use Rattle.std.specs.declared.cmp.Ordering.TheVariants.{Less, Equal, Greater}
use Rattle.std.proofs.Math.ListN.{get_or-map}
use Rattle.std.proofs.lemmas.Bool.{cases_eq, cases_lt, cases_order, or_right}
use Rattle.std.proofs.lemmas.List.{ext_get_or, get_or_default, get_or-set_other, get_or-set_same, length-map, length-set, length-take-le, take_more}
use Rattle.std.proofs.lemmas.List.Folds.{list_any-append}
use Rattle.std.proofs.lemmas.List.Sorted.{searchable_from_sorted}
use Rattle.spool_types.specs.Busy.{is_of}
use Rattle.spool_types.specs.State.{State, Job, Queues, job_at}
use Rattle.spool_types.specs.declared.rows.QueueRow.{QueueRow}
use Rattle.job_table.specs.Legal.{IsLegal}
use Rattle.job_table.specs.QueuePositions.{IsNameAt}
use Rattle.child_pipeline.specs.StageSlots.{Slots}
use Rattle.print_rounds.specs.StageChecks.{free_queues, is_blocked, is_of_queue, runs}
use Rattle.print_rounds.specs.Passes.{unblocked}
use Rattle.print_rounds.proofs.LookLaws.{jobs_to, no_jobs, true_from}
use Rattle.print_rounds.proofs.StartLaws.{queue_count}

-- ## The position of a queue

abbrev names_cmp : List ℕ → List ℕ → Ordering
names_cmp = slice_cmp nat_cmp

less_from : (r : Ordering) → IsTrue (is_lt r) → r ≡ Less
less_from Less h = refl
less_from Equal h = absurd (cc)
less_from Greater h = absurd (cc)

abbrev names_of : List (List ℕ × QueueRow) → List (List ℕ)
names_of es = map (λ e. e.0) es

below_each : (name : List ℕ) (es : List (List ℕ × QueueRow)) → IsTrue (below_all names_cmp name es) → (j : ℕ) (d : List ℕ) → j < length (names_of es) → names_cmp name (get_or (names_of es) j d) ≡ Less
below_each name [] below j d lt = absurd (omega arith)
below_each name (e ∷ es) below zero d lt = less_from _ (first_so (is_lt (names_cmp name e.0)) (below_all names_cmp name es) below)
below_each name (e ∷ es) below (suc j) d lt = below_each name es (second_so (is_lt (names_cmp name e.0)) (below_all names_cmp name es) below) j d (omega arith)

rise : (es : List (List ℕ × QueueRow)) → IsTrue (is_sorted names_cmp es) → (i j : ℕ) (d : List ℕ) → i < j → j < length (names_of es) → names_cmp (get_or (names_of es) i d) (get_or (names_of es) j d) ≡ Less
rise [] sorted i j d lt at = absurd (omega arith)
rise (e ∷ es) sorted i zero d lt at = absurd (omega arith)
rise (e ∷ es) sorted zero (suc j) d lt at = below_each e.0 es (first_so (below_all names_cmp e.0 es) (is_sorted names_cmp es) sorted) j d (omega arith)
rise (e ∷ es) sorted (suc i) (suc j) d lt at = rise es (second_so (below_all names_cmp e.0 es) (is_sorted names_cmp es) sorted) i j d (omega arith) (omega arith)

-- The names in a table are in ascending order.
names_rise : (queues : Queues) (i j : ℕ) (d : List ℕ) → i < j → j < length (finite.keys queues) → names_cmp (get_or (finite.keys queues) i d) (get_or (finite.keys queues) j d) ≡ Less
names_rise queues i j d lt at = rise (finite.entries queues) (true_from _ (finite.entries_sorted queues)) i j d lt at

not_itself : (name : List ℕ) → names_cmp name name ≡ Less → ⊥
not_itself name less = let tied = tied_itself nat_list_cmp_total name in absurd (cc)

-- So each has one position.
one_place : (queues : Queues) (name : List ℕ) (i j : ℕ) → i < length (finite.keys queues) → j < length (finite.keys queues) → get_or (finite.keys queues) i [] ≡ name → get_or (finite.keys queues) j [] ≡ name → i ≡ j
one_place queues name i j i_in j_in first second = elim (cases_order i j) [
  | inl same ↦ same
  | inr (inl lt) ↦ absurd (not_itself name (sym (ap (λ n. names_cmp n name) first) ∙ sym (ap (names_cmp (get_or (finite.keys queues) i [])) second) ∙ names_rise queues i j [] lt j_in))
  | inr (inr lt) ↦ absurd (not_itself name (sym (ap (λ n. names_cmp n name) second) ∙ sym (ap (names_cmp (get_or (finite.keys queues) j [])) first) ∙ names_rise queues j i [] lt i_in))
]

-- The result of a binary search among the rows of the queues.
module _ (s : State) (rows : List QueueRow) (named : map (λ row. row.name) rows ≡ finite.keys s.queues) where
  name_in : (i : ℕ) (d : QueueRow) → (get_or rows i d).name ≡ get_or (finite.keys s.queues) i d.name
  name_in i d = sym (get_or-map (λ (q : QueueRow). q.name) rows i d) ∙ ap (λ ns. get_or ns i d.name) named

  count : length rows ≡ length (finite.keys s.queues)
  count = queue_count rows (finite.keys s.queues) named

  searchable : (name : List ℕ) → IsNonDecreasingBy (λ (y : QueueRow). ordering_index (names_cmp y.name name)) rows
  searchable name = searchable_from_sorted nat_list_cmp_total (λ (y : QueueRow). y.name) rows name (λ i d low high.
      ap is_lt (turned (get_or rows i d).name (get_or rows (i + 1) d).name (ap (λ n. names_cmp n (get_or rows (i + 1) d).name) (name_in i d) ∙ ap (names_cmp (get_or (finite.keys s.queues) i d.name)) (name_in (i + 1) d) ∙ names_rise s.queues i (i + 1) d.name (omega arith) (omega (arith, high, count)))))
    where
      turned : (x y : List ℕ) → names_cmp x y ≡ Less → names_cmp y x ≡ Greater
      turned x y less = nat_list_cmp_total.antisymm y x ∙ ap ordering_reverse less

  found_at : (name : List ℕ) (at : ℕ) → at < length rows → ((d : QueueRow) → names_cmp (get_or rows at d).name name ≡ Equal) → IsNameAt (finite.keys s.queues) name at
  found_at name at lt tied = record {
    in_range = at_in;
    own = own;
    only = λ i i_in is. one_place s.queues name i at i_in at_in is own;
  }
    where
      at_in : at < length (finite.keys s.queues)
      at_in = omega (arith, lt, count)

      by_rows : (d : QueueRow) → get_or (finite.keys s.queues) at [] ≡ name
      by_rows d = get_or_default (finite.keys s.queues) at [] d.name at_in ∙ sym (name_in at d) ∙ finite.slice_cmp-IsAntisymmetric finite.nat_cmp-IsAntisymmetric _ _ (tied d)

      own : get_or (finite.keys s.queues) at [] ≡ name
      own = some_row rows lt by_rows
        where
          some_row : (qs : List QueueRow) → at < length qs → ((d : QueueRow) → get_or (finite.keys s.queues) at [] ≡ name) → get_or (finite.keys s.queues) at [] ≡ name
          some_row [] lt by = absurd (omega arith)
          some_row (q ∷ qs) lt by = by q

  not_found : (name : List ℕ) → ((i : ℕ) (d : QueueRow) → i < length rows → eq_by_cmp names_cmp name (get_or rows i d).name ≡ false) → finite.contains_key s.queues name ≡ false
  not_found name apart =
      finite.contains_key-keys s.queues name
      ∙ ap (list_any (eq_by_cmp names_cmp name)) (sym named)
      ∙ any_row rows apart
    where
      any_row : (qs : List QueueRow) → ((i : ℕ) (d : QueueRow) → i < length qs → eq_by_cmp names_cmp name (get_or qs i d).name ≡ false) → list_any (eq_by_cmp names_cmp name) (map (λ row. row.name) qs) ≡ false
      any_row [] apart = refl
      any_row (q ∷ qs) apart = ap (λ b. b || list_any (eq_by_cmp names_cmp name) (map (λ row. row.name) qs)) (apart 0 q (omega arith)) ∙ any_row qs (λ i d lt. apart (suc i) d (omega arith))

  -- The position of a job's queue.
  abbrev pub IsPlaceOf : Job → Option ℕ → Type 0
  IsPlaceOf r None = finite.contains_key s.queues r.queue ≡ false
  IsPlaceOf r (Some at) = IsNameAt (finite.keys s.queues) r.queue at

  pub placed : (r : Job) (a : Result ℕ ℕ) → IsSearchInRange a (length rows) → IsBinarySearchResult (λ (y : QueueRow). names_cmp y.name r.queue) rows a → IsPlaceOf r (result_ok a)
  placed r (Ok at) lt tied = found_at r.queue at lt tied
  placed r (Err at) le parted =
      let parts = parted (searchable r.queue) in
      not_found r.queue (λ i d lt. elim (cases_lt i at) [
        | inl below ↦ ap is_eq (nat_list_cmp_total.antisymm r.queue _ ∙ ap ordering_reverse (parts.0 i d (omega arith) below))
        | inr above ↦ ap is_eq (nat_list_cmp_total.antisymm r.queue _ ∙ ap ordering_reverse (parts.1 i d above lt))
      ])

  pub place_some : (j : ℕ) (r : Job) → job_at s j ≡ Some r → (o : Option ℕ) → IsPlaceOf r o → IfSome o (λ at. (q : Job) × (job_at s j ≡ Some q) × IsNameAt (finite.keys s.queues) q.queue at)
  place_some j r there None absent = tt
  place_some j r there (Some at) is = (r, there, is)

  -- In a legal table a job's queue has a position.
  pub place_none : IsLegal s → (j : ℕ) (r : Job) → job_at s j ≡ Some r → (o : Option ℕ) → IsPlaceOf r o → IsNone o → job_at s j ≡ None
  place_none legal j r there None absent none = let is = (legal.jobs j r there).queue in absurd (cc (is, absent))
  place_none legal j r there (Some at) is none = absurd (cc)

-- ## Queues that are blocked

-- Whether each of these queues is blocked, by a child of one of these jobs.
abbrev pub flags_to : State → Slots → List ℕ → List (List ℕ) → List Bool
flags_to s slots js names = map (λ name. list_any (λ j. runs slots j && is_of_queue name (job_at s j)) js) names

pub first_flags : (s : State) (slots : Slots) (names : List (List ℕ)) → replicate (length names) false ≡ flags_to s slots (jobs_to None (finite.keys slots)) names
first_flags s slots names = by_names names ∙ ap (λ js. flags_to s slots js names) (sym (no_jobs slots))
  where
    by_names : (ns : List (List ℕ)) → replicate (length ns) false ≡ flags_to s slots [] ns
    by_names [] = refl
    by_names (n ∷ ns) = ap (λ fs. false ∷ fs) (by_names ns)

pub flag_count : (s : State) (slots : Slots) (js : List ℕ) (names : List (List ℕ)) → length (flags_to s slots js names) ≡ length names
flag_count s slots js names = length-map names (λ name. list_any (λ j. runs slots j && is_of_queue name (job_at s j)) js)

module _ (s : State) (slots : Slots) where
  abbrev flag : List ℕ → List ℕ → Bool
  flag js name = list_any (λ j. runs slots j && is_of_queue name (job_at s j)) js

  or_more : (a b : Bool) → (a || (b || false)) ≡ (a || b)
  or_more true b = refl
  or_more false true = refl
  or_more false false = refl

  -- One more job.
  flag_more : (js : List ℕ) (k : ℕ) (name : List ℕ) → flag (js ++ k ∷ []) name ≡ (flag js name || (runs slots k && is_of_queue name (job_at s k)))
  flag_more js k name =
      list_any-append (λ j. runs slots j && is_of_queue name (job_at s j)) js (k ∷ [])
      ∙ or_more (list_any (λ j. runs slots j && is_of_queue name (job_at s j)) js) (runs slots k && is_of_queue name (job_at s k))

  or_left : (a b : Bool) → b ≡ false → (a || b) ≡ a
  or_left true b off = refl
  or_left false b off = off

  -- A job that blocks no queue.
  pub flags_stay : (js : List ℕ) (k : ℕ) (names : List (List ℕ)) → ((name : List ℕ) → (runs slots k && is_of_queue name (job_at s k)) ≡ false) → flags_to s slots js names ≡ flags_to s slots (js ++ k ∷ []) names
  flags_stay js k [] off = refl
  flags_stay js k (n ∷ ns) off = λ i. sym (flag_more js k n ∙ or_left (flag js n) (runs slots k && is_of_queue n (job_at s k)) (off n)) i ∷ flags_stay js k ns off i

  -- A job that blocks the queue at this position.
  pub flags_set : (js : List ℕ) (k : ℕ) (r : Job) (names : List (List ℕ)) (at : ℕ) → runs slots k ≡ true → job_at s k ≡ Some r → IsNameAt names r.queue at → set (flags_to s slots js names) at true ≡ flags_to s slots (js ++ k ∷ []) names
  flags_set js k r names at going there place = ext_get_or true _ _ (length-set (flags_to s slots js names) at true ∙ flag_count s slots js names ∙ sym (flag_count s slots (js ++ k ∷ []) names)) each
    where
      own : List ℕ → Bool
      own name = is_of_queue name (job_at s k)

      new_at : (i : ℕ) → i < length names → get_or (flags_to s slots (js ++ k ∷ []) names) i true ≡ (flag js (get_or names i []) || own (get_or names i []))
      new_at i lt =
          get_or_default (flags_to s slots (js ++ k ∷ []) names) i true (flag (js ++ k ∷ []) []) (omega (arith, lt, flag_count s slots (js ++ k ∷ []) names))
          ∙ get_or-map (flag (js ++ k ∷ [])) names i []
          ∙ flag_more js k (get_or names i [])
          ∙ ap (λ b. flag js (get_or names i []) || (b && own (get_or names i []))) going

      old_at : (i : ℕ) → i < length names → get_or (flags_to s slots js names) i true ≡ flag js (get_or names i [])
      old_at i lt =
          get_or_default (flags_to s slots js names) i true (flag js []) (omega (arith, lt, flag_count s slots js names))
          ∙ get_or-map (flag js) names i []

      is_own : (i : ℕ) → get_or names i [] ≡ r.queue → own (get_or names i []) ≡ true
      is_own i is = ap (λ o. is_of_queue (get_or names i []) o) there ∙ ap (λ n. is_of n r) is ∙ nat_list_eq_equiv.refl r.queue

      is_other : (i : ℕ) → i < length names → i ≢ at → own (get_or names i []) ≡ false
      is_other i lt apart = by_test (own (get_or names i [])) refl
        where
          by_test : (b : Bool) → own (get_or names i []) ≡ b → b ≡ false
          by_test true is = absurd (apart (place.only i lt (sym (same_text r.queue (get_or names i []) (sym is ∙ ap (λ o. is_of_queue (get_or names i []) o) there)))))
          by_test false is = refl

      each : (i : ℕ) → i < length (set (flags_to s slots js names) at true) → get_or (set (flags_to s slots js names) at true) i true ≡ get_or (flags_to s slots (js ++ k ∷ []) names) i true
      each i lt =
          let i_in : i < length names = omega (arith, lt, length-set (flags_to s slots js names) at true, flag_count s slots js names) in
          let at_in : at < length (flags_to s slots js names) = omega (arith, place.in_range, flag_count s slots js names) in
          elim (cases_eq i at) [
            | inl same ↦
                subst (λ k. get_or (set (flags_to s slots js names) at true) k true ≡ true) (sym same) (get_or-set_same (flags_to s slots js names) at true true at_in)
                ∙ sym (new_at i i_in ∙ or_right (flag js (get_or names i [])) (own (get_or names i [])) (is_own i (ap (λ k. get_or names k []) same ∙ place.own)))
            | inr apart ↦
                get_or-set_other (flags_to s slots js names) at i true true apart
                ∙ old_at i i_in
                ∙ sym (new_at i i_in ∙ or_left (flag js (get_or names i [])) (own (get_or names i [])) (is_other i i_in apart))
          ]

-- The queues whose flags are off.
flags_filter : (f : List ℕ → Bool) (names : List (List ℕ)) → unblocked (map f names) names ≡ filter (λ name. not (f name)) names
flags_filter f [] = refl
flags_filter f (n ∷ ns) = by_test (f n) (flags_filter f ns)
  where
    by_test : (b : Bool) → unblocked (map f ns) ns ≡ filter (λ name. not (f name)) ns → cond b (unblocked (map f ns) ns) (n ∷ unblocked (map f ns) ns) ≡ cond (not b) (n ∷ filter (λ name. not (f name)) ns) (filter (λ name. not (f name)) ns)
    by_test true rest = rest
    by_test false rest = ap (λ ms. n ∷ ms) rest

pub flags_free : (s : State) (slots : Slots) → unblocked (flags_to s slots (finite.keys slots) (finite.keys s.queues)) (finite.keys s.queues) ≡ free_queues s slots
flags_free s slots = flags_filter (λ name. is_blocked s slots name) (finite.keys s.queues)

-- ## Starts of the queues that are not blocked

unblocked_one : (flags : List Bool) (names : List (List ℕ)) (b : Bool) (name : List ℕ) → length flags ≡ length names → unblocked (flags ++ b ∷ []) (names ++ name ∷ []) ≡ unblocked flags names ++ cond b [] (name ∷ [])
unblocked_one [] [] b name e = refl
unblocked_one [] (n ∷ ns) b name e = absurd (omega arith)
unblocked_one (f ∷ fs) [] b name e = absurd (omega arith)
unblocked_one (f ∷ fs) (n ∷ ns) b name e = by_test f (unblocked_one fs ns b name (omega arith))
  where
    by_test : (f : Bool) → unblocked (fs ++ b ∷ []) (ns ++ name ∷ []) ≡ unblocked fs ns ++ cond b [] (name ∷ []) →
        cond f (unblocked (fs ++ b ∷ []) (ns ++ name ∷ [])) (n ∷ unblocked (fs ++ b ∷ []) (ns ++ name ∷ [])) ≡ cond f (unblocked fs ns) (n ∷ unblocked fs ns) ++ cond b [] (name ∷ [])
    by_test true rest = rest
    by_test false rest = ap (λ ms. n ∷ ms) rest

-- One more queue.
pub unblocked_more : (flags : List Bool) (names : List (List ℕ)) (i : ℕ) (b d : Bool) (name : List ℕ) → length flags ≡ length names → i < length names → b ≡ get_or flags i d → name ≡ get_or names i name →
    unblocked (take (i + 1) flags) (take (i + 1) names) ≡ unblocked (take i flags) (take i names) ++ cond b [] (name ∷ [])
unblocked_more flags names i b d name long lt at_flag at_name =
    let lt_flag : i < length flags = omega (arith, long, lt) in
    (λ j. unblocked (take_more flags i d lt_flag j) (take_more names i name lt j))
    ∙ ap (λ c. unblocked (take i flags ++ c ∷ []) (take i names ++ get_or names i name ∷ [])) (sym at_flag)
    ∙ ap (λ n. unblocked (take i flags ++ b ∷ []) (take i names ++ n ∷ [])) (sym at_name)
    ∙ unblocked_one (take i flags) (take i names) b name (length-take-le i flags (omega (arith, lt_flag)) ∙ sym (length-take-le i names (omega (arith, lt))))
