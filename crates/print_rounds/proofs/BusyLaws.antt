-- The processing jobs, queue by queue, are distinct, and so are the tended jobs and the started jobs among them.
use Rattle.std.proofs.Common.{◌≡◌, ℕ, suc, ◌+◌, ◌<◌, take, get_or, length, add-one, Bool, true, false, cond, not, ◌&&◌, ◌||◌, ◌==◌, List, [], ◌∷◌, ◌++◌, map, Option, Some, None, unwrap_or, IsTrue, refl, sym, ap, subst, ◌∙◌, arith}
use Rattle.std.proofs.Math.Seq.{take-suc}
use Rattle.std.specs.Option.{option_map}
use Rattle.std.specs.List.{filter, find, Contains}
use Rattle.std.specs.Cmp.{first_so, second_so}
use Rattle.std.specs.Cmp.Lexicographic.{slice_cmp, same_text, texts_ties}
use Rattle.std.proofs.lemmas.Cmp.{nat_list_eq_equiv}
use Rattle.std.specs.Ordering.{nat_cmp, is_lt, is_eq}
use Rattle.std.specs.declared.cmp.Ordering.{Ordering}
use Rattle.std.specs.declared.cmp.Ordering.TheVariants.{Less, Equal, Greater}
use Rattle.std.specs.FinMap as finite
use Rattle.std.specs.FinMap.Entries.{below_all}
use Rattle.std.proofs.lemmas.Bool.{eqb-true, or_from}
use Rattle.std.proofs.lemmas.List.Elements.{filter-append}
use Rattle.spool_types.specs.declared.rows.QueueRow.{QueueRow}
use Rattle.spool_types.specs.Busy.{is_of}
use Rattle.spool_types.specs.Phases.{is_processing}
use Rattle.spool_types.specs.State.{State, Job, job_at}
use Rattle.child_pipeline.specs.ChildTraces.{is_in}
use Rattle.job_table.specs.Attempts.{busy_of}
use Rattle.print_rounds.specs.Choice.{busy_jobs, with_busy}
use Rattle.print_rounds.specs.Finished.{AreDistinct, AllRest, HasNoneRunning}
use Rattle.child_pipeline.specs.StageSlots.{Slots}
use Rattle.print_rounds.specs.StageChecks.{idle_among, is_stray, runs, tended_jobs}
use Rattle.print_rounds.proofs.EndLaws.{not_first, not_second}
use Rattle.print_rounds.proofs.FreeLaws.{resting_of}
use Rattle.print_rounds.proofs.LookLaws.{true_from}

-- None of them has a running child.
pub all_rest : (slots : Slots) → HasNoneRunning slots → (js : List ℕ) → AllRest slots js
all_rest slots rests [] = tt
all_rest slots rests (j ∷ js) = (rests j, all_rest slots rests js)

module _ {X : Type 0} (p : X → Bool) where
  later : (x : X) (xs : List X) (y : X) → Contains xs y → Contains (x ∷ xs) y
  later x xs y (k, lt, e) = (suc k, omega (arith, lt), e)

  found_first : (x : X) (xs : List X) (y : X) (b : Bool) → p x ≡ b → cond b (Some x) (find p xs) ≡ Some y → (find p xs ≡ Some y → Contains xs y × (p y ≡ true)) → Contains (x ∷ xs) y × (p y ≡ true)
  found_first x xs y true is e rest =
      let same : x ≡ y = ap (λ o. unwrap_or o x) e in
      (subst (λ z. Contains (x ∷ xs) z) same (0, omega arith, refl), ap p (sym same) ∙ is)
  found_first x xs y false is e rest = let more = rest e in (later x xs y more.0, more.1)

  -- A job that is found passes the test.
  found : (xs : List X) (y : X) → find p xs ≡ Some y → Contains xs y × (p y ≡ true)
  found [] y e = absurd (cc)
  found (x ∷ xs) y e = found_first x xs y (p x) refl e (found xs y)

below_itself : (r : Ordering) → is_eq r ≡ true → IsTrue (is_lt r) → ⊥
below_itself Less e below = absurd (cc)
below_itself Equal e below = absurd (cc)
below_itself Greater e below = absurd (cc)

module _ (s : State) (rows : (r : Job) → Contains (finite.values s.jobs) r → job_at s r.id ≡ Some r) where
  -- The row of a queue's processing job.
  busy_row : (name : List ℕ) (j : ℕ) → busy_of s name ≡ Some j → (r : Job) × (job_at s j ≡ Some r) × (r.queue ≡ name)
  busy_row name j is = by_found (find test (finite.values s.jobs)) refl is
    where
      test : Job → Bool
      test r = is_of name r && is_processing r.phase

      by_found : (o : Option Job) → find test (finite.values s.jobs) ≡ o → option_map (λ (r : Job). r.id) o ≡ Some j → (r : Job) × (job_at s j ≡ Some r) × (r.queue ≡ name)
      by_found None e there = absurd (cc)
      by_found (Some r) e there =
          let (among, passes) = found test (finite.values s.jobs) r e in
          let id : r.id ≡ j = ap (λ o. unwrap_or o j) there in
          (r, subst (λ k. job_at s k ≡ Some r) id (rows r among), same_text r.queue name (sym (first_so (is_of name r) (is_processing r.phase) passes)))

  -- A job has one queue.
  one_queue : (m n : List ℕ) (j : ℕ) → busy_of s m ≡ Some j → busy_of s n ≡ Some j → m ≡ n
  one_queue m n j first second =
      let (r, there, own) = busy_row m j first in
      let (q, also, other) = busy_row n j second in
      let same : r ≡ q = ap (λ o. unwrap_or o r) (sym there ∙ also) in
      sym own ∙ ap (λ (x : Job). x.queue) same ∙ other

  -- No job of a queue is that of a later queue.
  busy_out : (n : List ℕ) (j : ℕ) → busy_of s n ≡ Some j → (es : List (List ℕ × QueueRow)) → IsTrue (below_all (slice_cmp nat_cmp) n es) → is_in j (busy_jobs s (map (λ e. e.0) es)) ≡ false
  busy_out n j own [] below = refl
  busy_out n j own (e ∷ es) below = by_busy (busy_out n j own es (second_so (is_lt (slice_cmp nat_cmp n e.0)) (below_all (slice_cmp nat_cmp) n es) below)) (busy_of s e.0) refl
    where
      first : IsTrue (is_lt (slice_cmp nat_cmp n e.0))
      first = first_so (is_lt (slice_cmp nat_cmp n e.0)) (below_all (slice_cmp nat_cmp) n es) below

      other : is_in j (busy_jobs s (map (λ e. e.0) es)) ≡ false → (k : ℕ) → busy_of s e.0 ≡ Some k → (b : Bool) → (k == j) ≡ b → (b || is_in j (busy_jobs s (map (λ e. e.0) es))) ≡ false
      other rest k is true same =
          let name : e.0 ≡ n = one_queue e.0 n j (is ∙ ap Some (eqb-true k j same)) own in
          absurd (below_itself (slice_cmp nat_cmp n n) (sym (texts_ties n n) ∙ nat_list_eq_equiv.refl n) (subst (λ m. IsTrue (is_lt (slice_cmp nat_cmp n m))) name first))
      other rest k is false same = rest

      by_busy : is_in j (busy_jobs s (map (λ e. e.0) es)) ≡ false → (o : Option ℕ) → busy_of s e.0 ≡ o → is_in j (with_busy o (busy_jobs s (map (λ e. e.0) es))) ≡ false
      by_busy rest None is = rest
      by_busy rest (Some k) is = other rest k is (k == j) refl

  busy_distinct : (es : List (List ℕ × QueueRow)) → IsTrue (finite.is_sorted (slice_cmp nat_cmp) es) → AreDistinct (busy_jobs s (map (λ e. e.0) es))
  busy_distinct [] sorted = tt
  busy_distinct (e ∷ es) sorted = by_busy (busy_distinct es (second_so (below_all (slice_cmp nat_cmp) e.0 es) (finite.is_sorted (slice_cmp nat_cmp) es) sorted)) (busy_of s e.0) refl
    where
      by_busy : AreDistinct (busy_jobs s (map (λ e. e.0) es)) → (o : Option ℕ) → busy_of s e.0 ≡ o → AreDistinct (with_busy o (busy_jobs s (map (λ e. e.0) es)))
      by_busy rest None is = rest
      by_busy rest (Some k) is = (busy_out e.0 k is es (first_so (below_all (slice_cmp nat_cmp) e.0 es) (finite.is_sorted (slice_cmp nat_cmp) es) sorted), rest)

  -- A table has each of its processing jobs once.
  pub all_distinct : AreDistinct (busy_jobs s (finite.keys s.queues))
  all_distinct = busy_distinct (finite.entries s.queues) (true_from _ (finite.entries_sorted s.queues))

-- One more queue.
pub busy_more : (s : State) (names : List (List ℕ)) (name : List ℕ) → busy_jobs s (names ++ name ∷ []) ≡ busy_jobs s names ++ with_busy (busy_of s name) []
busy_more s [] name = refl
busy_more s (n ∷ names) name = by_busy (busy_more s names name) (busy_of s n)
  where
    by_busy : busy_jobs s (names ++ name ∷ []) ≡ busy_jobs s names ++ with_busy (busy_of s name) [] → (o : Option ℕ) → with_busy o (busy_jobs s (names ++ name ∷ [])) ≡ with_busy o (busy_jobs s names) ++ with_busy (busy_of s name) []
    by_busy rest None = rest
    by_busy rest (Some k) = ap (λ js. k ∷ js) rest

-- The jobs with one more queue, whose job is known.
busy_further : (s : State) (names : List (List ℕ)) (i : ℕ) (name : List ℕ) → i < length names → name ≡ get_or names i name → busy_jobs s (take (i + 1) names) ≡ busy_jobs s (take i names) ++ with_busy (busy_of s name) []
busy_further s names i name lt at =
    ap (busy_jobs s) (ap (λ k. take k names) (add-one i) ∙ take-suc names i name lt)
    ∙ ap (λ n. busy_jobs s (take i names ++ n ∷ [])) (sym at)
    ∙ busy_more s (take i names) name

-- The jobs among them without a running child.
pub waiting_further : (s : State) (slots : Slots) (names : List (List ℕ)) (i : ℕ) (name : List ℕ) → i < length names → name ≡ get_or names i name →
    idle_among slots (busy_jobs s (take (i + 1) names)) ≡ idle_among slots (busy_jobs s (take i names)) ++ idle_among slots (with_busy (busy_of s name) [])
waiting_further s slots names i name lt at =
    ap (idle_among slots) (busy_further s names i name lt at)
    ∙ filter-append (λ j. not (runs slots j)) (busy_jobs s (take i names)) (with_busy (busy_of s name) [])

-- ## Tended jobs

module _ (s : State) (slots : Slots) where
  -- The job of a queue, if it is tended.
  abbrev pub tended_of : Option ℕ → List ℕ
  tended_of o = filter (λ j. not (is_stray s slots j)) (with_busy o [])

  pub tended_further : (names : List (List ℕ)) (i : ℕ) (name : List ℕ) → i < length names → name ≡ get_or names i name → tended_jobs s slots (take (i + 1) names) ≡ tended_jobs s slots (take i names) ++ tended_of (busy_of s name)
  tended_further names i name lt at =
      ap (filter (λ j. not (is_stray s slots j))) (busy_further s names i name lt at)
      ∙ filter-append (λ j. not (is_stray s slots j)) (busy_jobs s (take i names)) (with_busy (busy_of s name) [])

-- An item that is not in a list is not in a part of it.
out_of : (p : ℕ → Bool) (j : ℕ) (js : List ℕ) → is_in j js ≡ false → is_in j (filter p js) ≡ false
out_of p j [] out = refl
out_of p j (k ∷ js) out = by_test (out_of p j js (not_second (k == j) (is_in j js) out)) (p k)
  where
    by_test : is_in j (filter p js) ≡ false → (b : Bool) → is_in j (cond b (k ∷ filter p js) (filter p js)) ≡ false
    by_test rest true = or_from (k == j) (is_in j (filter p js)) (not_first (k == j) (is_in j js) out) rest
    by_test rest false = rest

pub part_distinct : (p : ℕ → Bool) (js : List ℕ) → AreDistinct js → AreDistinct (filter p js)
part_distinct p [] distinct = tt
part_distinct p (j ∷ js) (out, distinct) = by_test (part_distinct p js distinct) (p j)
  where
    by_test : AreDistinct (filter p js) → (b : Bool) → AreDistinct (cond b (j ∷ filter p js) (filter p js))
    by_test rest true = (out_of p j js out, rest)
    by_test rest false = rest

-- ## Started jobs

pub idle_distinct : (slots : Slots) (jobs : List ℕ) → AreDistinct jobs → AreDistinct (idle_among slots jobs)
idle_distinct slots jobs distinct = part_distinct (λ j. not (runs slots j)) jobs distinct

-- None of them has a running child.
pub idle_rests : (slots : Slots) (jobs : List ℕ) → AllRest slots (idle_among slots jobs)
idle_rests slots [] = tt
idle_rests slots (j ∷ jobs) = by_test (idle_rests slots jobs) (runs slots j) refl
  where
    by_test : AllRest slots (idle_among slots jobs) → (b : Bool) → runs slots j ≡ b → AllRest slots (cond (not b) (j ∷ idle_among slots jobs) (idle_among slots jobs))
    by_test rest true is = rest
    by_test rest false off = (resting_of (finite.get slots j) off, rest)
