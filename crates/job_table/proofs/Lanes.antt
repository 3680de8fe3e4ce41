-- The contents of a lane after a job leaves it or is added.
use Rattle.std.proofs.Common.{◌≡◌, ℕ, suc, ◌+◌, ◌<◌, ◌≤◌, ◌⊎◌, inl, inr, Bool, true, false, List, [], ◌∷◌, length, get_or, set, map, Option, Some, None, IsTrue, refl, sym, ap, subst, ◌∙◌, arith, rules}
use Rattle.std.specs.Prelude.{◌↔◌}
use Rattle.std.specs.List.{Contains, AllPairs, AllByRecursion}
use Rattle.std.proofs.lemmas.Bool.{both_ways, cases_eq}
use Rattle.std.proofs.lemmas.List.{length-map, length-set, get_or-set_same, get_or-set_other}
use Rattle.std.proofs.lemmas.List.Elements.{Contains-get_or}
use Rattle.queue_sched.specs.WaitingIndex.{Waits, InOrder, goes_before, LacksJob}
use Rattle.queue_sched.specs.declared.entry.Entry.{Entry}
use Rattle.job_table.specs.declared.lane.Lane.{Lane}
use Rattle.job_table.specs.declared.lane.LaneState.{LaneState}
use Rattle.job_table.specs.declared.lane.LaneState.TheVariants.{Ended, Incoming, Waiting, Processing}
use Rattle.job_table.specs.Lanes.{is_live, AllDiffer, AtMost, AtMostLive, IsLane, IsReseated, IsSameLane}

-- ## Numbers that differ

module _ {X : Type 0} where
  all_weaker : (P Q : X → Type 0) → ((x : X) → P x → Q x) → (xs : List X) → AllByRecursion P xs → AllByRecursion Q xs
  all_weaker P Q weaker [] all = tt
  all_weaker P Q weaker (x ∷ xs) all = (weaker x all.0, all_weaker P Q weaker xs all.1)

  all_both : (P Q : X → Type 0) → (xs : List X) → AllByRecursion P xs → AllByRecursion Q xs → AllByRecursion (λ x. P x × Q x) xs
  all_both P Q [] all all_too = tt
  all_both P Q (x ∷ xs) all all_too = ((all.0, all_too.0), all_both P Q xs all.1 all_too.1)

  later : (y : X) (ys : List X) (x : X) → Contains ys x → Contains (y ∷ ys) x
  later y ys x there = (suc there.0, omega (arith, there.1), there.2)

  pub all_from : (P : X → Type 0) (xs : List X) → ((x : X) → Contains xs x → P x) → AllByRecursion P xs
  all_from P [] each = tt
  all_from P (x ∷ xs) each = (each x (0, omega arith, refl), all_from P xs (λ y there. each y (later x xs y there)))

  all_at : (P : X → Type 0) (xs : List X) → ((k : ℕ) (d : X) → k < length xs → P (get_or xs k d)) → AllByRecursion P xs
  all_at P [] each = tt
  all_at P (x ∷ xs) each = (each 0 x (omega arith), all_at P xs (λ k d lt. each (suc k) d (omega (arith, lt))))

  pub all_numbers : (id : X → ℕ) (xs : List X) (P : ℕ → Type 0) → AllByRecursion (λ x. P (id x)) xs → AllByRecursion P (map id xs)
  all_numbers id [] P all = tt
  all_numbers id (x ∷ xs) P all = (all.0, all_numbers id xs P all.1)

  -- In a sorted list of items that are determined by their numbers, no two have the same number.
  pub apart_in_order : (id : X → ℕ) (before : X → X → Bool) → ((x : X) → before x x ≡ false) → (P : X → Type 0) → ((x y : X) → P x → P y → id x ≡ id y → x ≡ y)
      → (xs : List X) → AllPairs (λ x y. IsTrue (before x y)) xs → ((x : X) → Contains xs x → P x) → AllPairs (λ x y. ¬ (id y ≡ id x)) xs
  apart_in_order id before itself P told xs order each i k d lt within same =
      let x = get_or xs i d in
      let one : x ≡ get_or xs k d = told x (get_or xs k d) (each x (Contains-get_or xs i d (omega (arith, lt, within)))) (each (get_or xs k d) (Contains-get_or xs k d within)) (sym same) in
      both_ways (before x x) (itself x) (subst (λ y. before x y ≡ true) (sym one) (order i k d lt within))

-- All elements except one.
record Removed (P : ℕ → Type 0) (j : ℕ) (xs : List ℕ) : Type 0 where
  kept : List ℕ
  differ : AllDiffer kept
  all : AllByRecursion (λ y. (¬ (y ≡ j)) × P y) kept
  count : length xs ≤ length kept + 1

removed : (P : ℕ → Type 0) (j : ℕ) (xs : List ℕ) → AllDiffer xs → AllByRecursion P xs → Removed P j xs
removed P j [] differ all = record { kept = []; differ = tt; all = tt; count = omega arith }
removed P j (x ∷ xs) differ all = elim (cases_eq x j) [
  | inl same ↦ record {
    kept = xs;
    differ = differ.1;
    all = all_both (λ y. ¬ (y ≡ j)) P xs (all_weaker (λ y. ¬ (y ≡ x)) (λ y. ¬ (y ≡ j)) (λ y apart is. apart (is ∙ sym same)) xs differ.0) all.1;
    count = omega arith;
  }
  | inr other ↦
      (let rest = removed (λ y. P y × (¬ (y ≡ x))) j xs differ.1 (all_both P (λ y. ¬ (y ≡ x)) xs all.1 differ.0) in
      record {
        kept = x ∷ rest.kept;
        differ = (all_weaker _ (λ y. ¬ (y ≡ x)) (λ y has. has.1.1) rest.kept rest.all, rest.differ);
        all = ((other, all.0), all_weaker _ (λ y. (¬ (y ≡ j)) × P y) (λ y has. (has.0, has.1.0)) rest.kept rest.all);
        count = omega (arith, rest.count);
      })
]

-- ## The number of numbers that pass

-- At most n numbers pass, if each of them passed before.
pub no_more : (p q : ℕ → Bool) (n : ℕ) → AtMost p n → ((k : ℕ) → q k ≡ true → p k ≡ true) → AtMost q n
no_more p q n most before js differ all = most js differ (all_weaker (λ k. q k ≡ true) (λ k. p k ≡ true) before js all)

pub none_pass : (p : ℕ → Bool) → ((k : ℕ) → p k ≡ false) → AtMost p 0
none_pass p never [] differ all = omega arith
none_pass p never (j ∷ js) differ all = absurd (both_ways (p j) (never j) all.0)

module _ (p q : ℕ → Bool) (j n : ℕ) (most : AtMost p n) (others : (k : ℕ) → ¬ (k ≡ j) → q k ≡ p k) where
  pub one_passes : p j ≡ true → 1 ≤ n
  one_passes is = most (j ∷ []) (tt, tt) (is, tt)

  -- The number no longer passes.
  pub one_less : q j ≡ false → p j ≡ true → (m : ℕ) → m + 1 ≡ n → AtMost q m
  one_less not_now was m is = λ js differ all.
      let apart : AllByRecursion (λ k. ¬ (k ≡ j)) js = all_weaker (λ k. q k ≡ true) (λ k. ¬ (k ≡ j)) (λ k passes same. both_ways (q k) (ap q same ∙ not_now) passes) js all in
      let were : AllByRecursion (λ k. p k ≡ true) js =
      all_weaker (λ k. (¬ (k ≡ j)) × (q k ≡ true)) (λ k. p k ≡ true) (λ k has. sym (others k has.0) ∙ has.1) js (all_both _ _ js apart all) in
      let bound : suc (length js) ≤ n = most (j ∷ js) (apart, differ) (was, were) in
      omega (arith, bound, is)

  -- The number may pass now.
  pub one_more : AtMost q (n + 1)
  one_more = λ js differ all.
      let rest = removed (λ k. q k ≡ true) j js differ all in
      let bound : length rest.kept ≤ n =
      most rest.kept rest.differ (all_weaker _ (λ k. p k ≡ true) (λ k has. sym (others k has.0) ∙ has.1) rest.kept rest.all) in
      omega (arith, bound, rest.count)

  -- The bound stays the same if the number does not pass.
  pub as_many : q j ≡ false → AtMost q n
  as_many not_now = no_more p q n most (λ k passes. elim (cases_eq k j) [
    | inl same ↦ absurd (both_ways (q k) (ap q same ∙ not_now) passes)
    | inr other ↦ sym (others k other) ∙ passes
  ])

-- ## The number of jobs that have not ended

live_waiting : (to : LaneState) (e : Entry) → to ≡ Waiting e → is_live to ≡ true
live_waiting to e is = ap is_live is

ended_and_live : (to : LaneState) → to ≡ Ended → is_live to ≡ true → ⊥
ended_and_live to is live = (let no : false ≡ true = sym (ap is_live is) ∙ live in absurd (cc))

module _ (old new : ℕ → LaneState) (j : ℕ) (n : ℕ) (most : AtMostLive old n) where
  abbrev Live : (ℕ → LaneState) → ℕ → Bool
  Live seats k = is_live (seats k)

  live_others : (to : LaneState) → IsReseated old new j to → (k : ℕ) → ¬ (k ≡ j) → Live new k ≡ Live old k
  live_others to seated k other = ap is_live (seated.others k other)

  pub one_live : is_live (old j) ≡ true → 1 ≤ n
  one_live = one_passes (Live old) (Live old) j n most (λ k other. refl)

  -- A job that has not ended leaves.
  pub one_live_less : IsReseated old new j Ended → is_live (old j) ≡ true → (m : ℕ) → m + 1 ≡ n → AtMostLive new m
  one_live_less seated = one_less (Live old) (Live new) j n most (live_others Ended seated) (ap is_live seated.own)

  -- A job is added.
  pub one_live_more : (to : LaneState) → IsReseated old new j to → AtMostLive new (n + 1)
  one_live_more to seated = one_more (Live old) (Live new) j n most (live_others to seated)

-- ## The length of a list

-- Items that are distinguished by their numbers have different numbers.
pub differ_numbers : {X : Type 0} (id : X → ℕ) (xs : List X) → AllPairs (λ x y. ¬ (id y ≡ id x)) xs → AllDiffer (map id xs)
differ_numbers id [] apart = tt
differ_numbers id (x ∷ xs) apart = (
  all_numbers id xs (λ k. ¬ (k ≡ id x)) (all_at (λ y. ¬ (id y ≡ id x)) xs (λ k d lt. apart 0 (suc k) d (omega arith) (omega (arith, lt)))),
  differ_numbers id xs (λ i k d lt within. apart (suc i) (suc k) d (omega (arith, lt)) (omega (arith, within))),
)

not_before_itself : (e : Entry) → goes_before e e ≡ false
not_before_itself e = search rules

same_entry : (e f : Entry) → Waiting e ≡ Waiting f → e ≡ f
same_entry e f is = cc

module _ (seats : ℕ → LaneState) where
  abbrev IsItem : Entry → Type 0
  IsItem e = seats e.id ≡ Waiting e

  pub as_many_wait : (lane : Lane) → IsLane seats lane → InOrder lane.index.items → length lane.index.items ≤ lane.live
  as_many_wait lane is order =
      let items = lane.index.items in
      let apart = apart_in_order (λ (e : Entry). e.id) goes_before not_before_itself IsItem (λ e f at_e at_f same. same_entry e f (sym at_e ∙ ap seats same ∙ at_f)) items order is.waiting in
      subst (λ n. n ≤ lane.live) (length-map items (λ e. e.id))
      (is.live (map (λ e. e.id) items) (differ_numbers (λ (e : Entry). e.id) items apart)
      (all_numbers (λ (e : Entry). e.id) items (λ k. is_live (seats k) ≡ true) (all_from (λ e. is_live (seats e.id) ≡ true) items (λ e there. live_waiting (seats e.id) e (is.waiting e there)))))

-- ## A job leaves or is added

module _ (old new : ℕ → LaneState) (j : ℕ) (lane : Lane) (is : IsLane old lane) where
  -- A waiting job is not processing, and a processing job is not waiting.
  apart_waiting : (k : ℕ) (e : Entry) → old k ≡ Waiting e → old k ≡ Processing → ⊥
  apart_waiting k e p q = (let no : Waiting e ≡ Processing = sym p ∙ q in absurd (cc))

  module _ (seated : IsReseated old new j Ended) where
    pub left_ended : old j ≡ Ended → IsLane new lane
    left_ended was =
        let same : (k : ℕ) → new k ≡ old k = λ k. elim (cases_eq k j) [ inl own ↦ ap new own ∙ seated.own ∙ sym was ∙ ap old (sym own) | inr other ↦ seated.others k other ] in
        record {
          waiting = λ e there. same e.id ∙ is.waiting e there;
          listed = λ k e waits. is.listed k e (sym (same k) ∙ waits);
          processing = λ k at. same k ∙ is.processing k at;
          found = λ k at. is.found k (sym (same k) ∙ at);
          live = no_more (λ k. is_live (old k)) (λ k. is_live (new k)) lane.live is.live (λ k alive. ap is_live (sym (same k)) ∙ alive);
          room = is.room;
          reserved = is.reserved;
        }

    -- Each job with a lane state is not the job that left.
    stood : (k : ℕ) (x : LaneState) → new k ≡ x → is_live x ≡ true → (¬ (k ≡ j)) × (old k ≡ x)
    stood k x at alive = elim (cases_eq k j) [
      | inl own ↦ absurd (ended_and_live x (sym at ∙ ap new own ∙ seated.own) alive)
      | inr other ↦ (other, sym (seated.others k other) ∙ at)
    ]

    pub left_incoming : old j ≡ Incoming → (n : ℕ) → n + 1 ≡ lane.live → IsLane new (record lane { live = n })
    left_incoming was n less = record {
      waiting = λ e there. seated.others e.id (λ own. (let no : Waiting e ≡ Incoming = sym (is.waiting e there) ∙ ap old own ∙ was in absurd (cc))) ∙ is.waiting e there;
      listed = λ k e waits. is.listed k e (stood k (Waiting e) waits refl).1;
      processing = λ k at. seated.others k (λ own. (let no : Processing ≡ Incoming = sym (is.processing k at) ∙ ap old own ∙ was in absurd (cc))) ∙ is.processing k at;
      found = λ k at. is.found k (stood k Processing at refl).1;
      live = one_live_less old new j lane.live is.live seated (ap is_live was) n less;
      room = omega (arith, less, is.room);
      reserved = is.reserved;
    }

    pub left_processing : old j ≡ Processing → (n : ℕ) → n + 1 ≡ lane.live → IsLane new (record lane { processing = None; live = n })
    left_processing was n less = record {
      waiting = λ e there. seated.others e.id (λ own. apart_waiting e.id e (is.waiting e there) (ap old own ∙ was)) ∙ is.waiting e there;
      listed = λ k e waits. is.listed k e (stood k (Waiting e) waits refl).1;
      processing = λ k at. absurd (cc);
      found = λ k at.
          let before = stood k Processing at refl in
          absurd (before.0 (some_number k j (sym (is.found k before.1) ∙ is.found j was)));
      live = one_live_less old new j lane.live is.live seated (ap is_live was) n less;
      room = omega (arith, less, is.room);
      reserved = is.reserved;
    }
      where
        some_number : (k m : ℕ) → Some k ≡ Some m → k ≡ m
        some_number k m e = cc

    pub left_waiting : (e : Entry) → old j ≡ Waiting e → (w : Waits) → ((f : Entry) → Contains w.items f ↔ (Contains lane.index.items f × (¬ (f ≡ e)))) → w.room ≡ lane.index.room
        → (n : ℕ) → n + 1 ≡ lane.live → IsLane new (record lane { index = w; live = n })
    left_waiting e was w items room n less = record {
      waiting = λ f there.
          let kept = (items f).0 there in
          seated.others f.id (λ own. kept.1 (same_entry f e (sym (is.waiting f kept.0) ∙ ap old own ∙ was))) ∙ is.waiting f kept.0;
      listed = λ k f waits.
          let before = stood k (Waiting f) waits refl in
          let there = is.listed k f before.1 in
          (there.0, (items f).1 (there.1, λ same. before.0 (sym there.0 ∙ ap (λ (g : Entry). g.id) same ∙ (is.listed j e was).0)));
      processing = λ k at. seated.others k (λ own. apart_waiting j e was (ap old (sym own) ∙ is.processing k at)) ∙ is.processing k at;
      found = λ k at. is.found k (stood k Processing at refl).1;
      live = one_live_less old new j lane.live is.live seated (ap is_live was) n less;
      room = omega (arith, less, is.room);
      reserved = rw room is.reserved;
    }

  module _ (to : LaneState) (seated : IsReseated old new j to) (was : old j ≡ Ended) where
    -- Each job that had a lane state before still has it.
    stands : (k : ℕ) (x : LaneState) → old k ≡ x → is_live x ≡ true → new k ≡ x
    stands k x at alive = seated.others k (λ own. ended_and_live x (sym at ∙ ap old own ∙ was) alive) ∙ at

    pub put_incoming : to ≡ Incoming → lane.live < lane.reserved → (n : ℕ) → n ≡ lane.live + 1 → IsLane new (record lane { live = n })
    put_incoming is_to space n more = record {
      waiting = λ e there. stands e.id (Waiting e) (is.waiting e there) refl;
      listed = λ k e waits. is.listed k e (before k (Waiting e) waits (λ same. (let no : Waiting e ≡ Incoming = same ∙ is_to in absurd (cc))));
      processing = λ k at. stands k Processing (is.processing k at) refl;
      found = λ k at. is.found k (before k Processing at (λ same. (let no : Processing ≡ Incoming = same ∙ is_to in absurd (cc))));
      live = subst (AtMostLive new) (sym more) (one_live_more old new j lane.live is.live to seated);
      room = omega (arith, space, more);
      reserved = is.reserved;
    }
      where
        before : (k : ℕ) (x : LaneState) → new k ≡ x → (x ≡ to → ⊥) → old k ≡ x
        before k x at apart = sym (seated.others k (λ own. apart (sym at ∙ ap new own ∙ seated.own))) ∙ at

    pub put_processing : to ≡ Processing → lane.processing ≡ None → lane.live < lane.reserved → (n : ℕ) → n ≡ lane.live + 1 → IsLane new (record lane { processing = Some j; live = n })
    put_processing is_to free space n more = record {
      waiting = λ e there. stands e.id (Waiting e) (is.waiting e there) refl;
      listed = λ k e waits. is.listed k e (sym (seated.others k (λ own. (let no : Waiting e ≡ Processing = sym waits ∙ ap new own ∙ seated.own ∙ is_to in absurd (cc)))) ∙ waits);
      processing = λ k at. ap new (sym (some_number j k at)) ∙ seated.own ∙ is_to;
      found = λ k at. elim (cases_eq k j) [
        | inl own ↦ ap Some (sym own)
        | inr other ↦ absurd (not_some k (sym free ∙ is.found k (sym (seated.others k other) ∙ at)))
      ];
      live = subst (AtMostLive new) (sym more) (one_live_more old new j lane.live is.live to seated);
      room = omega (arith, space, more);
      reserved = is.reserved;
    }
      where
        some_number : (k m : ℕ) → Some k ≡ Some m → k ≡ m
        some_number k m e = cc

        not_some : (k : ℕ) → None ≡ Some k → ⊥
        not_some k e = cc

    pub put_waiting : (e : Entry) → to ≡ Waiting e → e.id ≡ j → (w : Waits) → ((f : Entry) → Contains w.items f ↔ (Contains lane.index.items f ⊎ (f ≡ e))) → w.room ≡ lane.index.room
        → lane.live < lane.reserved → (n : ℕ) → n ≡ lane.live + 1 → IsLane new (record lane { index = w; live = n })
    put_waiting e is_to own_number w items room space n more = record {
      waiting = λ f there. elim ((items f).0 there) [
        | inl kept ↦ stands f.id (Waiting f) (is.waiting f kept) refl
        | inr same ↦ ap (λ (g : Entry). new g.id) same ∙ ap new own_number ∙ seated.own ∙ is_to ∙ ap Waiting (sym same)
      ];
      listed = λ k f waits. elim (cases_eq k j) [
        | inl own ↦ (let same : f ≡ e = same_entry f e (sym waits ∙ ap new own ∙ seated.own ∙ is_to) in
            (ap (λ (g : Entry). g.id) same ∙ own_number ∙ sym own, (items f).1 (inr same)))
        | inr other ↦ (let there = is.listed k f (sym (seated.others k other) ∙ waits) in (there.0, (items f).1 (inl there.1)))
      ];
      processing = λ k at. stands k Processing (is.processing k at) refl;
      found = λ k at. is.found k (sym (seated.others k (λ own. (let no : Waiting e ≡ Processing = sym is_to ∙ sym seated.own ∙ ap new (sym own) ∙ at in absurd (cc)))) ∙ at);
      live = subst (AtMostLive new) (sym more) (one_live_more old new j lane.live is.live to seated);
      room = omega (arith, space, more);
      reserved = rw room is.reserved;
    }

  -- A waiting job gets another entry.
  module _ (e f : Entry) (was : old j ≡ Waiting e) (seated : IsReseated old new j (Waiting f)) where
    as_live : (k : ℕ) → is_live (new k) ≡ true → is_live (old k) ≡ true
    as_live k alive = elim (cases_eq k j) [
      | inl own ↦ ap is_live (ap old own ∙ was)
      | inr other ↦ ap is_live (sym (seated.others k other)) ∙ alive
    ]

    pub changed_waiting : f.id ≡ j → (w : Waits) → ((g : Entry) → Contains w.items g ↔ ((Contains lane.index.items g × (¬ (g ≡ e))) ⊎ (g ≡ f))) → w.room ≡ lane.index.room → IsLane new (record lane { index = w })
    changed_waiting own_number w items room = record {
      waiting = λ g there. elim ((items g).0 there) [
        | inl kept ↦ seated.others g.id (λ own. kept.1 (same_entry g e (sym (is.waiting g kept.0) ∙ ap old own ∙ was))) ∙ is.waiting g kept.0
        | inr same ↦ ap (λ (h : Entry). new h.id) same ∙ ap new own_number ∙ seated.own ∙ ap Waiting (sym same)
      ];
      listed = λ k g waits. elim (cases_eq k j) [
        | inl own ↦ (let same : g ≡ f = same_entry g f (sym waits ∙ ap new own ∙ seated.own) in
            (ap (λ (h : Entry). h.id) same ∙ own_number ∙ sym own, (items g).1 (inr same)))
        | inr other ↦ (let there = is.listed k g (sym (seated.others k other) ∙ waits) in
            (there.0, (items g).1 (inl (there.1, λ same. other (sym there.0 ∙ ap (λ (h : Entry). h.id) same ∙ (is.listed j e was).0)))))
      ];
      processing = λ k at. seated.others k (λ own. apart_waiting j e was (ap old (sym own) ∙ is.processing k at)) ∙ is.processing k at;
      found = λ k at. is.found k (sym (seated.others k (λ own. (let no : Waiting f ≡ Processing = sym seated.own ∙ ap new (sym own) ∙ at in absurd (cc)))) ∙ at);
      live = no_more (λ k. is_live (old k)) (λ k. is_live (new k)) lane.live is.live as_live;
      room = is.room;
      reserved = rw room is.reserved;
    }

-- The index does not have a job with another lane state.
pub lacks : (seats : ℕ → LaneState) (lane : Lane) (j : ℕ) → IsLane seats lane → seats j ≡ Ended → LacksJob lane.index.items j
lacks seats lane j is ended = λ e there same. (let no : Waiting e ≡ Ended = sym (is.waiting e there) ∙ ap seats same ∙ ended in absurd (cc))

-- ## A single lane

pub empty_lane : (w : Waits) → w.items ≡ [] → (seats : ℕ → LaneState) → ((j : ℕ) → seats j ≡ Ended) → IsLane seats (record { index = w; processing = None; live = 0; reserved = 0 })
empty_lane w none seats ended = record {
  waiting = λ e there. absurd (nothing e (subst (λ es. Contains es e) none there));
  listed = λ j e waits. (let no : Waiting e ≡ Ended = sym waits ∙ ended j in absurd (cc));
  processing = λ j at. absurd (cc);
  found = λ j at. (let no : Processing ≡ Ended = sym at ∙ ended j in absurd (cc));
  live = none_pass (λ j. is_live (seats j)) (λ j. ap is_live (ended j));
  room = omega arith;
  reserved = omega arith;
}
  where
    nothing : (e : Entry) → Contains [] e → ⊥
    nothing e there = omega (arith, there.1)

-- The same entries, and at least as much room.
pub lane_with : (lane : Lane) (w : Waits) → w.items ≡ lane.index.items → (n : ℕ) → lane.live ≤ n → n ≤ w.room → (seats : ℕ → LaneState) → IsLane seats lane → IsLane seats (record lane { index = w; reserved = n })
lane_with lane w items n live room seats is = record {
  waiting = λ e there. is.waiting e (subst (λ es. Contains es e) items there);
  listed = λ j e waits. (let there = is.listed j e waits in (there.0, subst (λ es. Contains es e) (sym items) there.1));
  processing = is.processing;
  found = is.found;
  live = is.live;
  room = live;
  reserved = room;
}

-- The jobs without one. It may then be added again with another lane state.
pub taken : (ℕ → LaneState) → ℕ → ℕ → LaneState
taken seats j k = elim (cases_eq k j) [ inl same ↦ Ended | inr other ↦ seats k ]

pub taken_own : (seats : ℕ → LaneState) (j : ℕ) → IsReseated seats (taken seats j) j Ended
unfolding taken
taken_own seats j = record { own = own (cases_eq j j); others = λ k other. others k other (cases_eq k j) }
  where
    own : (o : (j ≡ j) ⊎ (j ≡ j → ⊥)) → elim o [ inl same ↦ Ended | inr other ↦ seats j ] ≡ Ended
    own (inl same) = refl
    own (inr other) = absurd (other refl)

    others : (k : ℕ) → (k ≡ j → ⊥) → (o : (k ≡ j) ⊎ (k ≡ j → ⊥)) → elim o [ inl same ↦ Ended | inr other ↦ seats k ] ≡ seats k
    others k other (inl same) = absurd (other same)
    others k other (inr apart) = refl

pub put_back : (old new : ℕ → LaneState) (j : ℕ) (to : LaneState) → IsReseated old new j to → IsReseated (taken old j) new j to
put_back old new j to seated = record { own = seated.own; others = λ k other. seated.others k other ∙ sym ((taken_own old j).others k other) }

-- ## A list with elements that change in order

module _ {Y : Type 0} (R : Y → Y → Type 0) (first now : List Y) (at : ℕ) (new : Y) (within : at < length now) where
  pub set_done : ((i : ℕ) (d : Y) → i < at → R (get_or first i d) (get_or now i d)) → ((d : Y) → R (get_or first at d) new)
      → (i : ℕ) (d : Y) → i < at + 1 → R (get_or first i d) (get_or (set now at new) i d)
  set_done done step i d lt = elim (cases_eq i at) [
    | inl same ↦ subst (λ n. R (get_or first n d) (get_or (set now at new) n d)) (sym same) (subst (λ y. R (get_or first at d) y) (sym (get_or-set_same now at new d within)) (step d))
    | inr other ↦ subst (λ y. R (get_or first i d) y) (sym (get_or-set_other now at i new d other)) (done i d (omega (arith, lt, other)))
  ]

  pub set_all : ((i : ℕ) (d : Y) → i < length now → R (get_or first i d) (get_or now i d)) → ((d : Y) → R (get_or first at d) (get_or now at d) → R (get_or first at d) new)
      → (i : ℕ) (d : Y) → i < length (set now at new) → R (get_or first i d) (get_or (set now at new) i d)
  set_all all step i d lt = elim (cases_eq i at) [
    | inl same ↦ subst (λ n. R (get_or first n d) (get_or (set now at new) n d)) (sym same) (subst (λ y. R (get_or first at d) y) (sym (get_or-set_same now at new d within)) (step d (all at d within)))
    | inr other ↦ subst (λ y. R (get_or first i d) y) (sym (get_or-set_other now at i new d other)) (all i d (subst (λ n. i < n) (length-set now at new) lt))
  ]

  pub set_rest : ((i : ℕ) (d : Y) → at ≤ i → get_or now i d ≡ get_or first i d) → (i : ℕ) (d : Y) → at + 1 ≤ i → get_or (set now at new) i d ≡ get_or first i d
  set_rest rest i d le = get_or-set_other now at i new d (λ same. omega (arith, le, same)) ∙ rest i d (omega (arith, le))

pub none_left : (o : Option ℕ) → ((k : ℕ) → o ≡ Some k → ⊥) → o ≡ None
none_left None never = refl
none_left (Some k) never = absurd (never k refl)

pub same_then : (a b c : Lane) → IsSameLane a b → IsSameLane b c → IsSameLane a c
same_then a b c first second = record {
  lane = λ seats is. second.lane seats (first.lane seats is);
  live = second.live ∙ first.live;
  moment = second.moment ∙ first.moment;
  reserved = omega (arith, first.reserved, second.reserved);
}
