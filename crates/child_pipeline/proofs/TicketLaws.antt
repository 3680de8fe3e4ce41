-- No ticket is lost, and none is used twice.
use Rattle.std.proofs.Common.{◌≡◌, ◌⊎◌, inl, inr, ℕ, suc, Bool, true, false, cond, ◌==◌, ◌||◌, List, [], ◌∷◌, ◌++◌, length, Option, Some, None, unwrap_or, Result, Ok, Err, refl, sym, ap, subst, ◌∙◌, arith}
use Rattle.std.specs.FinMap as finite
use Rattle.std.specs.Cmp.{nat_cmp_total, unsigned_tied}
use Rattle.std.proofs.lemmas.Bool.{eqb-true, eq-eqb}
use Rattle.std.proofs.lemmas.List.{length-append}
use Rattle.child_pipeline.specs.StageSlots.{Slots, slot_in, with_progress, put_progress, progress_after, IsStartOf, IsTicketless, Waits}
use Rattle.child_pipeline.specs.ChildTraces.{ChildTrace, is_in, without, starts_first, started_by, after_finish, after_look, HasLooked}
use Rattle.child_pipeline.specs.Tickets.{IsRunningAs, AreOnce, HasTickets, IsBalanced, AreKeptBy}
use Rattle.child_pipeline.specs.Finishes.{no_start}
use Rattle.child_pipeline.specs.declared.order.ChildFault.{ChildFault}
use Rattle.child_pipeline.specs.declared.order.Order.{Order}
use Rattle.child_pipeline.specs.declared.order.Placed.{Placed}
use Rattle.child_pipeline.specs.declared.runner.Progress.{Progress}
use Rattle.child_pipeline.specs.declared.runner.Progress.TheVariants.{Ready, Running, Ended}
use Rattle.child_pipeline.specs.declared.runner.Slot.{Slot}
use Rattle.child_pipeline.proofs.PutLaws.{get_own}

-- ## Lists of numbers

some_of : {X : Type 0} (x y : X) → Some x ≡ Some y → x ≡ y
some_of x y e = ap (λ o. unwrap_or o x) e

is_self : (n : ℕ) → (n == n) ≡ true
is_self n = eq-eqb n n refl

never : {P : Type 0} (b : Bool) → b ≡ true → b ≡ false → P
never b is other = let both : true ≡ false = sym is ∙ other in absurd (cc)

in_either : (n x : ℕ) (b : Bool) → (x == n || b) ≡ true → (x ≡ n) ⊎ (b ≡ true)
in_either n x b is = by_test (x == n) refl is
  where
    by_test : (c : Bool) → (x == n) ≡ c → (c || b) ≡ true → (x ≡ n) ⊎ (b ≡ true)
    by_test true same or = inl (eqb-true x n same)
    by_test false other or = inr or

or_later : (a b : Bool) → b ≡ true → (a || b) ≡ true
or_later true b is = refl
or_later false b is = is

or_first : (a b : Bool) → a ≡ true → (a || b) ≡ true
or_first true b is = refl
or_first false b is = absurd (cc)

not_either : (a b : Bool) → a ≡ false → b ≡ false → (a || b) ≡ false
not_either true b first later = absurd (cc)
not_either false b first later = later

second : (a b : Bool) → (a || b) ≡ false → b ≡ false
second true b is = absurd (cc)
second false b is = is

in_more : (n y : ℕ) (xs : List ℕ) → is_in n xs ≡ true → is_in n (xs ++ y ∷ []) ≡ true
in_more n y [] is = absurd (cc)
in_more n y (x ∷ xs) is = elim (in_either n x (is_in n xs) is) [
  | inl same ↦ or_first (x == n) (is_in n (xs ++ y ∷ [])) (eq-eqb x n same)
  | inr later ↦ or_later (x == n) (is_in n (xs ++ y ∷ [])) (in_more n y xs later)
]

in_last : (y : ℕ) (xs : List ℕ) → is_in y (xs ++ y ∷ []) ≡ true
in_last y [] = or_first (y == y) false (is_self y)
in_last y (x ∷ xs) = or_later (x == y) (is_in y (xs ++ y ∷ [])) (in_last y xs)

in_some : (n y : ℕ) (xs : List ℕ) → is_in n (xs ++ y ∷ []) ≡ true → (is_in n xs ≡ true) ⊎ (n ≡ y)
in_some n y [] is = elim (in_either n y false is) [
  | inl same ↦ inr (sym same)
  | inr none ↦ absurd (cc)
]
in_some n y (x ∷ xs) is = elim (in_either n x (is_in n (xs ++ y ∷ [])) is) [
  | inl same ↦ inl (or_first (x == n) (is_in n xs) (eq-eqb x n same))
  | inr later ↦ elim (in_some n y xs later) [
    | inl first ↦ inl (or_later (x == n) (is_in n xs) first)
    | inr last ↦ inr last
  ]
]

differs : (x y : ℕ) → ¬ (x ≡ y) → (x == y) ≡ false
differs x y apart = by_test (x == y) refl
  where
    by_test : (b : Bool) → (x == y) ≡ b → b ≡ false
    by_test true is = absurd (apart (eqb-true x y is))
    by_test false is = refl

not_more : (n y : ℕ) (xs : List ℕ) → ¬ (n ≡ y) → is_in n xs ≡ false → is_in n (xs ++ y ∷ []) ≡ false
not_more n y xs apart out = by_test (is_in n (xs ++ y ∷ [])) refl
  where
    by_test : (b : Bool) → is_in n (xs ++ y ∷ []) ≡ b → b ≡ false
    by_test true is = elim (in_some n y xs is) [
      | inl first ↦ never (is_in n xs) first out
      | inr last ↦ absurd (apart last)
    ]
    by_test false is = refl

once_more : (y : ℕ) (xs : List ℕ) → AreOnce xs → is_in y xs ≡ false → AreOnce (xs ++ y ∷ [])
once_more y [] once out = (refl, tt)
once_more y (x ∷ xs) (first, once) out = (
  not_more x y xs (λ same. never (x == y) (eq-eqb x y same) (head (x == y) (is_in y xs) out)) first,
  once_more y xs once (second (x == y) (is_in y xs) out),
)
  where
    head : (a b : Bool) → (a || b) ≡ false → a ≡ false
    head true b is = absurd (cc)
    head false b is = refl

-- The head is removed if it is the number.
without_is : (n x : ℕ) (xs : List ℕ) (b : Bool) → (x == n) ≡ b → without n (x ∷ xs) ≡ cond b xs (x ∷ without n xs)
without_is n x xs b is = ap (λ c. cond c xs (x ∷ without n xs)) is

in_without : (m n : ℕ) (xs : List ℕ) → is_in m (without n xs) ≡ true → is_in m xs ≡ true
in_without m n [] is = is
in_without m n (x ∷ xs) is = by_test (in_without m n xs) (x == n) refl
  where
    by_test : (is_in m (without n xs) ≡ true → is_in m xs ≡ true) → (b : Bool) → (x == n) ≡ b → is_in m (x ∷ xs) ≡ true
    by_test rest true same = or_later (x == m) (is_in m xs) (ap (is_in m) (sym (without_is n x xs true same)) ∙ is)
    by_test rest false other = elim (in_either m x (is_in m (without n xs)) (ap (is_in m) (sym (without_is n x xs false other)) ∙ is)) [
      | inl first ↦ or_first (x == m) (is_in m xs) (eq-eqb x m first)
      | inr later ↦ or_later (x == m) (is_in m xs) (rest later)
    ]

still_in : (m n : ℕ) (xs : List ℕ) → ¬ (m ≡ n) → is_in m xs ≡ true → is_in m (without n xs) ≡ true
still_in m n [] apart is = is
still_in m n (x ∷ xs) apart is = by_test (still_in m n xs apart) (x == n) refl
  where
    by_test : (is_in m xs ≡ true → is_in m (without n xs) ≡ true) → (b : Bool) → (x == n) ≡ b → is_in m (without n (x ∷ xs)) ≡ true
    by_test rest true same = ap (is_in m) (without_is n x xs true same) ∙ elim (in_either m x (is_in m xs) is) [
      | inl first ↦ absurd (apart (sym first ∙ eqb-true x n same))
      | inr later ↦ later
    ]
    by_test rest false other = ap (is_in m) (without_is n x xs false other) ∙ elim (in_either m x (is_in m xs) is) [
      | inl first ↦ or_first (x == m) (is_in m (without n xs)) (eq-eqb x m first)
      | inr later ↦ or_later (x == m) (is_in m (without n xs)) (rest later)
    ]

gone_from : (n : ℕ) (xs : List ℕ) → AreOnce xs → is_in n (without n xs) ≡ false
gone_from n [] once = refl
gone_from n (x ∷ xs) (first, once) = by_test (gone_from n xs once) (x == n) refl
  where
    by_test : is_in n (without n xs) ≡ false → (b : Bool) → (x == n) ≡ b → is_in n (without n (x ∷ xs)) ≡ false
    by_test rest true same = ap (is_in n) (without_is n x xs true same) ∙ subst (λ k. is_in k xs ≡ false) (eqb-true x n same) first
    by_test rest false other = ap (is_in n) (without_is n x xs false other) ∙ not_either (x == n) (is_in n (without n xs)) other rest

once_without : (n : ℕ) (xs : List ℕ) → AreOnce xs → AreOnce (without n xs)
once_without n [] once = tt
once_without n (x ∷ xs) (first, once) = by_test (once_without n xs once) (x == n) refl
  where
    none : (b : Bool) → is_in x (without n xs) ≡ b → b ≡ false
    none true is = never (is_in x xs) (in_without x n xs is) first
    none false is = refl

    by_test : AreOnce (without n xs) → (b : Bool) → (x == n) ≡ b → AreOnce (without n (x ∷ xs))
    by_test rest true same = subst AreOnce (sym (without_is n x xs true same)) once
    by_test rest false other = subst AreOnce (sym (without_is n x xs false other)) (none (is_in x (without n xs)) refl, rest)

one_less : (n : ℕ) (xs : List ℕ) → is_in n xs ≡ true → suc (length (without n xs)) ≡ length xs
one_less n [] is = absurd (cc)
one_less n (x ∷ xs) is = by_test (one_less n xs) (x == n) refl
  where
    by_test : (is_in n xs ≡ true → suc (length (without n xs)) ≡ length xs) → (b : Bool) → (x == n) ≡ b → suc (length (without n (x ∷ xs))) ≡ suc (length xs)
    by_test rest true same = ap (λ l. suc (length l)) (without_is n x xs true same)
    by_test rest false other = ap (λ l. suc (length l)) (without_is n x xs false other) ∙ ap suc (rest (elim (in_either n x (is_in n xs) is) [
      | inl first ↦ never (x == n) (eq-eqb x n first) other
      | inr later ↦ later
    ]))

-- ## Slots

get_other : (m : Slots) (j k : ℕ) (x : Slot ℕ) → (k == j) ≡ false → finite.get (finite.insert m j x) k ≡ finite.get m k
get_other m j k x other = finite.get-insert nat_cmp_total m j x k ∙ ap (λ b. cond b (Some x) (finite.get m k)) (unsigned_tied k j ∙ other)

-- A child of a job without one.
no_child : {P : Type 0} (m : Slots) (j n : ℕ) → IsTicketless (finite.get m j) → IsRunningAs m j n → P
no_child m j n rests r = absurd (subst IsTicketless r.there rests n r.runs)

module _ (m : Slots) (j : ℕ) (x : Slot ℕ) where
  other_runs : (k n : ℕ) → (k == j) ≡ false → IsRunningAs m k n → IsRunningAs (finite.insert m j x) k n
  other_runs k n other r = record { slot = r.slot; there = get_other m j k x other ∙ r.there; runs = r.runs }

  put_runs : (k n : ℕ) → IsRunningAs (finite.insert m j x) k n → ((k ≡ j) × (x.progress ≡ Running n)) ⊎ (((k == j) ≡ false) × IsRunningAs m k n)
  put_runs k n r = by_test (k == j) refl
    where
      by_test : (b : Bool) → (k == j) ≡ b → ((k ≡ j) × (x.progress ≡ Running n)) ⊎ (((k == j) ≡ false) × IsRunningAs m k n)
      by_test true is =
          let same : k ≡ j = eqb-true k j is in
          inl (same, ap (λ (s : Slot ℕ). s.progress) (some_of x r.slot (sym (get_own m j x) ∙ ap (finite.get (finite.insert m j x)) (sym same) ∙ r.there)) ∙ r.runs)
      by_test false is = inr (is, record { slot = r.slot; there = sym (get_other m j k x is) ∙ r.there; runs = r.runs })

  -- A slot without a child replaces one without a child.
  pub quiet_put : ((n : ℕ) → ¬ (x.progress ≡ Running n)) → IsTicketless (finite.get m j) → (t : ChildTrace) → HasTickets m t → HasTickets (finite.insert m j x) t
  quiet_put quiet rests t has = record {
    running = λ k n r. has.running k n (back k n r);
    owned = λ n is. let (k, r) = has.owned n is in (k, other_runs k n (differs k j (λ same. no_child m j n rests (subst (λ i. IsRunningAs m i n) same r))) r);
    apart = λ i k n r q. has.apart i k n (back i n r) (back k n q);
    known = has.known;
    once = has.once;
  }
    where
      back : (k n : ℕ) → IsRunningAs (finite.insert m j x) k n → IsRunningAs m k n
      back k n r = elim (put_runs k n r) [
        | inl own ↦ absurd (quiet n own.1)
        | inr old ↦ old.1
      ]

-- More orders, without running children.
more_orders : (m : Slots) (t : ChildTrace) (starts : List (Result (Unit {0}) ChildFault)) (p : Placed) → HasTickets m t → HasTickets m (record t { starts = starts; orders = t.orders ++ p ∷ [] })
more_orders m t starts p has = record {
  running = has.running;
  owned = has.owned;
  apart = has.apart;
  known = λ n is. let lt = has.known n is in let len = length-append t.orders (p ∷ []) in omega (arith, lt, len);
  once = has.once;
}

same_balance : (t : ChildTrace) → IsBalanced t 0 t
same_balance t = omega arith

-- A start.
module _ (m : Slots) (j : ℕ) (t : ChildTrace) (order : Order) (has : HasTickets m t) (rests : IsTicketless (finite.get m j)) where
  unstarted : (n : ℕ) → HasTickets (put_progress m j (progress_after false n)) t
  unstarted n = quiet_put m j (with_progress (slot_in m j) (progress_after false n)) (λ k is. absurd (cc)) rests t has

  started : (p : Placed) (rest : List (Result (Unit {0}) ChildFault)) →
      HasTickets (put_progress m j (Running (length t.orders))) (record t { starts = rest; orders = t.orders ++ p ∷ []; running = t.running ++ length t.orders ∷ [] })
  started p rest = record {
    running = λ k n r. elim (put_runs m j x k n r) [
      | inl own ↦ subst (λ i. is_in i (t.running ++ new ∷ []) ≡ true) (number n own.1) (in_last new t.running)
      | inr old ↦ in_more n new t.running (has.running k n old.1)
    ];
    owned = λ n is. elim (in_some n new t.running is) [
      | inl first ↦ let (k, r) = has.owned n first in (k, other_runs m j x k n (differs k j (λ same. no_child m j n rests (subst (λ i. IsRunningAs m i n) same r))) r)
      | inr last ↦ (j, record { slot = x; there = get_own m j x; runs = ap Running (sym last) })
    ];
    apart = λ i k n r q. elim (put_runs m j x i n r) [
      | inl own ↦ elim (put_runs m j x k n q) [
        | inl also ↦ own.0 ∙ sym also.0
        | inr old ↦ fresh k n old.1 (number n own.1)
      ]
      | inr old ↦ elim (put_runs m j x k n q) [
        | inl own ↦ fresh i n old.1 (number n own.1)
        | inr also ↦ has.apart i k n old.1 also.1
      ]
    ];
    known = λ n is. let len = length-append t.orders (p ∷ []) in elim (in_some n new t.running is) [
      | inl first ↦ let lt = has.known n first in omega (arith, lt, len)
      | inr last ↦ omega (arith, last, len)
    ];
    once = once_more new t.running has.once (none (is_in new t.running) refl);
  }
    where
      new : ℕ
      new = length t.orders

      x : Slot ℕ
      x = with_progress (slot_in m j) (Running new)

      of_running : Progress ℕ → ℕ
      of_running (Running k) = k
      of_running (Ready input) = 0
      of_running (Ended finish) = 0

      number : (n : ℕ) → Running new ≡ Running n → new ≡ n
      number n is = ap of_running is

      fresh : {P : Type 0} (k n : ℕ) → IsRunningAs m k n → new ≡ n → P
      fresh k n r is = let lt = has.known n (has.running k n r) in absurd (omega (arith, lt, is))

      none : (b : Bool) → is_in new t.running ≡ b → b ≡ false
      none true is = let lt = has.known new is in absurd (omega (arith, lt))
      none false is = refl

  pub start_keeps : (b : Bool) (n : ℕ) (told : Option ChildTrace) → IsStartOf t order b n told → AreKeptBy t (cond b 1 0) (put_progress m j (progress_after b n)) told
  start_keeps b n told start = by_answer t.starts refl
    where
      shown : (c : Bool) (k : ℕ) (now : ChildTrace) → b ≡ c → told ≡ Some now → IsBalanced t (cond c 1 0) now → HasTickets (put_progress m j (progress_after c k)) now → (c ≡ true → n ≡ k) → AreKeptBy t (cond b 1 0) (put_progress m j (progress_after b n)) told
      shown true k now is tells even tickets same = subst (λ d. AreKeptBy t (cond d 1 0) (put_progress m j (progress_after d n)) told) (sym is)
          (record { now = now; tells = tells; tickets = subst (λ i. HasTickets (put_progress m j (Running i)) now) (sym (same refl)) tickets; balanced = even })
      shown false k now is tells even tickets same = subst (λ d. AreKeptBy t (cond d 1 0) (put_progress m j (progress_after d n)) told) (sym is)
          (record { now = now; tells = tells; tickets = tickets; balanced = even })

      by_answer : (answers : List (Result (Unit {0}) ChildFault)) → t.starts ≡ answers → AreKeptBy t (cond b 1 0) (put_progress m j (progress_after b n)) told
      by_answer [] e =
          shown false n t (start.answer ∙ ap starts_first e) (start.told ∙ ap (λ s. Some (started_by t order s)) e) (same_balance t) (unstarted n) (λ is. absurd (cc))
      by_answer (Ok done ∷ rest) e =
          let p : Placed = record { order = order; before = t.finished } in
          let is : b ≡ true = start.answer ∙ ap starts_first e in
          let len = length-append t.running (length t.orders ∷ []) in
          shown true (length t.orders) (started_by t order (Ok done ∷ rest)) is (start.told ∙ ap (λ s. Some (started_by t order s)) e) (omega (arith, len)) (started p rest) (λ _. start.number is)
      by_answer (Err fault ∷ rest) e =
          let p : Placed = record { order = order; before = t.finished } in
          shown false n (started_by t order (Err fault ∷ rest)) (start.answer ∙ ap starts_first e) (start.told ∙ ap (λ s. Some (started_by t order s)) e) (omega arith)
          (more_orders (put_progress m j (Ended no_start)) t rest p (unstarted n)) (λ is. absurd (cc))

-- A finish of a child that a slot has.
pub finish_keeps : (m : Slots) (j n : ℕ) (t : ChildTrace) → HasTickets m t → IsRunningAs m j n → (new : Slots) (told : Option ChildTrace) → Waits (Some t) n m j new told → AreKeptBy t 0 new told
finish_keeps m j n t has runs new told waits = record {
  now = after_finish t n;
  tells = (waits.answer there).1;
  tickets = subst (λ s. HasTickets s (after_finish t n)) (sym waits.slots) (record {
    running = λ k i r. elim (put_runs m j x k i r) [
      | inl own ↦ absurd (cc)
      | inr old ↦ still_in i n t.running (λ same. never (k == j) (eq-eqb k j (has.apart k j n (subst (IsRunningAs m k) same old.1) runs)) old.0) (has.running k i old.1)
    ];
    owned = λ i is.
        let (k, r) = has.owned i (in_without i n t.running is) in
        (k, other_runs m j x k i (differs k j (λ same. elsewhere i k r same is)) r);
    apart = λ i k o r q. has.apart i k o (back i o r) (back k o q);
    known = λ i is. has.known i (in_without i n t.running is);
    once = once_without n t.running has.once;
  });
  balanced = let less = one_less n t.running there in omega (arith, less);
}
  where
    there : is_in n t.running ≡ true
    there = has.running j n runs

    x : Slot ℕ
    x = with_progress (slot_in m j) (Ended waits.finish)

    of_running : Progress ℕ → ℕ
    of_running (Running k) = k
    of_running (Ready input) = 0
    of_running (Ended finish) = 0

    back : (k i : ℕ) → IsRunningAs (finite.insert m j x) k i → IsRunningAs m k i
    back k i r = elim (put_runs m j x k i r) [
      | inl own ↦ absurd (cc)
      | inr old ↦ old.1
    ]

    -- No other slot has the finished child.
    elsewhere : (i k : ℕ) → IsRunningAs m k i → k ≡ j → is_in i (without n t.running) ≡ true → ⊥
    elsewhere i k r same is =
        let here : IsRunningAs m j i = subst (λ o. IsRunningAs m o i) same r in
        let one : here.slot ≡ runs.slot = some_of here.slot runs.slot (sym here.there ∙ runs.there) in
        let equal : i ≡ n = ap of_running (sym here.runs ∙ ap (λ (s : Slot ℕ). s.progress) one ∙ runs.runs) in
        never (is_in n (without n t.running)) (subst (λ o. is_in o (without n t.running) ≡ true) equal is) (gone_from n t.running has.once)

-- A check, which does not affect tickets.
pub look_keeps : (m : Slots) (t : ChildTrace) (ended : Bool) (told : Option ChildTrace) → HasTickets m t → HasLooked t ended told → AreKeptBy t 0 m told
look_keeps m t ended told has looked = record {
  now = after_look t;
  tells = looked.told;
  tickets = record { running = has.running; owned = has.owned; apart = has.apart; known = has.known; once = has.once };
  balanced = omega arith;
}

-- Slots without a child may be freed.
pub release_keeps : (m : Slots) (j : ℕ) (t : ChildTrace) → HasTickets m t → IsTicketless (finite.get m j) → HasTickets (finite.remove m j) t
release_keeps m j t has rests = record {
  running = λ k n r. has.running k n (back k n r);
  owned = λ n is. let (k, r) = has.owned n is in (k, record { slot = r.slot; there = left k (differs k j (λ same. no_child m j n rests (subst (λ i. IsRunningAs m i n) same r))) ∙ r.there; runs = r.runs });
  apart = λ i k n r q. has.apart i k n (back i n r) (back k n q);
  known = has.known;
  once = has.once;
}
  where
    left : (k : ℕ) → (k == j) ≡ false → finite.get (finite.remove m j) k ≡ finite.get m k
    left k other = finite.get-remove nat_cmp_total m j k ∙ ap (λ b. cond b None (finite.get m k)) (unsigned_tied k j ∙ other)

    gone : (k : ℕ) → (k == j) ≡ true → finite.get (finite.remove m j) k ≡ None
    gone k same = finite.get-remove nat_cmp_total m j k ∙ ap (λ b. cond b None (finite.get m k)) (unsigned_tied k j ∙ same)

    back : (k n : ℕ) → IsRunningAs (finite.remove m j) k n → IsRunningAs m k n
    back k n r = by_test (k == j) refl
      where
        by_test : (b : Bool) → (k == j) ≡ b → IsRunningAs m k n
        by_test true is = let none : Some r.slot ≡ None = sym r.there ∙ gone k is in absurd (cc)
        by_test false is = record { slot = r.slot; there = sym (left k is) ∙ r.there; runs = r.runs }
