-- Parts of lists, and the items that have room.
use Rattle.std.proofs.Common.{◌≡◌, inl, inr, ℕ, zero, suc, ◌+◌, ◌-◌, ◌<◌, ◌≤◌, ◌%◌, Bool, true, false, cond, not, ◌&&◌, ◌||◌, ◌==◌, List, [], ◌∷◌, ◌++◌, length, take, drop, get_or, set, replicate, Option, Some, None, refl, sym, ap, subst, ◌∙◌, arith}
use Rattle.std.specs.Prelude.{nat_le, IfSome}
use Rattle.std.proofs.lemmas.Bool.Decides.{nat_tests}
use Rattle.std.specs.FinMap as finite
use Rattle.std.specs.List.{filter}
use Rattle.std.proofs.lemmas.Bool.{cases_eq}
use Rattle.std.proofs.lemmas.List.{get_or-set_other, get_or-set_same, length-append, length-take}
use Rattle.spool_types.specs.State.{State}
use Rattle.job_table.specs.Attempts.{busy_of}
use Rattle.child_pipeline.specs.StageSlots.{Slots, IsTicketless}
use Rattle.child_pipeline.specs.ChildTraces.{is_in}
use Rattle.print_rounds.specs.declared.start_room.StartRoom.{StartRoom}
use Rattle.print_rounds.specs.Finished.{AreDistinct, AllRest}
use Rattle.print_rounds.specs.Choice.{busy_jobs, with_busy}
use Rattle.print_rounds.specs.StageChecks.{free_queues, idle_among, is_stray, runs, tended_jobs}
use Rattle.print_rounds.specs.Passes.{unblocked}
use Rattle.print_rounds.specs.StartLimits.{AreChosen, can_start, has_next, HasStartRoomFor, IsPartOf, opened_in, waiting_jobs, window, rotated}
use Rattle.print_rounds.proofs.EndLaws.{not_first, not_second}

-- ## Parts

module _ {X : Type 0} where
  pub part_all : (xs : List X) → IsPartOf xs xs
  part_all [] = tt
  part_all (x ∷ xs) = inl (refl, part_all xs)

  part_take : (n : ℕ) (xs : List X) → IsPartOf (take n xs) xs
  part_take zero xs = tt
  part_take (suc n) [] = tt
  part_take (suc n) (x ∷ xs) = inl (refl, part_take n xs)

  -- One more item, which is left out.
  part_skip : (xs : List X) (y : X) (ys : List X) → IsPartOf xs ys → IsPartOf xs (y ∷ ys)
  part_skip [] y ys part = tt
  part_skip (x ∷ xs) y ys part = inr part

  -- The beginning of a list, and a part after it.
  part_both : (again first more : ℕ) (xs : List X) → again ≤ first → IsPartOf (take again xs ++ take more (drop first xs)) xs
  part_both zero zero more xs le = part_take more xs
  part_both zero (suc first) more [] le = part_take more []
  part_both zero (suc first) more (x ∷ xs) le = part_skip (take more (drop first xs)) x xs (part_both zero first more xs (omega arith))
  part_both (suc again) zero more xs le = absurd (omega arith)
  part_both (suc again) (suc first) more [] le = part_take more []
  part_both (suc again) (suc first) more (x ∷ xs) le = inl (refl, part_both again first more xs (omega arith))

pub part_rest : (slots : Slots) (xs ys : List ℕ) → IsPartOf xs ys → AllRest slots ys → AllRest slots xs
part_rest slots [] ys part rest = tt
part_rest slots (x ∷ xs) [] part rest = absurd part
part_rest slots (x ∷ xs) (y ∷ ys) (inl (same, part)) (first, rest) = (subst (λ k. IsTicketless (finite.get slots k)) (sym same) first, part_rest slots xs ys part rest)
part_rest slots (x ∷ xs) (y ∷ ys) (inr part) (first, rest) = part_rest slots (x ∷ xs) ys part rest

part_out : (j : ℕ) (xs ys : List ℕ) → IsPartOf xs ys → is_in j ys ≡ false → is_in j xs ≡ false
part_out j [] ys part out = refl
part_out j (x ∷ xs) [] part out = absurd part
part_out j (x ∷ xs) (y ∷ ys) (inl (same, part)) out =
    ap (λ k. (k == j) || is_in j xs) same ∙ ap (λ b. b || is_in j xs) (not_first (y == j) (is_in j ys) out) ∙ part_out j xs ys part (not_second (y == j) (is_in j ys) out)
part_out j (x ∷ xs) (y ∷ ys) (inr part) out = part_out j (x ∷ xs) ys part (not_second (y == j) (is_in j ys) out)

pub part_once : (xs ys : List ℕ) → IsPartOf xs ys → AreDistinct ys → AreDistinct xs
part_once [] ys part distinct = tt
part_once (x ∷ xs) [] part distinct = absurd part
part_once (x ∷ xs) (y ∷ ys) (inl (same, part)) (out, distinct) = (subst (λ k. is_in k xs ≡ false) (sym same) (part_out y xs ys part out), part_once xs ys part distinct)
part_once (x ∷ xs) (y ∷ ys) (inr part) (out, distinct) = part_once (x ∷ xs) ys part distinct

-- ## Items that have room

above : (m n : ℕ) → nat_le m n ≡ false → n < m
above m n off = grind (arith, nat_tests)

within : (m n : ℕ) → nat_le m n ≡ true → m ≤ n
within m n on = grind (arith, nat_tests)

fitting : (m n : ℕ) → m ≤ n → nat_le m n ≡ true
fitting m n le = grind (arith, nat_tests)

fewer_fit : (start_room : Option StartRoom) (m n : ℕ) → m ≤ n → HasStartRoomFor start_room n → HasStartRoomFor start_room m
fewer_fit None m n le fits = tt
fewer_fit (Some p) m n le fits = omega (arith, le, fits)

module _ {X : Type 0} where
  in_turn_fits : (p : StartRoom) (xs : List X) → IsPartOf (rotated (Some p) xs) xs × (length (rotated (Some p) xs) ≤ p.count)
  in_turn_fits p xs = by_fit (nat_le (length xs) p.count) refl
    where
      first : ℕ
      first = p.first % length xs

      by_fit : (b : Bool) → nat_le (length xs) p.count ≡ b → IsPartOf (cond b xs (window p.count first xs)) xs × (length (cond b xs (window p.count first xs)) ≤ p.count)
      by_fit true fits = (part_all xs, within (length xs) p.count fits)
      by_fit false beyond =
          let more : p.count < length xs = above (length xs) p.count beyond in
          let again : ℕ = p.count - (length xs - first) in (
            part_both again first (p.count - again) xs (omega arith),
            omega (arith, length-append (take again xs) (take (p.count - again) (drop first xs)), length-take again xs, length-take (p.count - again) (drop first xs)),
          )

  pub in_turn_part : (start_room : Option StartRoom) (xs : List X) → IsPartOf (rotated start_room xs) xs
  in_turn_part None xs = part_all xs
  in_turn_part (Some p) xs = (in_turn_fits p xs).0

  pub in_turn_few : (start_room : Option StartRoom) (xs : List X) → HasStartRoomFor start_room (length (rotated start_room xs))
  in_turn_few None xs = tt
  in_turn_few (Some p) xs = (in_turn_fits p xs).1

  pub in_turn_none : (start_room : Option StartRoom) (xs : List X) → xs ≡ [] → rotated start_room xs ≡ []
  in_turn_none None xs none = none
  in_turn_none (Some p) xs none = nothing (rotated (Some p) xs) (subst (IsPartOf (rotated (Some p) xs)) none (in_turn_fits p xs).0)
    where
      nothing : (ys : List X) → IsPartOf ys [] → ys ≡ []
      nothing [] part = refl
      nothing (y ∷ ys) part = absurd part

  all_fit : (start_room : Option StartRoom) (xs : List X) → HasStartRoomFor start_room (length xs) → rotated start_room xs ≡ xs
  all_fit None xs fits = refl
  all_fit (Some p) xs fits = ap (λ b. cond b xs (window p.count (p.first % length xs) xs)) (fitting (length xs) p.count fits)

  fewer_pass : (p : X → Bool) (xs : List X) → length (filter p xs) ≤ length xs
  fewer_pass p [] = omega arith
  fewer_pass p (x ∷ xs) = by_test (p x) (fewer_pass p xs)
    where
      by_test : (b : Bool) → length (filter p xs) ≤ length xs → length (cond b (x ∷ filter p xs) (filter p xs)) ≤ length (x ∷ xs)
      by_test true few = omega (arith, few)
      by_test false few = omega (arith, few)

few_busy : (s : State) (names : List (List ℕ)) → length (busy_jobs s names) ≤ length names
few_busy s [] = omega arith
few_busy s (name ∷ names) = by_job (busy_of s name) (few_busy s names)
  where
    by_job : (o : Option ℕ) → length (busy_jobs s names) ≤ length names → length (with_busy o (busy_jobs s names)) ≤ length (name ∷ names)
    by_job None few = omega (arith, few)
    by_job (Some j) few = omega (arith, few)

-- If there is room for each queue, the stages of all jobs without a running child are started.
pub all_launched : (start_room : Option StartRoom) (s : State) (slots : Slots) (names : List (List ℕ)) → HasStartRoomFor start_room (length names)
    → rotated start_room (idle_among slots (tended_jobs s slots names)) ≡ idle_among slots (tended_jobs s slots names)
all_launched start_room s slots names fits =
    let js = tended_jobs s slots names in
    let idle = fewer_pass (λ j. not (runs slots j)) js in
    let tended = fewer_pass (λ j. not (is_stray s slots j)) (busy_jobs s names) in
    let busy = few_busy s names in
    all_fit start_room (idle_among slots js) (fewer_fit start_room (length (idle_among slots js)) (length names) (omega (arith, idle, tended, busy)) fits)

-- ## Queues that are opened

pub none_opened : (n : ℕ) → opened_in (replicate n true) ≡ 0
none_opened zero = refl
none_opened (suc n) = let rest = none_opened n in omega arith

pub all_closed : (n i : ℕ) → get_or (replicate n true) i true ≡ true
all_closed zero i = refl
all_closed (suc n) zero = refl
all_closed (suc n) (suc i) = all_closed n i

pub one_opened : (flags : List Bool) (i : ℕ) → i < length flags → get_or flags i true ≡ true → opened_in (set flags i false) ≡ opened_in flags + 1
one_opened [] i lt on = absurd (omega arith)
one_opened (f ∷ fs) zero lt on = by_flag f on
  where
    by_flag : (f : Bool) → f ≡ true → 1 + opened_in fs ≡ (cond f 0 1 + opened_in fs) + 1
    by_flag true on = omega arith
    by_flag false on = absurd (cc)
one_opened (f ∷ fs) (suc i) lt on = let rest = one_opened fs i (omega arith) on in omega arith

opened_count : (flags : List Bool) (names : List (List ℕ)) → length flags ≡ length names → length (unblocked flags names) ≡ opened_in flags
opened_count [] names long = refl
opened_count (f ∷ fs) [] long = absurd (omega arith)
opened_count (f ∷ fs) (n ∷ ns) long = by_flag f (opened_count fs ns (omega arith))
  where
    by_flag : (f : Bool) → length (unblocked fs ns) ≡ opened_in fs → length (cond f (unblocked fs ns) (n ∷ unblocked fs ns)) ≡ cond f 0 1 + opened_in fs
    by_flag true rest = omega arith
    by_flag false rest = omega arith

-- If only queues that are not blocked are open, the open queues are a part of those.
closed_part : (closed blocked : List Bool) (names : List (List ℕ)) → length closed ≡ length names → length blocked ≡ length names → ((i : ℕ) → get_or blocked i true ≡ true → get_or closed i true ≡ true) → IsPartOf (unblocked closed names) (unblocked blocked names)
closed_part closed blocked [] long too keeps = none closed
  where
    none : (fs : List Bool) → IsPartOf (unblocked fs []) (unblocked blocked [])
    none [] = tt
    none (f ∷ fs) = tt
closed_part [] blocked (n ∷ ns) long too keeps = tt
closed_part (c ∷ cs) [] (n ∷ ns) long too keeps = absurd (omega arith)
closed_part (c ∷ cs) (b ∷ bs) (n ∷ ns) long too keeps = by_flags c b (keeps 0) (closed_part cs bs ns (omega arith) (omega arith) (λ i. keeps (suc i)))
  where
    by_flags : (c b : Bool) → (b ≡ true → c ≡ true) → IsPartOf (unblocked cs ns) (unblocked bs ns) → IsPartOf (cond c (unblocked cs ns) (n ∷ unblocked cs ns)) (cond b (unblocked bs ns) (n ∷ unblocked bs ns))
    by_flags true true keeps rest = rest
    by_flags true false keeps rest = part_skip (unblocked cs ns) n (unblocked bs ns) rest
    by_flags false true keeps rest = let closed : false ≡ true = keeps refl in absurd (cc)
    by_flags false false keeps rest = inl (refl, rest)

-- If exactly the queues are open that are not blocked and pass a test, the open queues are those that pass it.
opened_filter : (test : List ℕ → Bool) (closed blocked : List Bool) (names : List (List ℕ)) → length closed ≡ length names → length blocked ≡ length names
    → ((i : ℕ) → i < length names → get_or closed i true ≡ false → (not (get_or blocked i true) && test (get_or names i [])) ≡ true)
    → ((i : ℕ) → i < length names → (not (get_or blocked i true) && test (get_or names i [])) ≡ true → get_or closed i true ≡ false)
    → unblocked closed names ≡ filter test (unblocked blocked names)
opened_filter test [] [] [] long too starts all = refl
opened_filter test [] (b ∷ bs) [] long too starts all = absurd (omega arith)
opened_filter test (c ∷ cs) blocked [] long too starts all = absurd (omega arith)
opened_filter test [] blocked (n ∷ ns) long too starts all = absurd (omega arith)
opened_filter test (c ∷ cs) [] (n ∷ ns) long too starts all = absurd (omega arith)
opened_filter test (c ∷ cs) (b ∷ bs) (n ∷ ns) long too starts all =
    by_flags c b (test n) refl (starts 0 (omega arith)) (all 0 (omega arith))
    (opened_filter test cs bs ns (omega arith) (omega arith) (λ i lt. starts (suc i) (omega arith)) (λ i lt. all (suc i) (omega arith)))
  where
    by_flags : (c b t : Bool) → test n ≡ t → (c ≡ false → (not b && test n) ≡ true) → ((not b && test n) ≡ true → c ≡ false) → unblocked cs ns ≡ filter test (unblocked bs ns) →
        cond c (unblocked cs ns) (n ∷ unblocked cs ns) ≡ filter test (cond b (unblocked bs ns) (n ∷ unblocked bs ns))
    by_flags false true t is starts all rest = let passes : false ≡ true = starts refl in absurd (cc)
    by_flags false false false is starts all rest = let passes : false ≡ true = sym is ∙ starts refl in absurd (cc)
    by_flags false false true is starts all rest = ap (λ ns. n ∷ ns) rest ∙ sym (ap (λ b. cond b (n ∷ filter test (unblocked bs ns)) (filter test (unblocked bs ns))) is)
    by_flags true true t is starts all rest = rest
    by_flags true false false is starts all rest = rest ∙ sym (ap (λ b. cond b (n ∷ filter test (unblocked bs ns)) (filter test (unblocked bs ns))) is)
    by_flags true false true is starts all rest = let open_then : true ≡ false = all is in absurd (cc)

-- ## One queue that is opened

module _ (closed : List Bool) (at : ℕ) (lt : at < length closed) where
  pub opened_here : (i : ℕ) → i ≡ at → get_or (set closed at false) i true ≡ false
  opened_here i same = subst (λ k. get_or (set closed at false) k true ≡ false) (sym same) (get_or-set_same closed at false true lt)

  pub stays_open : (i : ℕ) → get_or closed i true ≡ false → get_or (set closed at false) i true ≡ false
  stays_open i off = elim (cases_eq i at) [
    | inl same ↦ opened_here i same
    | inr apart ↦ get_or-set_other closed at i false true apart ∙ off
  ]

-- ## Queues that are chosen

pub all_chosen : (start_room : Option StartRoom) (s : State) (slots : Slots) (names : List (List ℕ)) → names ≡ free_queues s slots → HasStartRoomFor start_room (length (finite.keys s.queues)) → AreChosen start_room s slots names
all_chosen start_room s slots names are fits = record {
  all = λ _. are;
  part = subst (λ ns. IsPartOf ns (free_queues s slots)) (sym are) (part_all (free_queues s slots));
  few = by_places start_room fits;
  full = full_by start_room fits;
}
  where
    by_places : (start_room : Option StartRoom) → HasStartRoomFor start_room (length (finite.keys s.queues)) → IfSome start_room (λ p. p.count < length (finite.keys s.queues) → length names ≤ p.count - length (waiting_jobs s slots))
    by_places None fits = tt
    by_places (Some p) fits = λ more. absurd (omega arith)

    full_by : (start_room : Option StartRoom) → HasStartRoomFor start_room (length (finite.keys s.queues)) →
        IfSome start_room (λ p. p.count < length (finite.keys s.queues) → length names < p.count - length (waiting_jobs s slots) → names ≡ filter (has_next s) (free_queues s slots))
    full_by None fits = tt
    full_by (Some p) fits = λ more fewer. absurd (omega arith)

-- A few, if there is room for fewer starts than queues.
module _ (p : StartRoom) (s : State) (slots : Slots) (blocked closed : List Bool) (left : ℕ)
    (more : p.count < length (finite.keys s.queues)) (free : unblocked blocked (finite.keys s.queues) ≡ free_queues s slots) (long : length blocked ≡ length (finite.keys s.queues)) (too : length closed ≡ length (finite.keys s.queues))
    (starts : (i : ℕ) → get_or closed i true ≡ false → can_start s blocked i ≡ true) (all : 0 < left → (i : ℕ) → i < length (finite.keys s.queues) → can_start s blocked i ≡ true → get_or closed i true ≡ false)
    (taken : opened_in closed + left ≡ p.count - length (waiting_jobs s slots)) where
  abbrev names : List (List ℕ)
  names = finite.keys s.queues

  stays_closed : (i : ℕ) → get_or blocked i true ≡ true → get_or closed i true ≡ true
  stays_closed i on = by_flag (get_or closed i true) refl
    where
      by_flag : (b : Bool) → get_or closed i true ≡ b → b ≡ true
      by_flag true is = refl
      by_flag false is = let both : false ≡ true = sym (ap (λ b. not b && has_next s (get_or names i [])) on) ∙ starts i is in absurd (cc)

  pub few_chosen : AreChosen (Some p) s slots (unblocked closed (finite.keys s.queues))
  few_chosen = record {
    all = λ fits. absurd (omega (arith, more, fits));
    part = subst (IsPartOf (unblocked closed names)) free (closed_part closed blocked names too long stays_closed);
    few = λ less. omega (arith, opened_count closed names too, taken);
    full = λ less fewer.
        opened_filter (has_next s) closed blocked names too long (λ i lt off. starts i off) (λ i lt able. all (omega (arith, opened_count closed names too, taken, fewer)) i lt able)
        ∙ ap (filter (has_next s)) free;
  }
