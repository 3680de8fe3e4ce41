-- The number of running children, and how many more of them a tick leaves.
use Rattle.std.proofs.Common.{◌≡◌, ℕ, ◌+◌, ◌-◌, ◌≤◌, ◌<◌, Bool, ◌||◌, true, false, cond, ◌==◌, List, [], ◌∷◌, ◌++◌, length, Option, Some, None, IsSome, IsTrue, refl, sym, ap, subst, ◌∙◌, arith}
use Rattle.std.specs.FinMap as finite
use Rattle.std.specs.FinMap.Entries.{below_all, find, is_sorted}
use Rattle.std.specs.Cmp.{first_so, second_so}
use Rattle.std.specs.List.{filter}
use Rattle.std.specs.Ordering.{nat_cmp, eq_by_cmp}
use Rattle.std.proofs.lemmas.Bool.{eqb-true}
use Rattle.std.proofs.lemmas.List.{length-append}
use Rattle.spool_types.specs.State.{State, job_at}
use Rattle.child_pipeline.specs.ChildTraces.{ChildTrace, is_in, without}
use Rattle.child_pipeline.specs.StageSlots.{Slots, IsNextJob, IsTicketless}
use Rattle.child_pipeline.specs.declared.runner.Progress.{Progress}
use Rattle.child_pipeline.specs.declared.runner.Progress.TheVariants.{Ready, Running, Ended}
use Rattle.child_pipeline.specs.declared.runner.Slot.{Slot}
use Rattle.print_rounds.specs.Finished.{AreDistinct}
use Rattle.print_rounds.specs.RoundTicks.{count_running, running_jobs}
use Rattle.print_rounds.specs.StageChecks.{Dropping, IsDropped, AreDroppings, has_child, idle_slots, is_kept, runs}
use Rattle.print_rounds.proofs.BusyLaws.{part_distinct}
use Rattle.print_rounds.proofs.EndLaws.{get_gone, in_head, none_ticketless}
use Rattle.print_rounds.proofs.FreeLaws.{get_idle, resting_of}
use Rattle.print_rounds.proofs.LookLaws.{above, all_jobs, dropped_same, found_first, found_later, jobs_to, keys, next_filtered, no_filtered, same_key, true_from}
use Rattle.print_rounds.proofs.TickTickets.{fails_out}

-- ## Lists of numbers

without_fewer : (n : ℕ) (xs : List ℕ) → is_in n xs ≡ true → length (without n xs) + 1 ≡ length xs
without_fewer n [] there = absurd (cc)
without_fewer n (x ∷ xs) there = by_test (without_fewer n xs) (x == n) there
  where
    by_test : (is_in n xs ≡ true → length (without n xs) + 1 ≡ length xs) → (b : Bool) → (b || is_in n xs) ≡ true → length (cond b xs (x ∷ without n xs)) + 1 ≡ length (x ∷ xs)
    by_test rest true there = omega arith
    by_test rest false there = let fewer = rest there in omega (arith, fewer)

others_stay : (n j : ℕ) (xs : List ℕ) → (n == j) ≡ false → is_in j xs ≡ true → is_in j (without n xs) ≡ true
others_stay n j [] other there = absurd (cc)
others_stay n j (x ∷ xs) other there = by_test (others_stay n j xs other) (x == n) refl there
  where
    by_head : (c : Bool) → (is_in j xs ≡ true → is_in j (without n xs) ≡ true) → (c || is_in j xs) ≡ true → (c || is_in j (without n xs)) ≡ true
    by_head true rest there = refl
    by_head false rest there = rest there

    by_test : (is_in j xs ≡ true → is_in j (without n xs) ≡ true) → (b : Bool) → (x == n) ≡ b → is_in j (x ∷ xs) ≡ true → is_in j (cond b xs (x ∷ without n xs)) ≡ true
    by_test rest true is there = ap (λ c. c || is_in j xs) (sym (ap (λ y. y == j) (eqb-true x n is) ∙ other)) ∙ there
    by_test rest false is there = by_head (x == j) rest there

-- Distinct items that are all in another list are no more than that list has.
few_among : (xs ys : List ℕ) → AreDistinct xs → ((j : ℕ) → is_in j xs ≡ true → is_in j ys ≡ true) → length xs ≤ length ys
few_among [] ys distinct among = omega arith
few_among (x ∷ xs) ys (new, distinct) among =
    let there : is_in x ys ≡ true = among x (in_head x xs) in
    let one = without_fewer x ys there in
    let rest : length xs ≤ length (without x ys) = few_among xs (without x ys) distinct (λ j is. others_stay x j ys (differs j is (x == j) refl) (among j (later j (x == j) is))) in
    omega (arith, one, rest)
  where
    differs : (j : ℕ) → is_in j xs ≡ true → (b : Bool) → (x == j) ≡ b → b ≡ false
    differs j is true same = let both : true ≡ false = sym is ∙ ap (λ k. is_in k xs) (sym (eqb-true x j same)) ∙ new in absurd (cc)
    differs j is false other = refl

    later : (j : ℕ) (b : Bool) → is_in j xs ≡ true → (b || is_in j xs) ≡ true
    later j true is = refl
    later j false is = is

in_either : (j : ℕ) (xs ys : List ℕ) → is_in j ys ≡ true → is_in j (xs ++ ys) ≡ true
in_either j [] ys is = is
in_either j (x ∷ xs) ys is = by_head (x == j) (in_either j xs ys is)
  where
    by_head : (b : Bool) → is_in j (xs ++ ys) ≡ true → (b || is_in j (xs ++ ys)) ≡ true
    by_head true rest = refl
    by_head false rest = rest

in_first : (j : ℕ) (xs ys : List ℕ) → is_in j xs ≡ true → is_in j (xs ++ ys) ≡ true
in_first j [] ys is = absurd (cc)
in_first j (x ∷ xs) ys is = by_head (x == j) (in_first j xs ys) is
  where
    by_head : (b : Bool) → (is_in j xs ≡ true → is_in j (xs ++ ys) ≡ true) → (b || is_in j xs) ≡ true → (b || is_in j (xs ++ ys)) ≡ true
    by_head true rest is = refl
    by_head false rest is = rest is

in_part : (p : ℕ → Bool) (j : ℕ) (xs : List ℕ) → p j ≡ true → is_in j xs ≡ true → is_in j (filter p xs) ≡ true
in_part p j [] passes there = absurd (cc)
in_part p j (x ∷ xs) passes there = by_test (in_part p j xs passes) (p x) refl (x == j) refl there
  where
    by_test : (is_in j xs ≡ true → is_in j (filter p xs) ≡ true) → (b : Bool) → p x ≡ b → (c : Bool) → (x == j) ≡ c → (c || is_in j xs) ≡ true → is_in j (cond b (x ∷ filter p xs) (filter p xs)) ≡ true
    by_test rest true is true same there = ap (λ c. c || is_in j (filter p xs)) same
    by_test rest true is false other there = ap (λ c. c || is_in j (filter p xs)) other ∙ rest there
    by_test rest false is true same there = let both : false ≡ true = sym is ∙ ap p (eqb-true x j same) ∙ passes in absurd (cc)
    by_test rest false is false other there = rest there

passes_in : (p : ℕ → Bool) (j : ℕ) (xs : List ℕ) → is_in j (filter p xs) ≡ true → p j ≡ true
passes_in p j xs is = by_test (p j) refl
  where
    by_test : (b : Bool) → p j ≡ b → p j ≡ true
    by_test true passes = passes
    by_test false fails = let both : true ≡ false = sym is ∙ fails_out p j xs fails in absurd (cc)

-- ## The keys of a map

module _ {X : Type 0} where
  key_found : (j : ℕ) (es : List (ℕ × X)) → is_in j (keys es) ≡ true → IsSome (find nat_cmp j es)
  key_found j [] there = absurd (cc)
  key_found j (e ∷ es) there = by_test (key_found j es) (e.0 == j) refl there
    where
      by_test : (is_in j (keys es) ≡ true → IsSome (find nat_cmp j es)) → (b : Bool) → (e.0 == j) ≡ b → (b || is_in j (keys es)) ≡ true → IsSome (find nat_cmp j (e ∷ es))
      by_test rest true is there = subst (λ k. IsSome (find nat_cmp k (e ∷ es))) (eqb-true e.0 j is) (found_first e es)
      by_test rest false is there = found_later e es j (rest there)

  found_key : (j : ℕ) (es : List (ℕ × X)) → IsSome (find nat_cmp j es) → is_in j (keys es) ≡ true
  found_key j [] there = absurd (cc)
  found_key j (e ∷ es) there = by_test (found_key j es) (eq_by_cmp nat_cmp j e.0) refl there
    where
      by_head : (b : Bool) → is_in j (keys es) ≡ true → (b || is_in j (keys es)) ≡ true
      by_head true rest = refl
      by_head false rest = rest

      by_test : (IsSome (find nat_cmp j es) → is_in j (keys es) ≡ true) → (b : Bool) → eq_by_cmp nat_cmp j e.0 ≡ b → IsSome (cond b (Some e.1) (find nat_cmp j es)) → is_in j (keys (e ∷ es)) ≡ true
      by_test rest true is there = subst (λ k. is_in j (k ∷ keys es) ≡ true) (same_key j e.0 is) (in_head j (keys es))
      by_test rest false is there = by_head (e.0 == j) (rest there)

  keys_distinct : (es : List (ℕ × X)) → IsTrue (is_sorted nat_cmp es) → AreDistinct (keys es)
  keys_distinct [] sorted = tt
  keys_distinct (e ∷ es) sorted = (by_in (is_in e.0 (keys es)) refl, keys_distinct es (second_so (below_all nat_cmp e.0 es) (is_sorted nat_cmp es) sorted))
    where
      by_in : (b : Bool) → is_in e.0 (keys es) ≡ b → b ≡ false
      by_in true is =
          let lt : e.0 < e.0 = above e.0 es (first_so (below_all nat_cmp e.0 es) (is_sorted nat_cmp es) sorted) e.0 (key_found e.0 es is) in
          absurd (omega (arith, lt))
      by_in false is = refl

-- ## The number of running children

running_distinct : (slots : Slots) → AreDistinct (running_jobs slots)
running_distinct slots = part_distinct (runs slots) (finite.keys slots) (keys_distinct (finite.entries slots) (true_from (is_sorted nat_cmp (finite.entries slots)) (finite.entries_sorted slots)))

-- A job whose child runs is among them.
runs_in : (slots : Slots) (j : ℕ) → runs slots j ≡ true → is_in j (running_jobs slots) ≡ true
runs_in slots j going = in_part (runs slots) j (finite.keys slots) going (found_key j (finite.entries slots) (subst IsSome (finite.get-entries slots j) (by_slot (finite.get slots j) going)))
  where
    by_slot : (o : Option (Slot ℕ)) → has_child o ≡ true → IsSome o
    by_slot None going = absurd (cc)
    by_slot (Some slot) going = refl

rested : (o : Option (Slot ℕ)) → IsTicketless o → has_child o ≡ false
rested None rests = refl
rested (Some slot) rests = by_progress slot.progress refl
  where
    by_progress : (p : Progress ℕ) → slot.progress ≡ p → has_child (Some (record slot { progress = p })) ≡ false
    by_progress (Ready input) is = refl
    by_progress (Running n) is = absurd (rests n is)
    by_progress (Ended finish) is = refl

-- If only these jobs may have a child that had none, no more children run than before and these.
pub few_running : (old new : Slots) (js : List ℕ) → ((k : ℕ) → is_in k js ≡ false → IsTicketless (finite.get old k) → IsTicketless (finite.get new k)) → count_running new ≤ count_running old + length js
few_running old new js only =
    let few = few_among (running_jobs new) (running_jobs old ++ js) (running_distinct new) (λ j is. by_list j (passes_in (runs new) j (finite.keys new) is) (is_in j js) refl) in
    let count = length-append (running_jobs old) js in
    omega (arith, few, count)
  where
    by_old : (j : ℕ) → runs new j ≡ true → is_in j js ≡ false → (b : Bool) → runs old j ≡ b → is_in j (running_jobs old ++ js) ≡ true
    by_old j going out true ran = in_first j (running_jobs old) js (runs_in old j ran)
    by_old j going out false rested_then =
        let both : true ≡ false = sym going ∙ rested (finite.get new j) (only j out (resting_of (finite.get old j) rested_then)) in
        absurd (cc)

    by_list : (j : ℕ) → runs new j ≡ true → (b : Bool) → is_in j js ≡ b → is_in j (running_jobs old ++ js) ≡ true
    by_list j going true is = in_either j (running_jobs old) js is
    by_list j going false out = by_old j going out (runs old j) refl

-- The children of freed slots do not run, and none starts.
pub idle_rest : (s : State) (slots : Slots) (k : ℕ) → IsTicketless (finite.get slots k) → IsTicketless (finite.get (idle_slots s slots) k)
idle_rest s slots k rests = subst IsTicketless (sym (get_idle s slots k)) (by_kept (is_kept (job_at s k) (finite.get slots k)))
  where
    by_kept : (b : Bool) → IsTicketless (cond b (finite.get slots k) None)
    by_kept true = rests
    by_kept false = tt

-- No child is started for a job that has left its stage.
pub drops_rest : (waits : Bool) (slots : Slots) (told : Option ChildTrace) (ds : List Dropping) (new : Slots) (told' : Option ChildTrace) → AreDroppings waits slots told ds new told' → (k : ℕ) → IsTicketless (finite.get slots k) → IsTicketless (finite.get new k)
drops_rest waits slots told [] new told' (same, tells) k rests = subst (λ m. IsTicketless (finite.get m k)) (sym same) rests
drops_rest waits slots told (d ∷ ds) new told' ((look, dropped), drops) k rests = drops_rest waits d.slots d.told ds new told' drops k (by_ripe d.look.ripe dropped)
  where
    by_job : (kept : Slots) → (b : Bool) → (k == d.look.job) ≡ b → (b ≡ false → finite.get d.slots k ≡ finite.get slots k) → (d.slots ≡ finite.remove kept d.look.job) → IsTicketless (finite.get d.slots k)
    by_job kept true is same gone = none_ticketless _ (ap (finite.get d.slots) (eqb-true k d.look.job is) ∙ ap (λ m. finite.get m d.look.job) gone ∙ get_gone kept d.look.job)
    by_job kept false is same gone = subst IsTicketless (sym (same refl)) rests

    by_ripe : (b : Bool) → IsDropped b slots d.look.job d.look.told d.slots d.told → IsTicketless (finite.get d.slots k)
    by_ripe false (same, tells) = subst (λ m. IsTicketless (finite.get m k)) (sym same) rests
    by_ripe true (kept, finishes, gone) =
        by_job kept (k == d.look.job) refl (λ other. dropped_same d.look.told slots kept d.slots d.look.job d.told finishes gone k other) gone

-- ## A count by a walk over the slots

-- As many are free as before, less the child of the next job if it runs.
pub free_next : (slots : Slots) (most free : ℕ) (behind : Option ℕ) (k : ℕ) → IsNextJob slots behind (Some k) → free ≡ most - length (filter (runs slots) (jobs_to behind (finite.keys slots)))
    → free - cond (runs slots k) 1 0 ≡ most - length (filter (runs slots) (jobs_to (Some k) (finite.keys slots)))
free_next slots most free behind k next is =
    let more : length (filter (runs slots) (jobs_to (Some k) (finite.keys slots))) ≡ length (filter (runs slots) (jobs_to behind (finite.keys slots))) + length (cond (runs slots k) (k ∷ []) []) =
    ap length (next_filtered (runs slots) slots behind k next) ∙ length-append (filter (runs slots) (jobs_to behind (finite.keys slots))) (cond (runs slots k) (k ∷ []) []) in
    by_test (runs slots k) more
  where
    by_test : (b : Bool) → length (filter (runs slots) (jobs_to (Some k) (finite.keys slots))) ≡ length (filter (runs slots) (jobs_to behind (finite.keys slots))) + length (cond b (k ∷ []) []) → free - cond b 1 0 ≡ most - length (filter (runs slots) (jobs_to (Some k) (finite.keys slots)))
    by_test true more = omega (arith, more, is)
    by_test false more = omega (arith, more, is)

pub free_first : (slots : Slots) (most : ℕ) → most ≡ most - length (filter (runs slots) (jobs_to None (finite.keys slots)))
free_first slots most = let none : length (filter (runs slots) (jobs_to None (finite.keys slots))) ≡ 0 = ap length (no_filtered (runs slots) slots) in omega (arith, none)

pub free_all : (slots : Slots) (behind : Option ℕ) → IsNextJob slots behind None → length (filter (runs slots) (jobs_to behind (finite.keys slots))) ≡ count_running slots
free_all slots behind none = ap (λ js. length (filter (runs slots) js)) (all_jobs slots behind none)
