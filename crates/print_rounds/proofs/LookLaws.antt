-- The jobs that have slots, up to the last visited one, and consecutive checks and droppings.
use Rattle.std.proofs.Common.{◌≡◌, ℕ, ◌<◌, ◌≤◌, Bool, true, false, cond, not, ◌&&◌, nat_lt, List, [], ◌∷◌, ◌++◌, map, Option, Some, None, IsSome, IsTrue, refl, sym, ap, subst, ◌∙◌, arith, append-nil}
use Rattle.std.specs.Prelude.{T}
use Rattle.std.specs.Cmp.{first_so, second_so, nat_cmp_total, tied_itself}
use Rattle.std.specs.FinMap as finite
use Rattle.std.specs.FinMap.Entries.{below_all, find, is_sorted}
use Rattle.std.specs.List.{filter}
use Rattle.std.specs.Ordering.{nat_cmp, eq_by_cmp, is_eq, is_lt}
use Rattle.std.specs.declared.cmp.Ordering.{Ordering}
use Rattle.std.specs.declared.cmp.Ordering.TheVariants.{Less, Equal, Greater}
use Rattle.std.proofs.lemmas.Bool.{ltb-true, ltb-false, le-ltb, not-true, not-false}
use Rattle.std.proofs.lemmas.Cmp.{ranked}
use Rattle.std.proofs.lemmas.List.{map-append}
use Rattle.std.proofs.lemmas.List.Elements.{filter-append}
use Rattle.spool_types.specs.State.{State, job_at}
use Rattle.child_pipeline.specs.StageSlots.{Slots, IsBehind, IsNextJob, FinishesFrom, FinishesStage, IsEnded, IsTicketless, is_ended, slot_in, with_progress}
use Rattle.child_pipeline.specs.ChildTraces.{ChildTrace}
use Rattle.child_pipeline.specs.declared.runner.Progress.{Progress}
use Rattle.child_pipeline.specs.declared.runner.Progress.TheVariants.{Ready, Running, Ended}
use Rattle.child_pipeline.specs.declared.runner.Slot.{Slot}
use Rattle.print_rounds.specs.StageChecks.{Look, IsLook, AreLooks, Dropping, IsDropping, AreDroppings, has_child, is_stray, ripe_in, strays}
use Rattle.print_rounds.specs.RoundScript.{is_current}
use Rattle.print_rounds.proofs.EndLaws.{SameBut, get_other, get_left}
use Rattle.print_rounds.proofs.FreeLaws.{IsWalkedTo, behind_on, walk_begins, walk_goes_on}

-- ## The keys of a map, in their order

pub true_from : (b : Bool) → T b → IsTrue b
true_from true h = refl
true_from false h = absurd h

-- Whether a job is up to the last visited one.
abbrev pub is_passed : Option ℕ → ℕ → Bool
is_passed None j = false
is_passed (Some k) j = not (nat_lt k j)

-- Those of these jobs up to the last visited one.
abbrev pub jobs_to : Option ℕ → List ℕ → List ℕ
jobs_to behind js = filter (is_passed behind) js

ahead_of : (behind : Option ℕ) (j : ℕ) → is_passed behind j ≡ false → IsBehind behind j
ahead_of None j off = tt
ahead_of (Some k) j off = ltb-true k j (not-false (nat_lt k j) off)

passed_of : (behind : Option ℕ) (j : ℕ) → is_passed behind j ≡ true → ¬ (IsBehind behind j)
passed_of None j is = absurd (cc)
passed_of (Some k) j is = λ lt. let le : j ≤ k = ltb-false k j (not-true (nat_lt k j) is) in omega (arith, le, lt)

passed_to : (k j : ℕ) → j ≤ k → is_passed (Some k) j ≡ true
passed_to k j le = ap not (le-ltb k j le)

passed_before : (behind : Option ℕ) (k j : ℕ) → IsBehind behind k → ¬ (IsBehind behind j) → j < k
passed_before None k j near far = absurd (far tt)
passed_before (Some b) k j near far = by_test (nat_lt b j) refl
  where
    by_test : (c : Bool) → nat_lt b j ≡ c → j < k
    by_test true e = absurd (far (ltb-true b j e))
    by_test false e = let le : j ≤ b = ltb-false b j e in omega (arith, near, le)

pub same_key : (j k : ℕ) → eq_by_cmp nat_cmp j k ≡ true → j ≡ k
same_key j k is = by_order (nat_cmp j k) refl is
  where
    by_order : (r : Ordering) → r ≡ nat_cmp j k → is_eq r ≡ true → j ≡ k
    by_order Less e is = absurd (cc)
    by_order Equal e is = ranked j k Equal e
    by_order Greater e is = absurd (cc)

less_key : (j k : ℕ) → IsTrue (is_lt (nat_cmp j k)) → j < k
less_key j k is = by_order (nat_cmp j k) refl is
  where
    by_order : (r : Ordering) → r ≡ nat_cmp j k → IsTrue (is_lt r) → j < k
    by_order Less e is = ranked j k Less e
    by_order Equal e is = absurd (cc)
    by_order Greater e is = absurd (cc)

module _ {X : Type 0} where
  abbrev pub keys : List (ℕ × X) → List ℕ
  keys es = map (λ e. e.0) es

  pub found_later : (e : ℕ × X) (es : List (ℕ × X)) (j : ℕ) → IsSome (find nat_cmp j es) → IsSome (find nat_cmp j (e ∷ es))
  found_later e es j there = by_test (eq_by_cmp nat_cmp j e.0)
    where
      by_test : (b : Bool) → IsSome (cond b (Some e.1) (find nat_cmp j es))
      by_test true = refl
      by_test false = there

  pub found_first : (e : ℕ × X) (es : List (ℕ × X)) → IsSome (find nat_cmp e.0 (e ∷ es))
  found_first e es = subst (λ r. IsSome (cond (is_eq r) (Some e.1) (find nat_cmp e.0 es))) (sym (tied_itself nat_cmp_total e.0)) refl

  pub above : (k : ℕ) (es : List (ℕ × X)) → IsTrue (below_all nat_cmp k es) → (j : ℕ) → IsSome (find nat_cmp j es) → k < j
  above k [] below j there = absurd (cc)
  above k (e ∷ es) below j there = by_test (above k es (second_so (is_lt (nat_cmp k e.0)) (below_all nat_cmp k es) below) j) (eq_by_cmp nat_cmp j e.0) refl there
    where
      by_test : (IsSome (find nat_cmp j es) → k < j) → (b : Bool) → eq_by_cmp nat_cmp j e.0 ≡ b → IsSome (cond b (Some e.1) (find nat_cmp j es)) → k < j
      by_test rest true is there =
          let same : j ≡ e.0 = same_key j e.0 is in
          let lt : k < e.0 = less_key k e.0 (first_so (is_lt (nat_cmp k e.0)) (below_all nat_cmp k es) below) in
          omega (arith, same, lt)
      by_test rest false is there = rest there

  -- If all jobs are ahead, none is passed.
  none_to : (behind : Option ℕ) (es : List (ℕ × X)) → ((j : ℕ) → IsSome (find nat_cmp j es) → IsBehind behind j) → jobs_to behind (keys es) ≡ []
  none_to behind [] ahead = refl
  none_to behind (e ∷ es) ahead = by_test (none_to behind es (λ j there. ahead j (found_later e es j there))) (is_passed behind e.0) refl
    where
      by_test : jobs_to behind (keys es) ≡ [] → (b : Bool) → is_passed behind e.0 ≡ b → cond b (e.0 ∷ jobs_to behind (keys es)) (jobs_to behind (keys es)) ≡ []
      by_test rest true is = absurd (passed_of behind e.0 is (ahead e.0 (found_first e es)))
      by_test rest false is = rest

  none_later : (e : ℕ × X) (es : List (ℕ × X)) (j : ℕ) → find nat_cmp j (e ∷ es) ≡ None → find nat_cmp j es ≡ None
  none_later e es j none = by_found (find nat_cmp j es) refl
    where
      by_found : (o : Option X) → find nat_cmp j es ≡ o → o ≡ None
      by_found None is = refl
      by_found (Some x) is =
          let found : IsSome (find nat_cmp j (e ∷ es)) = found_later e es j (subst IsSome (sym is) refl) in
          absurd (cc (subst IsSome none found))

  -- If no job is ahead, all are passed.
  all_to : (behind : Option ℕ) (es : List (ℕ × X)) → ((j : ℕ) → IsBehind behind j → find nat_cmp j es ≡ None) → jobs_to behind (keys es) ≡ keys es
  all_to behind [] none = refl
  all_to behind (e ∷ es) none = by_test (all_to behind es (λ j is. none_later e es j (none j is))) (is_passed behind e.0) refl
    where
      by_test : jobs_to behind (keys es) ≡ keys es → (b : Bool) → is_passed behind e.0 ≡ b → cond b (e.0 ∷ jobs_to behind (keys es)) (jobs_to behind (keys es)) ≡ e.0 ∷ keys es
      by_test rest true is = ap (λ js. e.0 ∷ js) rest
      by_test rest false is = absurd (cc (subst IsSome (none e.0 (ahead_of behind e.0 is)) (found_first e es)))

  found_in : (e : ℕ × X) (es : List (ℕ × X)) (j : ℕ) → ¬ (j ≡ e.0) → IsSome (find nat_cmp j (e ∷ es)) → IsSome (find nat_cmp j es)
  found_in e es j other there = by_test (eq_by_cmp nat_cmp j e.0) refl there
    where
      by_test : (b : Bool) → eq_by_cmp nat_cmp j e.0 ≡ b → IsSome (cond b (Some e.1) (find nat_cmp j es)) → IsSome (find nat_cmp j es)
      by_test true is there = absurd (other (same_key j e.0 is))
      by_test false is there = there

  is_first : (e : ℕ × X) (es : List (ℕ × X)) (k : ℕ) → IsTrue (below_all nat_cmp e.0 es) → IsSome (find nat_cmp k (e ∷ es)) → k ≤ e.0 → k ≡ e.0
  is_first e es k below there le = by_test (eq_by_cmp nat_cmp k e.0) refl there
    where
      by_test : (b : Bool) → eq_by_cmp nat_cmp k e.0 ≡ b → IsSome (cond b (Some e.1) (find nat_cmp k es)) → k ≡ e.0
      by_test true is there = same_key k e.0 is
      by_test false is there = let lt : e.0 < k = above e.0 es below k there in absurd (omega (arith, le, lt))

  -- The next key comes last.
  next_to : (behind : Option ℕ) (k : ℕ) (es : List (ℕ × X)) → IsTrue (is_sorted nat_cmp es) → IsBehind behind k → IsSome (find nat_cmp k es) → ((j : ℕ) → IsBehind behind j → IsSome (find nat_cmp j es) → k ≤ j) →
      jobs_to (Some k) (keys es) ≡ jobs_to behind (keys es) ++ k ∷ []
  next_to behind k [] sorted near there least = absurd (cc)
  next_to behind k (e ∷ es) sorted near there least =
      by_test (λ found. next_to behind k es (second_so (below_all nat_cmp e.0 es) (is_sorted nat_cmp es) sorted) near found (λ j on also. least j on (found_later e es j also))) (is_passed behind e.0) refl
    where
      below : IsTrue (below_all nat_cmp e.0 es)
      below = first_so (below_all nat_cmp e.0 es) (is_sorted nat_cmp es) sorted

      by_test : (IsSome (find nat_cmp k es) → jobs_to (Some k) (keys es) ≡ jobs_to behind (keys es) ++ k ∷ []) → (b : Bool) → is_passed behind e.0 ≡ b →
          jobs_to (Some k) (e.0 ∷ keys es) ≡ cond b (e.0 ∷ jobs_to behind (keys es)) (jobs_to behind (keys es)) ++ k ∷ []
      by_test rest true is =
          let lt : e.0 < k = passed_before behind k e.0 near (passed_of behind e.0 is) in
          ap (λ b. cond b (e.0 ∷ jobs_to (Some k) (keys es)) (jobs_to (Some k) (keys es))) (passed_to k e.0 (omega (arith, lt)))
          ∙ ap (λ js. e.0 ∷ js) (rest (found_in e es k (λ same. omega (arith, lt, same)) there))
      by_test rest false is =
          let same : k ≡ e.0 = is_first e es k below there (least e.0 (ahead_of behind e.0 is) (found_first e es)) in
          let later : (j : ℕ) → IsSome (find nat_cmp j es) → k < j = λ j found. (let lt : e.0 < j = above e.0 es below j found in omega (arith, lt, same)) in
          ap (λ b. cond b (e.0 ∷ jobs_to (Some k) (keys es)) (jobs_to (Some k) (keys es))) (passed_to k e.0 (omega (arith, same)))
          ∙ ap (λ js. e.0 ∷ js) (none_to (Some k) es later)
          ∙ ap (λ i. i ∷ []) (sym same)
          ∙ ap (λ js. js ++ k ∷ []) (sym (none_to behind es (λ j found. behind_on behind k j near (later j found))))

-- ## The jobs that have slots

pub no_jobs : (slots : Slots) → jobs_to None (finite.keys slots) ≡ []
no_jobs slots = none_to None (finite.entries slots) (λ j there. tt)

pub all_jobs : (slots : Slots) (behind : Option ℕ) → IsNextJob slots behind None → jobs_to behind (finite.keys slots) ≡ finite.keys slots
all_jobs slots behind none = all_to behind (finite.entries slots) (λ j is. sym (finite.get-entries slots j) ∙ none j is)

pub next_jobs : (slots : Slots) (behind : Option ℕ) (k : ℕ) → IsNextJob slots behind (Some k) → jobs_to (Some k) (finite.keys slots) ≡ jobs_to behind (finite.keys slots) ++ k ∷ []
next_jobs slots behind k (near, there, least) = next_to behind k (finite.entries slots) (true_from (is_sorted nat_cmp (finite.entries slots)) (finite.entries_sorted slots)) near
    (subst IsSome (finite.get-entries slots k) there) (λ j is found. least j is (subst IsSome (sym (finite.get-entries slots j)) found))

-- The same for the jobs that pass a test.
module _ (p : ℕ → Bool) (slots : Slots) where
  pub no_filtered : filter p (jobs_to None (finite.keys slots)) ≡ []
  no_filtered = ap (filter p) (no_jobs slots)

  pub next_filtered : (behind : Option ℕ) (k : ℕ) → IsNextJob slots behind (Some k) → filter p (jobs_to (Some k) (finite.keys slots)) ≡ filter p (jobs_to behind (finite.keys slots)) ++ cond (p k) (k ∷ []) []
  next_filtered behind k next = ap (filter p) (next_jobs slots behind k next) ∙ filter-append p (jobs_to behind (finite.keys slots)) (k ∷ [])

-- The slots after a job are the same, and so is the next job.
pub next_same : (old now : Slots) (behind : Option ℕ) (o : Option ℕ) → ((j : ℕ) → IsBehind behind j → finite.get now j ≡ finite.get old j) → IsNextJob now behind o → IsNextJob old behind o
next_same old now behind None same none = λ j is. sym (same j is) ∙ none j is
next_same old now behind (Some k) same (near, there, least) = (near, subst IsSome (same k near) there, λ j is found. least j is (subst IsSome (sym (same j is)) found))

-- ## Checks

pub more_looks : (waits : Bool) (slots : Slots) (told mid : Option ChildTrace) (ls : List Look) (l : Look) → AreLooks waits slots told ls mid → IsLook waits slots mid l → AreLooks waits slots told (ls ++ l ∷ []) l.told
more_looks waits slots told mid [] l same is = (subst (λ o. IsLook waits slots o l) same is, refl)
more_looks waits slots told mid (x ∷ ls) l (first, looks) is = (first, more_looks waits slots x.told mid ls l looks is)

pub more_ripe : (ls : List Look) (l : Look) → ripe_in (ls ++ l ∷ []) ≡ ripe_in ls ++ cond l.ripe (l.job ∷ []) []
more_ripe [] l = refl
more_ripe (x ∷ ls) l = by_test x.ripe (more_ripe ls l)
  where
    by_test : (b : Bool) → ripe_in (ls ++ l ∷ []) ≡ ripe_in ls ++ cond l.ripe (l.job ∷ []) [] →
        cond b (x.job ∷ ripe_in (ls ++ l ∷ [])) (ripe_in (ls ++ l ∷ [])) ≡ cond b (x.job ∷ ripe_in ls) (ripe_in ls) ++ cond l.ripe (l.job ∷ []) []
    by_test true rest = ap (λ js. x.job ∷ js) rest
    by_test false rest = rest

-- ## Droppings

-- A stage that has ended has no running child.
pub ended_rests : (o : Option (Slot ℕ)) → IsEnded o → IsTicketless o
ended_rests None ended = tt
ended_rests (Some slot) ended = by_progress slot.progress ended
  where
    by_progress : (p : Progress ℕ) → is_ended p ≡ true → (n : ℕ) → ¬ (p ≡ Running n)
    by_progress (Ready input) ended n is = absurd (cc)
    by_progress (Running k) ended n is = absurd (cc)
    by_progress (Ended finish) ended n is = absurd (cc)

-- The end of a stage does not change the slots of other jobs.
pub finish_same : (told : Option ChildTrace) (slots : Slots) (j : ℕ) (new : Slots) (told' : Option ChildTrace) → FinishesStage told slots j new told' → SameBut j slots new
finish_same told slots j new told' finishes = by_progress (slot_in slots j).progress finishes
  where
    by_progress : (p : Progress ℕ) → FinishesFrom p told slots j new told' → SameBut j slots new
    by_progress (Ready input) fin = absurd fin
    by_progress (Running n) fin = λ k other. ap (λ m. finite.get m k) fin.slots ∙ get_other slots j k (with_progress (slot_in slots j) (Ended fin.finish)) other
    by_progress (Ended finish) fin = λ k other. ap (λ m. finite.get m k) fin.0

pub more_droppings : (waits : Bool) (slots mid : Slots) (told told' : Option ChildTrace) (ds : List Dropping) (d : Dropping) → AreDroppings waits slots told ds mid told' → IsDropping waits mid told' d → AreDroppings waits slots told (ds ++ d ∷ []) d.slots d.told
more_droppings waits slots mid told told' [] d (same, tells) is = (subst (λ m. IsDropping waits m told d) same (subst (λ o. IsDropping waits mid o d) tells is), (refl, refl))
more_droppings waits slots mid told told' (x ∷ ds) d (first, drops) is = (first, more_droppings waits x.slots mid x.told told' ds d drops is)

-- The strays up to a job are checked, and those that have ended are dropped.
pub record AreDroppedTo (waits : Bool) (s : State) (old : Slots) (told : Option ChildTrace) (behind : Option ℕ) (new : Slots) (told' : Option ChildTrace) : Type 0 where
  pub walked : IsWalkedTo (λ j o. Unit {0}) old behind new
  pub steps : (ds : List Dropping) × AreDroppings waits old told ds new told' × (map (λ d. d.look.job) ds ≡ filter (is_stray s old) (jobs_to behind (finite.keys old)))

pub none_dropped : (waits : Bool) (s : State) (old : Slots) (told : Option ChildTrace) → AreDroppedTo waits s old told None old told
none_dropped waits s old told = record {
  walked = walk_begins (λ j o. Unit {0}) old (λ j gone. tt);
  steps = ([], (refl, refl), sym (no_filtered (is_stray s old) old));
}

module _ (waits : Bool) (s : State) (old : Slots) (told : Option ChildTrace) (behind : Option ℕ) (now : Slots) (told' : Option ChildTrace) (so_far : AreDroppedTo waits s old told behind now told') where
  module _ (k : ℕ) (next : IsNextJob now behind (Some k)) where
    -- The job's slot is as it was at the start.
    at_first : is_stray s now k ≡ is_stray s old k
    at_first = ap (λ o. has_child o && not (is_current (job_at s k) o)) (so_far.walked.ahead k next.0)

    further : (b : Bool) → is_stray s now k ≡ b → filter (is_stray s old) (jobs_to (Some k) (finite.keys old)) ≡ filter (is_stray s old) (jobs_to behind (finite.keys old)) ++ cond b (k ∷ []) []
    further b is = next_filtered (is_stray s old) old behind k (next_same old now behind (Some k) so_far.walked.ahead next) ∙ ap (λ c. filter (is_stray s old) (jobs_to behind (finite.keys old)) ++ cond c (k ∷ []) []) (sym at_first ∙ is)

    -- The job is no stray.
    pub passes : is_stray s now k ≡ false → AreDroppedTo waits s old told (Some k) now told'
    passes off =
        let (ds, are, jobs) = so_far.steps in
        record {
          walked = walk_goes_on (λ j o. Unit {0}) old (λ j gone. tt) behind now so_far.walked k next now (λ j other. refl) tt;
          steps = (ds, are, jobs ∙ sym (append-nil _) ∙ sym (further false off));
        }

    -- The job is a stray.
    pub seen_to : is_stray s now k ≡ true → (d : Dropping) → d.look.job ≡ k → IsDropping waits now told' d → SameBut k now d.slots → AreDroppedTo waits s old told (Some k) d.slots d.told
    seen_to is d job dropping same =
        let (ds, are, jobs) = so_far.steps in
        record {
          walked = walk_goes_on (λ j o. Unit {0}) old (λ j gone. tt) behind now so_far.walked k next d.slots same tt;
          steps = (
            ds ++ d ∷ [],
            more_droppings waits old now told told' ds d are dropping,
            map-append (λ (x : Dropping). x.look.job) ds (d ∷ []) ∙ ap (λ js. js ++ d.look.job ∷ []) jobs ∙ ap (λ j. filter (is_stray s old) (jobs_to behind (finite.keys old)) ++ j ∷ []) job ∙ sym (further true is),
          );
        }

  -- No slot is left to visit.
  pub all_dropped : IsNextJob now behind None → (ds : List Dropping) × AreDroppings waits old told ds now told' × (map (λ d. d.look.job) ds ≡ strays s old)
  all_dropped none =
      let (ds, are, jobs) = so_far.steps in
      (ds, are, jobs ∙ ap (filter (is_stray s old)) (all_jobs old behind (next_same old now behind None so_far.walked.ahead none)))

-- A stray that was dropped does not change the slots of other jobs.
pub dropped_same : (told : Option ChildTrace) (slots kept new : Slots) (j : ℕ) (told' : Option ChildTrace) → FinishesStage told slots j kept told' → new ≡ finite.remove kept j → SameBut j slots new
dropped_same told slots kept new j told' finishes gone k other = ap (λ m. finite.get m k) gone ∙ get_left kept j k other ∙ finish_same told slots j kept told' finishes k other
