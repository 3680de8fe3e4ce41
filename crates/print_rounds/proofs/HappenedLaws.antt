-- Happenings that were appended, one part after another.
use Rattle.std.proofs.Common.{◌≡◌, ◌≤◌, ℕ, ◌+◌, Bool, true, false, cond, inl, inr, List, [], ◌∷◌, ◌++◌, length, Option, None, Some, Result, sym, ap, subst, ◌∙◌, append_assoc, append-nil, arith}
use Rattle.std.proofs.lemmas.Grind.{flat_map-append}
use Rattle.spool_disk.specs.Disk.{DiskView}
use Rattle.spool_types.specs.declared.event.Event.{Event}
use Rattle.spool_types.specs.declared.event.Event.TheVariants.{Stage}
use Rattle.spool_core.specs.OpenSpools.{OpenSpool}
use Rattle.filter_args.specs.declared.place.Place.{Place}
use Rattle.job_table.specs.Attempts.{next_of}
use Rattle.child_pipeline.specs.StageSlots.{end_in}
use Rattle.print_rounds.specs.declared.happenings.Happening.{Happening}
use Rattle.print_rounds.specs.declared.start_room.StartRoom.{StartRoom}
use Rattle.print_rounds.specs.declared.start_room.TickLimits.{TickLimits}
use Rattle.std.specs.Prelude.{IfSome}
use Rattle.print_rounds.specs.declared.outcome.Round.{Round}
use Rattle.print_rounds.specs.declared.outcome.RoundFault.{RoundFault}
use Rattle.print_rounds.specs.Counts.{start_events, starting_events, report_events, ending_events}
use Rattle.print_rounds.specs.Happenings.{HaveHappened, IsPassThat, happening_of, happenings_of}
use Rattle.print_rounds.specs.Passes.{IsPassBy}
use Rattle.print_rounds.specs.StageChecks.{Look, ripe_in}
use Rattle.print_rounds.specs.RunStates.{RunState, Starting, AreStartings, Ending}

pub none_happened : (capacity n : ℕ) (old : List Happening) → HaveHappened capacity n old old []
none_happened capacity n old = (λ room. sym (append-nil old), omega arith)

-- Room for more is room for fewer.
pub with_room : (capacity n m : ℕ) (old new more : List Happening) → n ≤ m → HaveHappened capacity n old new more → HaveHappened capacity m old new more
with_room capacity n m old new more fewer (items, few) = (λ room. items (omega (arith, room, fewer)), omega (arith, few, fewer))

pub both_happened : (capacity n m : ℕ) (old mid new first further : List Happening) → HaveHappened capacity n old mid first → HaveHappened capacity m mid new further → HaveHappened capacity (n + m) old new (first ++ further)
both_happened capacity n m old mid new first further (one, few) (two, fewer) = (
  λ room. two (omega (arith, few, room)) ∙ ap (λ l. l ++ further) (one (omega (arith, room))) ∙ append_assoc old first further,
  omega (arith, few, fewer),
)

-- The same with the events of both parts.
pub events_happened : (capacity n m : ℕ) (old mid new : List Happening) (es fs : List Event) → HaveHappened capacity n old mid (happenings_of es) → HaveHappened capacity m mid new (happenings_of fs) → HaveHappened capacity (n + m) old new (happenings_of (es ++ fs))
events_happened capacity n m old mid new es fs one two =
    subst (HaveHappened capacity (n + m) old new) (sym (flat_map-append happening_of es fs))
    (both_happened capacity n m old mid new (happenings_of es) (happenings_of fs) one two)

-- The first part, if the second did nothing.
pub first_happened : (capacity q a : ℕ) (old new : List Happening) (es : List Event) → a ≤ q → HaveHappened capacity a old new (happenings_of es) → HaveHappened capacity (q + q) old new (happenings_of (es ++ []))
first_happened capacity q a old new es few one =
    subst (λ fs. HaveHappened capacity (q + q) old new (happenings_of fs)) (sym (append-nil es))
    (with_room capacity a (q + q) old new (happenings_of es) (omega (arith, few)) one)

-- Both parts, over a list whose capacity stays.
pub parts_happened : (capacity room q a b : ℕ) (old mid new : List Happening) (es fs : List Event) → room ≡ capacity → a ≤ q → b ≤ q → HaveHappened capacity a old mid (happenings_of es) → HaveHappened room b mid new (happenings_of fs) → HaveHappened capacity (q + q) old new (happenings_of (es ++ fs))
parts_happened capacity room q a b old mid new es fs same few fewer one two =
    with_room capacity (a + b) (q + q) old new (happenings_of (es ++ fs)) (omega (arith, few, fewer))
    (events_happened capacity a b old mid new es fs one (subst (λ n. HaveHappened n b mid new (happenings_of fs)) same two))

-- No more ends are reported than jobs were checked.
pub ripe_few : (ls : List Look) → length (ripe_in ls) ≤ length ls
ripe_few [] = omega arith
ripe_few (l ∷ ls) = by_test l.ripe (ripe_few ls)
  where
    by_test : (b : Bool) → length (ripe_in ls) ≤ length ls → length (cond b (l.job ∷ ripe_in ls) (ripe_in ls)) ≤ length (l ∷ ls)
    by_test true rest = omega (arith, rest)
    by_test false rest = omega (arith, rest)

module _ {D : Type 0} (device : DiskView D) where
  one_more_start : (old mid : OpenSpool D) (ts : List (Starting D)) (t : Starting D) → AreStartings device old ts mid → starting_events old (ts ++ t ∷ []) ≡ starting_events old ts ++ start_events (next_of mid.state t.queue) t.answer
  one_more_start old mid [] t same = append-nil (start_events (next_of old.state t.queue) t.answer) ∙ ap (λ (s : OpenSpool D). start_events (next_of s.state t.queue) t.answer) (sym same)
  one_more_start old mid (x ∷ ts) t starts =
      ap (λ es. start_events (next_of old.state x.queue) x.answer ++ es) (one_more_start x.next mid ts t starts.1)
      ∙ sym (append_assoc (start_events (next_of old.state x.queue) x.answer) (starting_events x.next ts) (start_events (next_of mid.state t.queue) t.answer))

  -- One more start.
  pub start_happened : (capacity n : ℕ) (old mid : OpenSpool D) (ts : List (Starting D)) (t : Starting D) → AreStartings device old ts mid → (before now then : List Happening)
      → HaveHappened capacity n before now (happenings_of (starting_events old ts)) → HaveHappened capacity 1 now then (happenings_of (start_events (next_of mid.state t.queue) t.answer))
      → HaveHappened capacity (n + 1) before then (happenings_of (starting_events old (ts ++ t ∷ [])))
  start_happened capacity n old mid ts t starts before now then one two =
      subst (λ es. HaveHappened capacity (n + 1) before then (happenings_of es)) (sym (one_more_start old mid ts t starts))
      (events_happened capacity n 1 before now then (starting_events old ts) (start_events (next_of mid.state t.queue) t.answer) one two)

-- One more end.
pub end_happened : {D : Type 0} (capacity n : ℕ) (es : List (Ending D)) (e : Ending D) (before now then : List Happening)
    → HaveHappened capacity n before now (happenings_of (ending_events es)) → HaveHappened capacity 1 now then (happenings_of (report_events (Stage (end_in e.kept.slots e.job)) e.report))
    → HaveHappened capacity (n + 1) before then (happenings_of (ending_events (es ++ e ∷ [])))
end_happened {D} capacity n es e before now then one two =
    let event = λ (x : Ending D). report_events (Stage (end_in x.kept.slots x.job)) x.report in
    subst (λ fs. HaveHappened capacity (n + 1) before then (happenings_of fs)) (sym (flat_map-append event es (e ∷ []) ∙ ap (λ fs. ending_events es ++ fs) (append-nil (event e))))
    (events_happened capacity n 1 before now then (ending_events es) (event e) one two)

-- The pass alone.
pub pass_alone : {D : Type 0} (Has : List Event → List (List ℕ) → Type 0) (device : DiskView D) (place : Place) (waits : Bool) (start_room : Option StartRoom) (old new : RunState D) (result : Result Round RoundFault) (b : Bool)
    → IsPassThat Has device place waits start_room old b new result → IsPassBy device place waits start_room old b new result
pass_alone Has device place waits start_room old new result true (answer, same, has) = (answer, same)
pass_alone Has device place waits start_room old new result false (inl (unbegun, has)) = inl unbegun
pass_alone Has device place waits start_room old new result false (inr (passed, has)) = inr passed

-- The same number of children.
pub same_most : (limits : Option TickLimits) (n : ℕ) → IfSome limits (λ l. n ≤ l.most → n ≤ l.most)
same_most None n = tt
same_most (Some l) n = λ few. few
