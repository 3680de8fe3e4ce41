-- Consecutive steps.
use Rattle.std.proofs.Common.{◌≡◌, ℕ, ◌+◌, ◌<◌, List, [], ◌∷◌, ◌++◌, length, map, take, get_or, Bool, true, false, Option, None, Some, refl, sym, ap, subst, ◌∙◌, add-one}
use Rattle.std.proofs.Math.Seq.{take-suc}
use Rattle.std.proofs.lemmas.List.{map-append}
use Rattle.spool_disk.specs.Disk.{DiskView}
use Rattle.std.specs.FinMap as finite
use Rattle.std.specs.List.{sum_by}
use Rattle.std.specs.Option.{option_or}
use Rattle.std.proofs.lemmas.List.Sums.{fold-append}
use Rattle.spool_types.specs.State.{State}
use Rattle.filter_args.specs.declared.place.Place.{Place}
use Rattle.spool_core.specs.OpenSpools.{OpenSpool, IsSettled}
use Rattle.job_table.specs.Attempts.{next_of}
use Rattle.child_pipeline.specs.ChildTraces.{ChildTrace}
use Rattle.child_pipeline.specs.StageSlots.{Slots, FinishesStage}
use Rattle.print_rounds.specs.RunStates.{RunState, Answer, Starting, IsStarting, IsStartingOf, AreStartings, Launching, IsLaunch, AreLaunchings, IsReadFor, AreReads, Ending, IsEnding, IsEndingOf, AreEndings, IsReport, is_silent}
use Rattle.print_rounds.specs.Counts.{first_fault}
use Rattle.print_rounds.specs.declared.outcome.Report.{Report}
use Rattle.print_rounds.specs.declared.outcome.Report.TheVariants as reports
use Rattle.print_rounds.specs.declared.outcome.RoundFault.{RoundFault}

-- One more item.
pub one_further : {X Y : Type 0} (f : X → Y) (xs : List X) (x : X) (ys : List Y) (i : ℕ) (y : Y) → map f xs ≡ take i ys → i < length ys → y ≡ get_or ys i y → f x ≡ y → map f (xs ++ x ∷ []) ≡ take (i + 1) ys
one_further f xs x ys i y so_far lt at is =
    map-append f xs (x ∷ [])
    ∙ ap (λ zs. zs ++ f x ∷ []) so_far
    ∙ ap (λ z. take i ys ++ z ∷ []) (is ∙ at)
    ∙ sym (take-suc ys i y lt)
    ∙ ap (λ k. take k ys) (sym (add-one i))

module _ {D : Type 0} (device : DiskView D) where
  pub more_ends : (old mid : RunState D) (es : List (Ending D)) (e : Ending D) → AreEndings device old es mid → IsEnding device mid e → AreEndings device old (es ++ e ∷ []) e.next
  more_ends old mid [] e same is = (subst (λ c. IsEnding device c e) same is, refl)
  more_ends old mid (x ∷ es) e ends is = (ends.0, more_ends x.next mid es e ends.1 is)

  pub more_starts : (old mid : OpenSpool D) (ts : List (Starting D)) (t : Starting D) → AreStartings device old ts mid → IsStarting device mid t → AreStartings device old (ts ++ t ∷ []) t.next
  more_starts old mid [] t same is = (subst (λ s. IsStarting device s t) same is, refl)
  more_starts old mid (x ∷ ts) t starts is = (starts.0, more_starts x.next mid ts t starts.1 is)

-- Nothing is staged after starts and ends of stages.
module _ {D : Type 0} (device : DiskView D) where
  start_settled : (old : OpenSpool D) (o : Option ℕ) (answer : Option Answer) (new : OpenSpool D) → IsSettled old → IsStartingOf device old o answer new → IsSettled new
  start_settled old None answer new settled (none, same) = subst IsSettled (sym same) settled
  start_settled old (Some j) None new settled is = absurd is
  start_settled old (Some j) (Some a) new settled (accepted, is) = is.settled

  pub starts_settled : (old : OpenSpool D) (ts : List (Starting D)) (new : OpenSpool D) → IsSettled old → AreStartings device old ts new → IsSettled new
  starts_settled old [] new settled same = subst IsSettled (sym same) settled
  starts_settled old (t ∷ ts) new settled (start, starts) = starts_settled t.next ts new (start_settled old (next_of old.state t.queue) t.answer t.next settled start) starts

  report_settled : (old : RunState D) (j : ℕ) (r : Report) (new : RunState D) → IsSettled old.spool → IsReport device old j r new → IsSettled new.spool
  report_settled old j reports.Silent new settled is = absurd is
  report_settled old j reports.NoMemory new settled same = subst (λ (c : RunState D). IsSettled c.spool) (sym same) settled
  report_settled old j (reports.Answered a) new settled (is, slots, told) = is.settled

  end_settled : (old : RunState D) (b : Bool) (e : Ending D) → IsSettled old.spool → IsEndingOf device old b e → IsSettled e.next.spool
  end_settled old true e settled (report, kept, next) = subst (λ (c : RunState D). IsSettled c.spool) (sym next) settled
  end_settled old false e settled (finishes, same, report) = report_settled e.kept e.job e.report e.next (subst IsSettled (sym same) settled) report

  pub ends_settled : (old : RunState D) (es : List (Ending D)) (new : RunState D) → IsSettled old.spool → AreEndings device old es new → IsSettled new.spool
  ends_settled old [] new settled same = subst (λ (c : RunState D). IsSettled c.spool) (sym same) settled
  ends_settled old (e ∷ es) new settled (end, ends) = ends_settled e.next es new (end_settled old (is_silent (finite.get old.slots e.job)) e settled end) ends

pub more_launches : (place : Place) (s : State) (old mid : Slots) (told told' : Option ChildTrace) (ts : List Launching) (t : Launching) → AreLaunchings place s old told ts mid told' → IsLaunch place s mid told' t.job t.document t.launch t.slots t.told → AreLaunchings place s old told (ts ++ t ∷ []) t.slots t.told
more_launches place s old mid told told' [] t (same, tells) is = (subst (λ m. IsLaunch place s m told t.job t.document t.launch t.slots t.told) same (subst (λ o. IsLaunch place s mid o t.job t.document t.launch t.slots t.told) tells is), (refl, refl))
more_launches place s old mid told told' (x ∷ ts) t launches is = (launches.0, more_launches place s x.slots mid x.told told' ts t launches.1 is)

module _ {D : Type 0} (device : DiskView D) where
  pub more_reads : (old mid new : OpenSpool D) (ts : List Launching) (t : Launching) → AreReads device old ts mid → IsReadFor device mid t.job t.document t.launch new → AreReads device old (ts ++ t ∷ []) new
  more_reads old mid new [] t same is = (new, subst (λ s. IsReadFor device s t.job t.document t.launch new) same is, refl)
  more_reads old mid new (x ∷ ts) t (next, first, reads) is = (next, first, more_reads next mid new ts t reads is)

  pub silent_end : (old : RunState D) (j : ℕ) → is_silent (finite.get old.slots j) ≡ true → IsEnding device old (record { job = j; kept = old; report = reports.Silent; next = old })
  silent_end old j silent =
      let end : Ending D = record { job = j; kept = old; report = reports.Silent; next = old } in
      subst (λ b. IsEndingOf device old b end) (sym silent) (refl, refl, refl)

  pub spoken_end : (old kept next : RunState D) (j : ℕ) (report : Report) → is_silent (finite.get old.slots j) ≡ false → FinishesStage old.told old.slots j kept.slots kept.told → kept.spool ≡ old.spool → IsReport device kept j report next → IsEnding device old (record { job = j; kept = kept; report = report; next = next })
  spoken_end old kept next j report spoken finishes same told =
      let end : Ending D = record { job = j; kept = kept; report = report; next = next } in
      subst (λ b. IsEndingOf device old b end) (sym spoken) (finishes, same, told)

or_apart : (a b c : Option RoundFault) → option_or (option_or a b) c ≡ option_or a (option_or b c)
or_apart None b c = refl
or_apart (Some fault) b c = refl

or_none : (a : Option RoundFault) → option_or a None ≡ a
or_none None = refl
or_none (Some fault) = refl

-- The first fault, with one more step.
pub one_fault : {X : Type 0} (f : X → Option RoundFault) (xs : List X) (x : X) → first_fault f (xs ++ x ∷ []) ≡ option_or (first_fault f xs) (f x)
one_fault f [] x = or_none (f x)
one_fault f (y ∷ xs) x = ap (option_or (f y)) (one_fault f xs x) ∙ sym (or_apart (f y) (first_fault f xs) (f x))

-- The count, with one more step.
pub one_count : {X : Type 0} (f : X → ℕ) (xs : List X) (x : X) → sum_by f (xs ++ x ∷ []) ≡ sum_by f xs + f x
one_count f xs x = fold-append (λ a x. a + f x) 0 xs (x ∷ [])
