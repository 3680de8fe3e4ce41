-- Events that are recorded one after another.
use Rattle.std.proofs.Common.{◌≡◌, inl, inr, ℕ, ◌+◌, ◌<◌, Bool, true, false, Option, Result, List, [], ◌∷◌, ◌++◌, length, map, take, get_or, refl, sym, ap, subst, ◌∙◌, add-one}
use Rattle.std.proofs.Math.Seq.{take-suc}
use Rattle.std.proofs.lemmas.List.{map-append}
use Rattle.spool_disk.specs.Disk.{DiskView}
use Rattle.spool_types.specs.State.{State}
use Rattle.spool_types.specs.declared.event.Event.{Event}
use Rattle.print_rounds.specs.Happenings.{IsTickThat, happenings_of}
use Rattle.print_rounds.specs.Rounds.{events_in}
use Rattle.print_rounds.specs.RunStates.{RunState}
use Rattle.print_rounds.specs.declared.happenings.Happening.{Happening}
use Rattle.print_rounds.specs.declared.outcome.Round.{Round}
use Rattle.print_rounds.specs.declared.outcome.RoundFault.{RoundFault}
use Rattle.print_rounds.specs.declared.start_room.TickLimits.{TickLimits}
use Rattle.filter_args.specs.declared.place.Place.{Place}
use Rattle.event_records.specs.declared.deeds.Deed.{Deed}
use Rattle.service_loop.specs.declared.events.Records.{Records}
use Rattle.service_loop.specs.RecordedEvents.{HasRecorded, HasRecordedAll}

pub recorded_more : (s : State) (old : Records) (ds : List Deed) (mid : Records) (d : Deed) (new : Records) → HasRecordedAll s old ds mid → HasRecorded s mid d new → HasRecordedAll s old (ds ++ d ∷ []) new
recorded_more s old [] mid d new same one = (new, subst (λ (r : Records). HasRecorded s r d new) same one, refl)
recorded_more s old (x ∷ ds) mid d new (r, first, others) one = (r, first, recorded_more s r ds mid d new others one)

-- One more of a list.
pub recorded_next : {X : Type 0} (s : State) (old mid new : Records) (f : X → Deed) (xs : List X) (i : ℕ) (x : X) (d : Deed) → i < length xs → x ≡ get_or xs i x → d ≡ f x →
    HasRecordedAll s old (map f (take i xs)) mid → HasRecorded s mid d new → HasRecordedAll s old (map f (take (i + 1) xs)) new
recorded_next s old mid new f xs i x d lt at is so_far one =
    subst (λ ds. HasRecordedAll s old ds new)
    (sym (map-append f (take i xs) (x ∷ [])) ∙ ap (map f) (ap (λ z. take i xs ++ z ∷ []) at ∙ sym (take-suc xs i x lt) ∙ ap (λ k. take k xs) (sym (add-one i))))
    (recorded_more s old (map f (take i xs)) mid (f x) new so_far (subst (λ e. HasRecorded s mid e new) is one))

-- Events, followed by others.
pub recorded_then : (s : State) (old : Records) (ds : List Deed) (mid : Records) (es : List Deed) (new : Records) → HasRecordedAll s old ds mid → HasRecordedAll s mid es new → HasRecordedAll s old (ds ++ es) new
recorded_then s old [] mid es new same others = subst (λ (r : Records). HasRecordedAll s r es new) same others
recorded_then s old (x ∷ ds) mid es new (r, first, one) others = (r, first, recorded_then s r ds mid es new one others)

-- The accepted events of a tick, named.
pub tick_events : {D : Type 0} (device : DiskView D) (place : Place) (limits : Option TickLimits) (s : RunState D) (b : Bool) (new : RunState D) (result : Result Round RoundFault) (happened : List Happening) →
    IsTickThat (λ es. happened ≡ happenings_of es) device place limits s b new result →
    (events : List Event) × IsTickThat (λ es. es ≡ events) device place limits s b new result × (happened ≡ happenings_of events)
tick_events device place limits s true new result happened (answer, same, is) = ([], (answer, same, refl), is)
tick_events device place limits s false new result happened (inl (unbegun, is)) = ([], inl (unbegun, refl), is)
tick_events device place limits s false new result happened (inr (made, is)) = (events_in s made.steps.parts, inr (made, refl), is)
