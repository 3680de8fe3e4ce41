-- Lists of stages, and the events that were accepted.
use Rattle.std.proofs.Common.{◌≡◌, ◌⊎◌, inl, inr, ℕ, List, [], ◌∷◌, ◌++◌, None, Some, Option, Ok, Err, refl, sym, ap, subst, ◌∙◌, append_assoc}
use Rattle.spool_disk.specs.Disk.{DiskView}
use Rattle.spool_types.specs.declared.event.Event.{Event}
use Rattle.spool_types.specs.declared.event.Event.TheVariants.{Start, Stage}
use Rattle.spool_types.specs.State.{State}
use Rattle.job_table.specs.Attempts.{next_of}
use Rattle.job_table.specs.EventFold.{after_all, after_one, unless_refused, AreAccepted}
use Rattle.job_table.specs.Stages.{Key, IsIn}
use Rattle.job_table.specs.Step.{after, refusal_of}
use Rattle.spool_core.specs.OpenSpools.{OpenSpool, IsAnswer}
use Rattle.child_pipeline.specs.StageSlots.{end_in}
use Rattle.print_rounds.specs.Counts.{acknowledged_by, start_events, starting_events, report_events, ending_events}
use Rattle.print_rounds.specs.RunStates.{Answer, RunState, Starting, IsStartingOf, AreStartings, Ending, IsReport, IsEnding, IsEndingOf, AreEndings, is_silent}
use Rattle.job_table.specs.TableCalls.{AreOnce, IsAmong, IsReached}
use Rattle.print_rounds.specs.declared.outcome.Report.{Report}
use Rattle.print_rounds.specs.declared.outcome.Report.TheVariants as reports
use Rattle.std.specs.FinMap as finite
use Rattle.std.specs.Prelude.{Bool, true, false}
use Rattle.print_rounds.proofs.PartLaws.{answer_table, end_part}
use Rattle.print_rounds.proofs.PrefixLaws.{after_both}

-- ## Lists of stages

pub among_either : (xs ys : List Key) (k : Key) → IsAmong (xs ++ ys) k → IsAmong xs k ⊎ IsAmong ys k
among_either [] ys k among = inr among
among_either (x ∷ xs) ys k (inl is) = inl (inl is)
among_either (x ∷ xs) ys k (inr among) = elim (among_either xs ys k among) [
  | inl first ↦ inl (inr first)
  | inr later ↦ inr later
]

-- No stage of the first list is in the second.
pub once_both : (xs ys : List Key) → AreOnce xs → AreOnce ys → ((k : Key) → IsAmong xs k → IsAmong ys k → ⊥) → AreOnce (xs ++ ys)
once_both [] ys one two apart = two
once_both (x ∷ xs) ys (new, one) two apart = (
  λ among. elim (among_either xs ys x among) [
    | inl first ↦ new first
    | inr later ↦ apart x (inl refl) later
  ],
  once_both xs ys one two (λ k first. apart k (inr first)),
)

-- ## Events

pub accepted_one : (s : State) (e : Event) → refusal_of s e ≡ None → after_one s e ≡ after s e
accepted_one s e accepted = ap (unless_refused s e) accepted

pub accepted_both : (s : State) (es fs : List Event) → AreAccepted s es → AreAccepted (after_all s es) fs → AreAccepted s (es ++ fs)
accepted_both s [] fs one two = two
accepted_both s (e ∷ es) fs (first, one) two =
    (first, accepted_both (after s e) es fs one (subst (λ t. AreAccepted (after_all t es) fs) (accepted_one s e first) two))

pub reached_sooner : (s : State) (es fs : List Event) (k : Key) → IsReached s es k → IsReached s (es ++ fs) k
reached_sooner s es fs k r = record { first = r.first; rest = r.rest ++ fs; split = ap (λ l. l ++ fs) r.split ∙ append_assoc r.first r.rest fs; reached = r.reached }

pub reached_later : (s : State) (es fs : List Event) (k : Key) → IsReached (after_all s es) fs k → IsReached s (es ++ fs) k
reached_later s es fs k r = record {
  first = es ++ r.first;
  rest = r.rest;
  split = ap (λ l. es ++ l) r.split ∙ sym (append_assoc es r.first r.rest);
  reached = subst (λ t. IsIn t k) (sym (after_both s es r.first)) r.reached;
}

-- ## The events of a round

module _ {D : Type 0} (device : DiskView D) where
  answer_accepted : (old : OpenSpool D) (e : Event) (a : Answer) (new : OpenSpool D) → IsAnswer device old e a new → AreAccepted old.state (acknowledged_by e a)
  answer_accepted old e (Ok reply) new done = (done.fits.accepted, tt)
  answer_accepted old e (Err fault) new is = tt

  start_accepted : (old : OpenSpool D) (o : Option ℕ) (answer : Option Answer) (new : OpenSpool D) → IsStartingOf device old o answer new → AreAccepted old.state (start_events o answer)
  start_accepted old None answer new is = tt
  start_accepted old (Some j) None new is = absurd is
  start_accepted old (Some j) (Some a) new (accepted, is) = answer_accepted old (Start j) a new is.cause

  start_table : (old : OpenSpool D) (o : Option ℕ) (answer : Option Answer) (new : OpenSpool D) → IsStartingOf device old o answer new → new.state ≡ after_all old.state (start_events o answer)
  start_table old None answer new (none, same) = ap (λ (x : OpenSpool D). x.state) same
  start_table old (Some j) None new is = absurd is
  start_table old (Some j) (Some a) new (accepted, is) = answer_table device old (Start j) a new is.cause

  pub starts_accepted : (old : OpenSpool D) (ts : List (Starting D)) (new : OpenSpool D) → AreStartings device old ts new → AreAccepted old.state (starting_events old ts)
  starts_accepted old [] new same = tt
  starts_accepted old (t ∷ ts) new (start, starts) =
      let o = next_of old.state t.queue in
      accepted_both old.state (start_events o t.answer) (starting_events t.next ts) (start_accepted old o t.answer t.next start)
      (subst (λ s. AreAccepted s (starting_events t.next ts)) (start_table old o t.answer t.next start) (starts_accepted t.next ts new starts))

  report_accepted : (kept : RunState D) (j : ℕ) (r : Report) (next : RunState D) → IsReport device kept j r next → AreAccepted kept.spool.state (report_events (Stage (end_in kept.slots j)) r)
  report_accepted kept j reports.Silent next is = tt
  report_accepted kept j reports.NoMemory next is = tt
  report_accepted kept j (reports.Answered a) next is = answer_accepted kept.spool (Stage (end_in kept.slots j)) a next.spool is.0.cause

  end_accepted : (old : RunState D) (e : Ending D) → IsEnding device old e → AreAccepted old.spool.state (report_events (Stage (end_in e.kept.slots e.job)) e.report)
  end_accepted old e ends = by_silence (is_silent (finite.get old.slots e.job)) ends
    where
      by_silence : (b : Bool) → IsEndingOf device old b e → AreAccepted old.spool.state (report_events (Stage (end_in e.kept.slots e.job)) e.report)
      by_silence true (silent, kept, next) = subst (λ r. AreAccepted old.spool.state (report_events (Stage (end_in e.kept.slots e.job)) r)) (sym silent) tt
      by_silence false (finishes, same, report) =
          subst (λ (x : OpenSpool D). AreAccepted x.state (report_events (Stage (end_in e.kept.slots e.job)) e.report)) same (report_accepted e.kept e.job e.report e.next report)

  pub ends_accepted : (old : RunState D) (es : List (Ending D)) (new : RunState D) → AreEndings device old es new → AreAccepted old.spool.state (ending_events es)
  ends_accepted old [] new same = tt
  ends_accepted old (e ∷ es) new (ends, others) =
      let events = report_events (Stage (end_in e.kept.slots e.job)) e.report in
      accepted_both old.spool.state events (ending_events es) (end_accepted old e ends)
      (subst (λ s. AreAccepted s (ending_events es)) (end_part device old e ends).table (ends_accepted e.next es new others))
