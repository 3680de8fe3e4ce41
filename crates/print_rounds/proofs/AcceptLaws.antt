-- No event of a round is refused, so if there is no fault all events were acknowledged.
use Rattle.std.proofs.Common.{◌≡◌, ℕ, List, [], ◌∷◌, Option, Some, None, Result, Ok, Err, refl, sym, ap, subst}
use Rattle.std.specs.Option.{option_or}
use Rattle.spool_disk.specs.Disk.{DiskView}
use Rattle.spool_types.specs.declared.event.Event.{Event}
use Rattle.spool_types.specs.declared.event.Event.TheVariants.{Start}
use Rattle.spool_types.specs.declared.event.Reply.{Reply}
use Rattle.spool_types.specs.declared.refusal.Refusal.{Refusal}
use Rattle.spool_types.specs.State.{State}
use Rattle.job_table.specs.Attempts.{next_of}
use Rattle.job_table.specs.Step.{after, reply_to, step, answered, refusal_of}
use Rattle.spool_core.specs.OpenSpools.{OpenSpool}
use Rattle.spool_core.specs.declared.spool.apply_fault.ApplyFault.TheVariants as faults
use Rattle.print_rounds.specs.declared.outcome.RoundFault.{RoundFault}
use Rattle.print_rounds.specs.declared.outcome.Launch.{Launch}
use Rattle.print_rounds.specs.declared.outcome.Launch.TheVariants as launches
use Rattle.print_rounds.specs.Counts.{starting_fault, start_fault, launching_fault, launch_fault}
use Rattle.print_rounds.specs.RunStates.{Answer, Starting, IsStartingOf, AreStartings, Launching}
use Rattle.print_rounds.specs.Faultless.{IsBegun, AllBegun, IsServed, AllServed}

-- ## No fault

pub or_first : (a b : Option RoundFault) → option_or a b ≡ None → a ≡ None
or_first None b e = refl
or_first (Some fault) b e = absurd (cc)

pub or_second : (a b : Option RoundFault) → option_or a b ≡ None → b ≡ None
or_second None b e = e
or_second (Some fault) b e = absurd (cc)

-- An accepted event is not refused.
pub unrefused : (s : State) (e : Event) (refusal : Refusal) → refusal_of s e ≡ None → step s e ≡ Err refusal → ⊥
unrefused s e refusal accepted refused = apart (after s e, reply_to s e) (step s e) (ap (answered s e) accepted) refused
  where
    apart : (x : State × Reply) (o : Result (State × Reply) Refusal) → o ≡ Ok x → o ≡ Err refusal → ⊥
    apart x o taken denied = absurd (cc)

module _ {D : Type 0} (device : DiskView D) where
  one_begun : (old : OpenSpool D) (o : Option ℕ) (answer : Option Answer) (new : OpenSpool D) → IsStartingOf device old o answer new → start_fault answer ≡ None → IsBegun answer
  one_begun old None answer new (none, same) e = subst IsBegun (sym none) tt
  one_begun old (Some j) None new is e = tt
  one_begun old (Some j) (Some (Ok reply)) new is e = tt
  one_begun old (Some j) (Some (Err faults.Dead)) new is e = absurd (cc)
  one_begun old (Some j) (Some (Err (faults.Refused refusal))) new (accepted, is) e = unrefused old.state (Start j) refusal accepted is.cause.1
  one_begun old (Some j) (Some (Err faults.Memory)) new is e = absurd (cc)
  one_begun old (Some j) (Some (Err faults.Full)) new is e = absurd (cc)
  one_begun old (Some j) (Some (Err faults.Disk)) new is e = absurd (cc)

  -- If no start has a fault, each job was started.
  pub all_begun : (old : OpenSpool D) (ts : List (Starting D)) (new : OpenSpool D) → AreStartings device old ts new → starting_fault ts ≡ None → AllBegun ts
  all_begun old [] new same e = tt
  all_begun old (t ∷ ts) new (start, starts) e = (
    one_begun old (next_of old.state t.queue) t.answer t.next start (or_first (start_fault t.answer) (starting_fault ts) e),
    all_begun t.next ts new starts (or_second (start_fault t.answer) (starting_fault ts) e),
  )

one_served : (l : Launch) → launch_fault l ≡ None → IsServed l
one_served launches.Unlaunched e = tt
one_served (launches.Launched started) e = tt
one_served launches.NoMemory e = absurd (cc)
one_served launches.Disk e = absurd (cc)
one_served launches.Dead e = absurd (cc)

-- If no start of a child has a fault, memory sufficed.
pub all_served : (ls : List Launching) → launching_fault ls ≡ None → AllServed ls
all_served [] e = tt
all_served (l ∷ ls) e = (one_served l.launch (or_first (launch_fault l.launch) (launching_fault ls) e), all_served ls (or_second (launch_fault l.launch) (launching_fault ls) e))
