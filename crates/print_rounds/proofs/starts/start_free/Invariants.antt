-- The starts of the queues so far.
use Rattle.std.proofs.Common.{◌≡◌, List, map, take}
use Rattle.std.specs.FinMap as finite
use Rattle.std.specs.Prelude.{vec_capacity}
use Rattle.print_rounds.specs.Counts.{starting_events, starting_fault}
use Rattle.print_rounds.specs.Happenings.{HaveHappened, happenings_of}
use Rattle.print_rounds.specs.RunStates.{Starting, AreStartings}
use Rattle.print_rounds.specs.Passes.{unblocked}
use Rattle.print_rounds.proofs.starts.start_free.Given as goal

abbrev pub invariant-loop-at : goal.invariant-loop-at
invariant-loop-at g l = record {
  starts :
      (ts : List (Starting g.row.D.Denot)) × AreStartings g.D.Disk.device l.initial.spool ts l.spool
      × (map (λ t. t.queue) ts ≡ unblocked (take l.at l.blocked) (take l.at (finite.keys l.initial.spool.state.queues))) × (l.fault ≡ starting_fault ts)
      × HaveHappened (vec_capacity l.initial.happened) l.at l.initial.happened.items l.happened.items (happenings_of (starting_events l.initial.spool ts));
  capacity : vec_capacity l.happened ≡ vec_capacity l.initial.happened;
}
