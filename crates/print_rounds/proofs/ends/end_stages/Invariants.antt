-- The ends of the jobs so far.
use Rattle.std.proofs.Common.{◌≡◌, ◌≤◌, List, map, take}
use Rattle.std.specs.Prelude.{vec_capacity}
use Rattle.print_rounds.specs.Counts.{ending_events, ending_fault, told_in}
use Rattle.print_rounds.specs.Happenings.{HaveHappened, happenings_of}
use Rattle.print_rounds.specs.RunStates.{Ending, AreEndings, run_state}
use Rattle.print_rounds.proofs.ends.end_stages.Given as goal

abbrev pub invariant-loop-job : goal.invariant-loop-job
invariant-loop-job g l = record {
  ends :
      (es : List (Ending g.row.D.Denot)) × AreEndings g.D.Disk.device (run_state l.initial.spool l.initial.runner (g.C.Children.tells l.initial.children)) es
      (run_state l.spool l.runner (g.C.Children.tells l.children)) × (map (λ e. e.job) es ≡ take l.job-index l.jobs) × (l.told ≡ told_in es) × (l.fault ≡ ending_fault es)
      × HaveHappened (vec_capacity l.initial.happened) l.job-index l.initial.happened.items l.happened.items (happenings_of (ending_events es));
  few : l.told ≤ l.job-index;
  capacity : vec_capacity l.happened ≡ vec_capacity l.initial.happened;
}
