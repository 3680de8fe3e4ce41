-- The starts of the jobs so far.
use Rattle.std.proofs.Common.{◌≡◌, ◌≤◌, List, map, take}
use Rattle.print_rounds.specs.Counts.{launching_fault, started_in}
use Rattle.print_rounds.specs.RunStates.{Launching, AreLaunchings, AreReads}
use Rattle.print_rounds.proofs.launches.launch_all.Given as goal

abbrev pub invariant-loop-job : goal.invariant-loop-job
invariant-loop-job g l = record {
  launches :
      (ts : List Launching) × AreLaunchings l.place l.initial.spool.state l.initial.runner (g.C.Children.tells l.initial.children) ts
      l.runner (g.C.Children.tells l.children) × AreReads g.D.Disk.device l.initial.spool ts l.spool × (map (λ t. t.job) ts ≡ take l.job-index l.jobs) × (l.started ≡ started_in ts) × (l.fault ≡ launching_fault ts);
  few : l.started ≤ l.job-index;
}
