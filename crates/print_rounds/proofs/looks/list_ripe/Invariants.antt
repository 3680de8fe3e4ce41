-- The checks of the jobs so far.
use Rattle.std.proofs.Common.{◌≡◌, ◌≤◌, List, map, take, vec_len}
use Rattle.std.specs.Prelude.{vec_capacity}
use Rattle.print_rounds.specs.StageChecks.{Look, AreLooks, ripe_in}
use Rattle.print_rounds.proofs.looks.list_ripe.Given as goal

abbrev pub invariant-loop-job : goal.invariant-loop-job
invariant-loop-job g l = record {
  slots : l.runner ≡ l.initial.runner;
  looks : (ls : List Look) × AreLooks l.waits l.initial.runner (g.C.Children.tells l.initial.children) ls (g.C.Children.tells l.children)
      × (map (λ l. l.job) ls ≡ take l.job-index l.jobs) × (l.ripe.items ≡ ripe_in ls);
  few : vec_len l.ripe ≤ l.job-index;
  room : vec_capacity l.ripe ≡ vec_capacity l.initial.ripe;
}
