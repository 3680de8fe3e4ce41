-- The jobs that are still to be canceled. Nothing else has changed.
use Rattle.std.proofs.Common.{◌≡◌}
use Rattle.job_table.specs.EventChanges.{at_moment, change_jobs}
use Rattle.job_table.specs.Contents.{HasNoMore, KeepsPlaces}
use Rattle.job_table.proofs.Late.{waiting_count}
use Rattle.job_table.proofs.table.Table.cancel_late.Given as goal

abbrev pub invariant-loop-job : goal.invariant-loop-job
invariant-loop-job l = record {
  rest : change_jobs (at_moment l.now) l.self.state.jobs ≡ change_jobs (at_moment l.now) l.fn.self.state.jobs;
  others : l.self.state ≡ record l.fn.self.state { jobs = l.self.state.jobs };
  room : HasNoMore l.fn.self.room l.self.room;
  places : KeepsPlaces l.fn.self l.self;
  moves : l.self.moves ≡ l.fn.self.moves;
}

abbrev pub decreases-loop-job : goal.decreases-loop-job
decreases-loop-job l = waiting_count l.self.state
