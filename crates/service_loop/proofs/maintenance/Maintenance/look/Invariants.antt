-- The jobs at the visited positions are listed.
use Rattle.std.proofs.Common.{◌≡◌, length}
use Rattle.job_table.specs.DueTimes.{ended_numbers, next_due}
use Rattle.service_loop.specs.Due.{AreListed}
use Rattle.service_loop.proofs.maintenance.Maintenance.look.Given as goal

abbrev pub invariant-loop-at : goal.invariant-loop-at
invariant-loop-at g l = record {
  due : l.self.due ≡ next_due l.shared.engine.run_state.spool.state;
  ended : l.self.ended ≡ length (ended_numbers l.shared.engine.run_state.spool.state);
  listed : AreListed l.at (ended_numbers l.shared.engine.run_state.spool.state) l.self.listed.items;
  kept : l.self ≡ record l.fn.self { due = l.self.due; ended = l.self.ended; listed = l.self.listed };
}
