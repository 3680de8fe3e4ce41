-- The events so far were answered.
use Rattle.std.proofs.Common.{◌≡◌, ◌<◌, length, false}
use Rattle.spool_core.specs.Driving.{IsDriven}
use Rattle.spool_core.specs.OpenSpools.{IsSettled}
use Rattle.spool_core.proofs.driving.drive_all.Given as goal

abbrev pub invariant-loop-event : goal.invariant-loop-event
invariant-loop-event g l = record {
  driven : IsDriven g.D.Disk.device l.fn.spool l.fn.events.items l.replies.items l.spool;
  so_many : length l.replies.items ≡ length l.yielded;
  lives : 0 < length l.fn.events.items → l.fn.spool.dead ≡ false;
  settled : IsSettled l.spool;
}
