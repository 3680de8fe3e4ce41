use Rattle.std.proofs.Common.{◌≡◌, ◌<◌, List, ℕ, Some, ◌-◌}
use Rattle.spool_disk.specs.Disk.{ChangesNothing}
use Rattle.gate_journal.specs.Entries.{HasFirst}
use Rattle.gate_journal.specs.Window.{Holds}
use Rattle.spool_areas.specs.PayloadExtents.{payloads_at, Follow}
use Rattle.spool_areas.proofs.records.collect.Given as goal

abbrev pub invariant-loop-found : goal.invariant-loop-found
invariant-loop-found g l = record {
  inside : l.gate < l.end;
  follow : Follow l.first l.payloads.items l.gate;
  so_far : (r : List ℕ) → g.D.Disk.device.bytes l.fn.disk ≡ Some r → HasFirst l.first l.gate (payloads_at r l.payloads.items) r;
  counted : g.D.Disk.device.failures l.disk ≡ g.D.Disk.device.failures l.fn.disk;
  same : ChangesNothing g.D.Disk.device l.fn.disk l.disk;
  held : Holds g.D.Disk.device l.disk l.window;
}

abbrev pub decreases-loop-found : goal.decreases-loop-found
decreases-loop-found g l = l.end - l.gate
