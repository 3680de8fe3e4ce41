-- More rows may be written, and the whole spool is as before.
use Rattle.std.proofs.Common.{◌≡◌}
use Rattle.spool_disk.specs.Disk.{ChangesNothing}
use Rattle.split_rows.specs.Writing.{MayWrite}
use Rattle.spool_halves.proofs.filling.put_rows.Given as goal

abbrev pub invariant-loop-job : goal.invariant-loop-job
invariant-loop-job g l = record {
  may : MayWrite l.writing.areas l.writing.filler l.writing.end;
  state : l.whole.state ≡ l.fn.whole.state;
  held : l.whole.held ≡ l.fn.whole.held;
  still : ChangesNothing g.S.Disk.device l.fn.whole.disk l.whole.disk;
}
