-- All bytes except the remaining ones are copied, and no others have changed.
use Rattle.std.proofs.Common.{◌≡◌, ◌≤◌, ◌-◌, List, ℕ, Some, drop}
use Rattle.spool_disk.specs.Disk.{ChangesNothing}
use Rattle.spool_admin.proofs.Pieces.{copied}
use Rattle.spool_admin.proofs.copying.copy.Given as goal

abbrev pub invariant-loop-rest : goal.invariant-loop-rest
invariant-loop-rest g l = record {
  some : l.rest ≤ l.fn.count;
  still : ChangesNothing g.S.Disk.device l.fn.source l.source;
  fixed : g.T.Disk.device.size l.target ≡ g.T.Disk.device.size l.fn.target;
  copied : (r t : List ℕ) → g.S.Disk.device.bytes l.fn.source ≡ Some r → g.T.Disk.device.bytes l.fn.target ≡ Some t
      → g.T.Disk.device.bytes l.target ≡ Some (copied (l.fn.count - l.rest) (drop l.fn.from r) t);
}

abbrev pub decreases-loop-rest : goal.decreases-loop-rest
decreases-loop-rest g l = l.rest
