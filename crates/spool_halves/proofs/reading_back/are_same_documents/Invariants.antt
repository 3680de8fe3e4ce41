-- The jobs so far have the same documents, and nothing has changed.
use Rattle.std.proofs.Common.{◌≡◌, List, ℕ, Some, take}
use Rattle.std.specs.List.{AllByRecursion}
use Rattle.spool_disk.specs.Disk.{ChangesNothing}
use Rattle.spool_halves.specs.Halves.{IsSameDocument}
use Rattle.spool_halves.proofs.reading_back.are_same_documents.Given as goal

abbrev pub invariant-loop-job : goal.invariant-loop-job
invariant-loop-job g l = record {
  whole_state : l.whole.state ≡ l.fn.whole.state;
  part_state : l.part.state ≡ l.fn.part.state;
  whole_held : l.whole.held ≡ l.fn.whole.held;
  part_held : l.part.held ≡ l.fn.part.held;
  whole_still : ChangesNothing g.S.Disk.device l.fn.whole.disk l.whole.disk;
  part_still : ChangesNothing g.T.Disk.device l.fn.part.disk l.part.disk;
  same : (r t : List ℕ) → g.S.Disk.device.bytes l.fn.whole.disk ≡ Some r → g.T.Disk.device.bytes l.fn.part.disk ≡ Some t
      → AllByRecursion (IsSameDocument l.fn.whole.state l.fn.part.state r t) (take l.job-index l.jobs);
}
