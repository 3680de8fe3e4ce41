use Rattle.std.proofs.Common.{◌≡◌, ◌≤◌, ◌+◌, ◌-◌, ℕ, List, Some, false, length, take, drop}
use Rattle.spool_disk.specs.Disk.{ChangesNothing}
use Rattle.spool_areas.specs.Header.{header_len}
use Rattle.spool_areas.specs.Current.{KeepsPayloads}
use Rattle.spool_areas.specs.AreaStages.{KeepsStagedPayloads}
use Rattle.extents.specs.Extents.{size_of}
use Rattle.documents.specs.Documents.{joined, LieIn}
use Rattle.documents.proofs.reading.read_joined.Given as goal

abbrev pub invariant-loop-extent : goal.invariant-loop-extent
invariant-loop-extent g l = record {
  within : l.done ≤ length l.into;
  lie : LieIn (l.fn.areas.base + header_len) l.fn.areas.end (drop l.extent-index l.extents);
  left : l.skip + (length l.into - l.done) ≤ size_of (drop l.extent-index l.extents);
  rest : (r : List ℕ) → g.D.Disk.device.bytes l.fn.areas.disk ≡ Some r → drop (l.at + l.done) (joined r l.extents) ≡ drop l.skip (joined r (drop l.extent-index l.extents));
  read : (r : List ℕ) → g.D.Disk.device.bytes l.fn.areas.disk ≡ Some r → take l.done l.into ≡ take l.done (drop l.at (joined r l.extents));
  base : l.areas.base ≡ l.fn.areas.base;
  end : l.areas.end ≡ l.fn.areas.end;
  epoch : l.areas.epoch ≡ l.fn.areas.epoch;
  gate : l.areas.gate ≡ l.fn.areas.gate;
  version : l.areas.version ≡ l.fn.areas.version;
  held : l.areas.held ≡ l.fn.areas.held;
  alive : l.areas.dead ≡ false;
  counted : g.D.Disk.device.failures l.areas.disk ≡ g.D.Disk.device.failures l.fn.areas.disk;
  still : ChangesNothing g.D.Disk.device l.fn.areas.disk l.areas.disk;
  keeps : (payloads : List (List ℕ)) → KeepsPayloads g.D.Disk.device l.fn.areas payloads → KeepsPayloads g.D.Disk.device l.areas payloads;
  staged : (payloads staged : List (List ℕ)) → KeepsStagedPayloads g.D.Disk.device l.fn.areas payloads staged → KeepsStagedPayloads g.D.Disk.device l.areas payloads staged;
}
