use Rattle.std.proofs.Common.{◌≡◌, ◌≤◌, drop}
use Rattle.spool_areas.specs.Checkpoint.{has_room}
use Rattle.spool_areas.proofs.room.have_room.Given as goal

abbrev pub invariant-loop-len : goal.invariant-loop-len
invariant-loop-len l = record {
  inside : l.gate ≤ l.end;
  rest : has_room l.end l.gate (drop l.len-index l.lengths) ≡ has_room l.end l.fn.first l.lengths;
}
