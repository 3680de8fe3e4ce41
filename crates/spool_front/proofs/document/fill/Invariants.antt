-- The bytes read so far are the front of the buffer, and each iteration reads at least one.
use Rattle.std.proofs.Common.{◌≡◌, ◌≤◌, ◌-◌, length, take}
use Rattle.std.specs.Io.KnownBytes.{Consumes}
use Rattle.spool_front.proofs.document.fill.Given as goal

abbrev pub invariant-loop-filled : goal.invariant-loop-filled
invariant-loop-filled g l = record {
  same : length l.buffer ≡ length l.initial.buffer;
  within : l.filled ≤ length l.buffer;
  read : Consumes (g.S.Read.remaining l.initial.source) (g.S.Read.remaining l.source) (take l.filled l.buffer);
}

abbrev pub decreases-loop-filled : goal.decreases-loop-filled
decreases-loop-filled g l = length l.initial.buffer - l.filled
