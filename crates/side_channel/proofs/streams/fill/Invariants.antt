use Rattle.std.proofs.Common.{◌≡◌, ◌<◌, ◌≤◌, take, length}
use Rattle.std.specs.Io.KnownBytes.{Consumes}
use Rattle.side_channel.proofs.streams.fill.Given as goal

abbrev pub invariant-reads : goal.invariant-reads
invariant-reads g l = record {
  same : length l.buf ≡ length l.initial.buf;
  within : l.at ≤ length l.buf;
  read : Consumes (g.R.Read.remaining l.initial.reader) (g.R.Read.remaining l.reader) (take l.at l.buf);
  reads : l.reads ≤ l.initial.reads;
  counted : 0 < l.at → l.reads < l.initial.reads;
}

abbrev pub decreases-reads : goal.decreases-reads
decreases-reads g l = l.reads
