use Rattle.std.proofs.Common.{◌≤◌, ◌-◌}
use Rattle.side_channel.specs.Streams.{SkipsData}
use Rattle.side_channel.proofs.packets.skip.Given as goal

abbrev pub invariant-pieces : goal.invariant-pieces
invariant-pieces g l = record {
  within : l.left ≤ l.length;
  skipped : SkipsData (g.R.Read.remaining l.initial.reader) (g.R.Read.remaining l.reader) (l.length - l.left);
  reads : l.reads ≤ l.initial.reads;
}

abbrev pub decreases-pieces : goal.decreases-pieces
decreases-pieces g l = l.left
