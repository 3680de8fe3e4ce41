-- The lines so far were printed.
use Rattle.std.proofs.Common.{map, take}
use Rattle.spool_runtime.specs.DeviceLines.{PrintsDevices}
use Rattle.spool_runtime.proofs.device_lines.print_lines.Given as goal

abbrev pub invariant-loop-line : goal.invariant-loop-line
invariant-loop-line g l = PrintsDevices (map (λ line. line.now) (take l.line-index l.line-items)) (g.W.Write.contents l.initial.writer) (g.W.Write.contents l.writer)
