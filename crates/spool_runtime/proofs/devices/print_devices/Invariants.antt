-- The output of the backends so far was printed.
use Rattle.std.proofs.Common.{take}
use Rattle.spool_runtime.specs.DeviceLines.{PrintsTold}
use Rattle.spool_runtime.proofs.devices.print_devices.Given as goal

abbrev pub invariant-loop-backend : goal.invariant-loop-backend
invariant-loop-backend g l =
    PrintsTold (g.D.Discovery.tells l.initial.discovery) (take l.backend-index l.backend-items) (g.W.Write.contents l.initial.writer) (g.W.Write.contents l.writer)
