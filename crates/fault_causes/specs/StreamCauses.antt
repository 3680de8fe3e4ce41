-- The cause of a fault of a standard stream, with the system's reason.
use Rattle.std.specs.Prelude.{ℕ, ◌++◌, List, Option, None, Some, codes}
use Rattle.std.specs.declared.io.Error.{Error}
use Rattle.spool_runtime.specs.declared.fault.ShellFault.{ShellFault}
use Rattle.spool_runtime.specs.declared.fault.ShellFault.TheVariants.{Read, Write}
use Rattle.fault_causes.specs.declared.streams.StreamErrors.{StreamErrors}

-- The error of the stream that a fault is about.
abbrev pub stream_error : StreamErrors → ShellFault → Option Error
stream_error errors Read = errors.input
stream_error errors Write = errors.output
stream_error errors fault = None

-- The cause with a reason.
abbrev pub stream_cause : ShellFault → List ℕ → Option (List ℕ)
stream_cause Read reason = Some (codes "standard input cannot be read: " ++ (reason ++ codes " (commands without a reply were not executed)"))
stream_cause Write reason = Some (codes "standard output cannot be written: " ++ reason)
stream_cause fault reason = None
