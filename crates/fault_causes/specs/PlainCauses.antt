-- The causes that a fault alone shows, over the spool in a folder.
use Rattle.std.specs.Prelude.{ℕ, ◌++◌, List, Option, None, Some, codes}
use Rattle.std.specs.Fmt.{decimal}
use Rattle.spool_runtime.specs.declared.fault.ShellFault.{ShellFault}
use Rattle.spool_runtime.specs.declared.fault.ShellFault.TheVariants.{Damaged, Ignored, NotASpool, Read, Write}

abbrev pub plain_cause : List ℕ → ShellFault → Option (List ℕ)
plain_cause dir NotASpool = Some (dir ++ codes "/spool.disk is not a spool (restore it, or move it away to start with a new one)")
plain_cause dir (Damaged place) = Some (dir ++ (codes "/spool.disk has data at byte " ++ (decimal place ++ codes " that no spooler writes (restore it from a copy)")))
plain_cause dir Ignored = Some (codes "the signal SIGCHLD is ignored, so the ends of children cannot be known (start the program with env --default-signal=CHLD)")
plain_cause dir Read = Some (codes "standard input cannot be read (commands without a reply were not executed)")
plain_cause dir Write = Some (codes "standard output cannot be written")
plain_cause dir fault = None
