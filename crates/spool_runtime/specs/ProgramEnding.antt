-- How a program of a spool ends.
use Rattle.std.specs.Prelude.{◌≡◌, ◌≢◌, ◌⊎◌, ℕ, Bool, true, false, Result, Ok, Err}
use Rattle.clap.specs.Words.{kind_of}
use Rattle.clap.specs.declared.error.kind.ErrorKind.{ErrorKind}
use Rattle.clap.specs.declared.error.kind.ErrorKind.TheVariants.{DisplayHelp, DisplayVersion}
use Rattle.spool_engine.specs.declared.fault.RunFault.{RunFault}
use Rattle.spool_runtime.specs.ProgramFaults.{of_run}
use Rattle.spool_runtime.specs.declared.fault.DiskCause.TheVariants.{Failed}
use Rattle.spool_runtime.specs.declared.fault.ShellFault.{ShellFault}
use Rattle.spool_runtime.specs.declared.fault.ShellFault.TheVariants.{Disk}
use Rattle.spool_runtime.specs.declared.options.WordsFault.{WordsFault}
use Rattle.spool_runtime.specs.declared.options.WordsFault.TheVariants.{Refused, Memory}

-- The result of the program for the end of a run, over a spool that has failed or has not. A run over a failed disk
-- answers all commands, and still ends with a fault.
abbrev pub ending_of : Result (Unit {0}) RunFault → Bool → Result (Unit {0}) ShellFault
ending_of (Ok done) false = Ok tt
ending_of (Ok done) true = Err (Disk Failed)
ending_of (Err fault) dead = Err (of_run fault)

-- ---- statuses

-- The status for arguments that clap refuses with this kind of error: 0 if they ask for help.
pub record IsRefusal (kind : ErrorKind) (status : ℕ) : Type 0 where
  pub shown : (kind ≡ DisplayHelp) ⊎ (kind ≡ DisplayVersion) → status ≡ 0
  pub mistake : kind ≢ DisplayHelp → kind ≢ DisplayVersion → status ≡ 2

-- The status for arguments that cannot be used.
abbrev pub IsWordsStatus : WordsFault → ℕ → Type 0
IsWordsStatus (Refused error) status = IsRefusal (kind_of error) status
IsWordsStatus Memory status = status ≡ 1
