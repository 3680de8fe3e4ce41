-- How the program converts the faults of the layers below.
use Rattle.std.specs.Prelude.{◌≡◌, ◌⊎◌, ℕ, ⊤, Bool, false, List, Option, Some, Result, Ok, Err, string_bytes}
use Rattle.spool_core.specs.declared.OpenFault.{OpenFault}
use Rattle.spool_core.specs.declared.OpenFault.TheVariants as opening
use Rattle.spool_engine.specs.declared.fault.RunFault.{RunFault}
use Rattle.spool_engine.specs.declared.fault.RunFault.TheVariants as run
use Rattle.std.specs.IoError.{error_kind}
use Rattle.std.specs.declared.fs.TryLockError.{TryLockError}
use Rattle.std.specs.declared.fs.TryLockError.TheVariants.{Error, WouldBlock}
use Rattle.std.specs.declared.io.ErrorKind.{ErrorKind}
use Rattle.std.specs.declared.io.ErrorKind.TheVariants.{FilesystemLoop, IsADirectory, NotADirectory, NotFound, OutOfMemory, PermissionDenied, QuotaExceeded, ReadOnlyFilesystem, StorageFull}
use Rattle.spool_runtime.specs.declared.fault.DiskCause.{DiskCause}
use Rattle.spool_runtime.specs.declared.fault.DiskCause.TheVariants.{Absent, Failed, NoFile, NoRoom, NotAllowed, Owned, OwnerUnknown, ReadOnly}
use Rattle.spool_runtime.specs.declared.fault.ShellFault.{ShellFault}
use Rattle.spool_runtime.specs.declared.fault.ShellFault.TheVariants.{Damaged, Disk, File, Memory, NotASpool, Read, Users, Write}

-- The disk was not opened as a spool.
abbrev pub of_opening : OpenFault → ShellFault
of_opening opening.NotASpool = NotASpool
of_opening (opening.Damaged place) = Damaged place
of_opening opening.Memory = Memory
of_opening opening.Disk = Disk Failed

-- The run ended before its text.
abbrev pub of_run : RunFault → ShellFault
of_run run.Read = Read
of_run run.Write = Write
of_run run.Memory = Memory

-- The cause that the kind of an error shows, of the folder or of its file.
abbrev pub cause_of : ErrorKind → DiskCause
cause_of NotFound = Absent
cause_of PermissionDenied = NotAllowed
cause_of ReadOnlyFilesystem = ReadOnly
cause_of StorageFull = NoRoom
cause_of QuotaExceeded = NoRoom
cause_of NotADirectory = NoFile
cause_of IsADirectory = NoFile
cause_of FilesystemLoop = NoFile
cause_of _ = Failed

-- A call on the folder or on its file failed with this kind of error.
abbrev pub of_error : ErrorKind → ShellFault
of_error OutOfMemory = Memory
of_error kind = Disk (cause_of kind)

-- The folder or its file cannot be locked.
abbrev pub of_lock : TryLockError → ShellFault
of_lock WouldBlock = Disk Owned
of_lock (Error error) = of_error (error_kind error)

-- The result of the second lock of a locked file, which must be refused.
abbrev pub kept_out : Result (Unit {0}) TryLockError → Result (Unit {0}) ShellFault
kept_out (Ok got) = Err (Disk OwnerUnknown)
kept_out (Err WouldBlock) = Ok tt
kept_out (Err fault) = Err (of_lock fault)

-- The folder or its file cannot be used, or memory ran out.
abbrev pub IsOfFolder : ShellFault → Type 0
IsOfFolder (Disk cause) = ⊤
IsOfFolder Memory = ⊤
IsOfFolder _ = ⊥

-- The children cannot run as the users of the arguments, the folder cannot be used, or memory ran out.
abbrev pub IsOfUsers : ShellFault → Type 0
IsOfUsers Users = ⊤
IsOfUsers fault = IsOfFolder fault

-- The file of this name cannot be read, and the fault names it, or memory ran out.
abbrev pub IsOfFile : Option (List ℕ) → ShellFault → Type 0
IsOfFile name Memory = ⊤
IsOfFile name (File told) = name ≡ Some (string_bytes told)
IsOfFile name _ = ⊥

-- The text of the file of this name is invalid, and the fault names the file, or memory ran out.
abbrev pub IsOfText : List ℕ → Bool → ShellFault → Type 0
IsOfText name read Memory = ⊤
IsOfText name read (File told) = (string_bytes told ≡ name) × (read ≡ false)
IsOfText name read _ = ⊥

-- A fault of one of three files.
abbrev pub IsOfFiles : Option (List ℕ) → Option (List ℕ) → Option (List ℕ) → ShellFault → Type 0
IsOfFiles types convs programs fault = IsOfFile types fault ⊎ IsOfFile convs fault ⊎ IsOfFile programs fault
