-- The faults of the parts of the start.
use Rattle.std.specs.Prelude.{◌≡◌, ℕ, ⊤, List, Result, Ok, Err, string_bytes}
use Rattle.std.specs.IoError.{error_kind}
use Rattle.std.specs.declared.io.Error.{Error}
use Rattle.spool_runtime.specs.declared.fault.DiskCause.TheVariants.{Failed}
use Rattle.spool_runtime.specs.declared.fault.ShellFault.{ShellFault}
use Rattle.spool_runtime.specs.declared.fault.ShellFault.TheVariants.{Disk, File, Memory, Socket, Users}
use Rattle.spool_service.specs.Start.{at_socket}
use Rattle.spool_service.specs.declared.proving.FolderFault.{FolderFault}
use Rattle.spool_service.specs.declared.proving.FolderFault.TheVariants as folder

-- A user of the arguments cannot be used, or memory ran out.
abbrev pub IsOfNames : ShellFault → Type 0
IsOfNames Users = ⊤
IsOfNames Memory = ⊤
IsOfNames _ = ⊥

-- A socket cannot be listened on, or memory ran out.
abbrev pub IsOfSocket : ShellFault → Type 0
IsOfSocket Socket = ⊤
IsOfSocket Memory = ⊤
IsOfSocket _ = ⊥

-- The result of a call on a socket.
abbrev pub opened : {T : Type 0} → Result T Error → Result T ShellFault
opened (Ok value) = Ok value
opened (Err error) = Err (at_socket (error_kind error))

-- The name of the folder of proofs belongs to something else, and the fault has this name, or memory ran out.
abbrev pub IsOfProofs : List ℕ → ShellFault → Type 0
IsOfProofs name (File told) = string_bytes told ≡ name
IsOfProofs name Memory = ⊤
IsOfProofs name _ = ⊥

-- What clients connect to cannot be made.
abbrev pub IsOfListening : List ℕ → ShellFault → Type 0
IsOfListening proofs (File told) = string_bytes told ≡ proofs
IsOfListening proofs fault = IsOfSocket fault

-- The disk failed, or memory ran out.
abbrev pub IsOfDevice : ShellFault → Type 0
IsOfDevice (Disk Failed) = ⊤
IsOfDevice Memory = ⊤
IsOfDevice _ = ⊥

-- The clients cannot be served, or no longer.
abbrev pub IsOfServing : List ℕ → ShellFault → Type 0
IsOfServing proofs (Disk Failed) = ⊤
IsOfServing proofs fault = IsOfListening proofs fault

-- A call on the folder failed: its name is not taken by something else.
abbrev pub IsOfCall : FolderFault → Type 0
IsOfCall folder.Foreign = ⊥
IsOfCall _ = ⊤
