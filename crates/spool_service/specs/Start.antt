-- The start of the service, and its end.
use Rattle.std.specs.Prelude.{ℕ, ◌*◌, ◌++◌, min, List, [], Option, None, Some, Result, Ok, Err, codes}
use Rattle.std.specs.Borrow.{Bor}
use Rattle.std.specs.declared.io.ErrorKind.{ErrorKind}
use Rattle.std.specs.declared.io.ErrorKind.TheVariants.{InvalidInput, NotFound, OutOfMemory}
use Rattle.service_loop.specs.declared.service.Keeping.{Keeping}
use Rattle.service_loop.specs.declared.fault.ServiceFault.{ServiceFault}
use Rattle.service_loop.specs.declared.fault.ServiceFault.TheVariants as service
use Rattle.spool_areas.specs.Header.{half}
use Rattle.spool_runtime.specs.declared.fault.DiskCause.TheVariants.{Failed}
use Rattle.spool_runtime.specs.declared.fault.ShellFault.{ShellFault}
use Rattle.spool_runtime.specs.declared.fault.ShellFault.TheVariants.{Disk, Memory, Socket}

-- The file of the spool's disk in DIR.
abbrev pub disk_of : List ℕ → List ℕ
disk_of root = root ++ codes "/spool.disk"

-- The settings of maintenance over a disk of `size` bytes. Each area has half of them.
abbrev pub keeping_of : ℕ → ℕ → ℕ → ℕ → Keeping
keeping_of keep room incoming size = record { jobs = keep; room = room; area = half size; incoming = min (incoming * 1000) 18446744073709551615 }

-- SOCKET, or the socket in DIR.
abbrev pub socket_of : List ℕ → Option (Bor (List ℕ)) → List ℕ
socket_of root None = root ++ codes "/spool.sock"
socket_of root (Some socket) = socket.now

-- The end of the program for each end of the loop.
abbrev pub told_of : Result (Unit {0}) ServiceFault → Result (Unit {0}) ShellFault
told_of (Ok ended) = Ok ended
told_of (Err service.Memory) = Err Memory
told_of (Err service.Disk) = Err (Disk Failed)
told_of (Err service.Socket) = Err Socket

-- The fault if the socket cannot be created.
abbrev pub at_socket : ErrorKind → ShellFault
at_socket OutOfMemory = Memory
at_socket _ = Socket

-- What to do if a socket cannot be listened on.
abbrev pub hint_for : ErrorKind → List ℕ
hint_for NotFound = codes " (does the folder of the socket exist?)"
hint_for InvalidInput = codes " (the path of a socket has at most 107 bytes)"
hint_for kind = []

-- FOLDER, or the folder of proofs in DIR.
abbrev pub proofs_of : List ℕ → Option (Bor (List ℕ)) → List ℕ
proofs_of root None = root ++ codes "/proof"
proofs_of root (Some folder) = folder.now

-- The permissions of the operators' socket: 0660 with the group of the arguments, and 0600 without one.
abbrev pub operators_mode : Option ℕ → ℕ
operators_mode None = 384
operators_mode (Some group) = 432
