-- Why tasks fail, and their exit statuses.
use Rattle.std.specs.Prelude.{◌≡◌, ℕ, Bool, true, false, List, [], codes, Option, None, Some, Result, Ok, Err, String, alloc_error, string_bytes}
use Rattle.std.specs.Global.{Global}
use Rattle.std.specs.declared.alloc.AllocError.{AllocError}
use Rattle.std.specs.declared.env.VarError.{VarError}
use Rattle.std.specs.declared.env.VarError.TheVariants as told
use Rattle.std.specs.declared.io.ErrorKind.{ErrorKind}
use Rattle.std.specs.declared.io.ErrorKind.TheVariants.{OutOfMemory, NotFound, ConnectionRefused, PermissionDenied}
use Rattle.service_client.specs.declared.connection.ConnectionFault.{ConnectionFault}
use Rattle.service_client.specs.declared.connection.ConnectionFault.TheVariants as connection
use Rattle.spool_front.specs.declared.fault.Fault.{Fault}
use Rattle.spool_front.specs.declared.fault.Fault.TheVariants.{Memory, Nobody, Busy, Gone, Unknown, Write, File, Named}

-- The status is 3 if it is unknown whether the task was done, and otherwise 1: it was not done.
abbrev pub status_of : Fault → ℕ
status_of Unknown = 3
status_of fault = 1

-- The status after help, the version or an error of the command line was printed.
abbrev pub status_after : Bool → ℕ → ℕ
status_after true refused = refused
status_after false refused = 0

-- The fault of a failed call on the connection.
abbrev pub lost_by : ErrorKind → ConnectionFault
lost_by OutOfMemory = connection.Memory
lost_by kind = connection.Lost

-- The fault of a failed call on standard output or standard error.
abbrev pub unwritten_by : ErrorKind → Fault
unwritten_by OutOfMemory = Memory
unwritten_by kind = Write

-- The fault if the connection fails while waiting for lines from the service.
abbrev pub gone_by : ConnectionFault → Fault
gone_by connection.Lost = Gone
gone_by connection.Memory = Memory

abbrev pub IsFile : String Global → Fault → Type 0
IsFile name (File file why) = file ≡ name
IsFile name fault = ⊥

-- The fault of a file that cannot be read, with the system's reason.
abbrev pub IsUnreadBy : ErrorKind → String Global → Fault → Type 0
IsUnreadBy OutOfMemory name fault = fault ≡ Memory
IsUnreadBy kind name fault = IsFile name fault

-- What to do if a service cannot be reached.
abbrev pub hint_for : ErrorKind → List ℕ
hint_for NotFound = codes " (is cegmandi running? systemctl status cegmandi)"
hint_for ConnectionRefused = codes " (is cegmandi running? systemctl status cegmandi)"
hint_for PermissionDenied = codes " (may this user use the socket? ls -l)"
hint_for kind = []

-- A variable, which is `None` if it is not set or is not valid UTF-8.
abbrev pub variable_as : {T : Type 0} → Result T VarError → Result (Option T) AllocError
variable_as (Ok text) = Ok (Some text)
variable_as (Err told.OutOfMemory) = Err alloc_error
variable_as (Err fault) = Ok None

-- No service can be reached at this socket.
abbrev pub IsNobodyAt : List ℕ → Fault → Type 0
IsNobodyAt socket (Nobody name why) = string_bytes name ≡ socket
IsNobodyAt socket fault = ⊥

-- The task cannot be done for this name.
abbrev pub IsNamed : List ℕ → List ℕ → Fault → Type 0
IsNamed words text (Named what name) = (what.now ≡ words) × (string_bytes name ≡ text)
IsNamed words text fault = ⊥

-- The service at this socket is busy.
abbrev pub IsBusyAt : List ℕ → Fault → Type 0
IsBusyAt socket fault = (name : String Global) × (fault ≡ Busy name) × (string_bytes name ≡ socket)
