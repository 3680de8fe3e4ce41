-- The end of the tools.
use Rattle.std.specs.Prelude.{◌≡◌, ℕ, ◌⊎◌, ◌≤◌, List, [], ◌∷◌, ◌++◌, codes, Option, None, Some, Result, Ok, Err}
use Rattle.std.specs.String.{string_bytes}
use Rattle.std.specs.Io.KnownBytes.{Appends, Keeps}
use Rattle.whole_writes.specs.Writes.{WroteSome}
use Rattle.clean_texts.specs.CleanTexts.{clean_text}
use Rattle.system_reasons.specs.SystemReasons.{HasNoBracket}
use Rattle.builtin_stages.specs.Backends as backends
use Rattle.builtin_stages.specs.Filters.{FailsAsFilter, Filtered}
use Rattle.program_pipes.specs.ChainEnds.{chain_status, report_of}
use Rattle.builtin_stages.specs.declared.through.ThroughEnd.{ThroughEnd}
use Rattle.builtin_stages.specs.declared.through.ThroughEnd.TheVariants.{Failed, NotStarted, Ran}
use Rattle.builtin_stages.specs.ConnectionEnds.{connection_status, end_line}
use Rattle.builtin_stages.specs.declared.connection_ends.ConnectionEnd.{ConnectionEnd}
use Rattle.builtin_stages.specs.declared.network.Sending.{Sending}
use Rattle.builtin_stages.specs.ToolArguments.{Printed, Request, filter, backend, device_line, through, side_end, version}
use Rattle.builtin_stages.specs.declared.fault.ToolFault.{ToolFault}
use Rattle.builtin_stages.specs.declared.fault.ToolFault.TheVariants.{AfterLast, Chain, ChainFile, Connect, Device, Memory, Partner, Read, Reset, Side, WaitEof, Write}
use Rattle.builtin_stages.specs.declared.running.TheConstants.{VERSION_LINE}
use Rattle.builtin_stages.specs.declared.words.Backend.{Backend}
use Rattle.builtin_stages.specs.declared.words.Backend.TheVariants.{AppSocket, SpoolFile}
use Rattle.builtin_stages.specs.declared.words.Filter.{Filter}

-- ---- faults

abbrev pub message : ToolFault → List ℕ
message (Read error) = codes "cannot read"
message (ChainFile error) = codes "cannot read"
message Write = codes "cannot write"
message Device = codes "no device"
message Side = codes "no answer"
message Partner = codes "no partner"
message Connect = codes "cannot connect"
message Reset = codes "connection reset"
message WaitEof = codes "waiteof is not true or false"
message AfterLast = codes "afterlast is not done or retry"
message Chain = codes "no chain of programs"
message Memory = codes "out of memory"

-- The line that reports a fault on standard error (filter(7)), without the name of a file.
abbrev pub error_line : ToolFault → List ℕ
error_line fault = codes "ERROR: " ++ message fault ++ 10 ∷ []

-- This line was written, or as much of it as the writer accepted.
abbrev pub TellsLine : List ℕ → Option (List ℕ) → Option (List ℕ) → Type 0
TellsLine line old new = Appends old new line ⊎ WroteSome old new line

-- The line for a file that cannot be read: its name, and the system's reason.
abbrev pub named_line : List ℕ → List ℕ → List ℕ
named_line name reason = codes "ERROR: cannot read " ++ (name ++ (codes ": " ++ (reason ++ codes "\n")))

-- No character of the name steers.
abbrev pub unread_line : List ℕ → List ℕ → List ℕ
unread_line name reason = named_line (clean_text name) reason

-- The file and some reason were reported. A reason is words of the system without their number in brackets.
pub record TellsUnread (name : List ℕ) (old new : Option (List ℕ)) : Type 0 where
  pub reason : List ℕ
  pub words : HasNoBracket reason
  pub tells : TellsLine (unread_line name reason) old new

-- The line without a name and a reason was, because memory for them ran out.
abbrev pub TellsNameless : Option (List ℕ) → Option (List ℕ) → Type 0
TellsNameless old new = TellsLine (codes "ERROR: cannot read\n") old new

-- The fault of the file or the stream of this name was reported.
abbrev pub Tells : ToolFault → List ℕ → Option (List ℕ) → Option (List ℕ) → Type 0
Tells (Read error) name old new = TellsUnread name old new ⊎ TellsNameless old new
Tells (ChainFile error) name old new = TellsUnread name old new ⊎ TellsNameless old new
Tells fault name old new = TellsLine (error_line fault) old new

-- The exit status of a fault (backend(7)). If the printer cannot be reached, the job must be tried again later (6). If an option of the URI is
-- unknown, or a chain is none, the queue stops until it is corrected, and the job waits (4).
abbrev pub fault_status : ToolFault → ℕ
fault_status Connect = 6
fault_status (Read error) = 1
fault_status Write = 1
fault_status Device = 1
fault_status Side = 1
fault_status Partner = 1
fault_status Reset = 1
fault_status WaitEof = 4
fault_status AfterLast = 4
fault_status (ChainFile error) = 4
fault_status Chain = 4
fault_status Memory = 1

-- The requested status, or that of the fault.
abbrev pub status_of : Result ℕ ToolFault → ℕ
status_of (Ok status) = status
status_of (Err fault) = fault_status fault

-- The line of the end was written, which is empty for a document that was printed, or as much of it as the writer accepted, or nothing if
-- memory for it ran out.
abbrev pub TellsEnd : ConnectionEnd → List ℕ → ℕ → Option (List ℕ) → Option (List ℕ) → Type 0
TellsEnd end peer sent old new = Appends old new (end_line end peer sent) ⊎ WroteSome old new (end_line end peer sent) ⊎ Keeps old new

-- The end of a connection is reported with the printer's address and the number of bytes, or a fault of the document is reported.
abbrev pub SendingEnds : Result Sending ToolFault → List ℕ → Option (List ℕ) → Option (List ℕ) → ℕ → Type 0
SendingEnds (Ok s) name old new status = (status ≡ connection_status s.end) × TellsEnd s.end (string_bytes s.peer) s.sent old new
SendingEnds (Err fault) name old new status = (status ≡ fault_status fault) × Tells fault name old new

-- ---- the end of the program, by the request of its arguments

-- The known bytes of the document. Nothing is known of a file.
abbrev pub known_of : {A : Type 0} → Option A → Option (List ℕ) → Option (List ℕ)
known_of None input = input
known_of (Some name) input = None

-- The name of a document: that of its file.
abbrev pub document_name : Option (List ℕ) → List ℕ
document_name None = codes "standard input"
document_name (Some name) = name

-- A fault of a filter is reported, after the bytes that were written before it.
pub record FilterFails (name : List ℕ) (old new : Option (List ℕ)) (status : ℕ) : Type 0 where
  pub fault : ToolFault
  pub before : Option (List ℕ)
  pub ended : status ≡ 1
  pub fails : FailsAsFilter fault old before
  pub tells : Tells fault name before new

-- All copies are written and their pages reported, or a fault is.
abbrev pub FilterEnds : Filter → Printed → Option (List ℕ) → Option (List ℕ) → Option (List ℕ) → Option (List ℕ) → Option (List ℕ) → ℕ → Type 0
FilterEnds tool d input out_old out_new err_old err_new status =
    ((status ≡ 0) × Filtered tool d.copies (known_of d.file input) out_old out_new err_old err_new)
    ⊎ FilterFails (document_name d.file) err_old err_new status

-- A fault of the document is reported, and the status is that of the fault.
pub record TellsFault (name : List ℕ) (old new : Option (List ℕ)) (status : ℕ) : Type 0 where
  pub fault : ToolFault
  pub ended : status ≡ fault_status fault
  pub tells : Tells fault name old new

-- The end of a connection to some printer after some bytes is reported, and the status is that of the end.
pub record TellsConnection (old new : Option (List ℕ)) (status : ℕ) : Type 0 where
  pub end : ConnectionEnd
  pub peer : List ℕ
  pub sent : ℕ
  pub ended : status ≡ connection_status end
  pub tells : TellsEnd end peer sent old new

-- The line for a program that cannot be started.
unfoldable pub unstarted_line : List ℕ → List ℕ
unstarted_line name = codes "ERROR: cannot start " ++ name ++ 10 ∷ []

-- The text was written, or as much of it as the writer accepted, or nothing if memory for it ran out.
abbrev pub TellsText : List ℕ → Option (List ℕ) → Option (List ℕ) → Type 0
TellsText text old new = Appends old new text ⊎ WroteSome old new text ⊎ Keeps old new

-- All programs of a chain ran, their ends are reported, and the status is that of these ends. Or a program cannot be started, or there is
-- another fault of the file, and this is reported.
abbrev pub ReportsThrough : ThroughEnd → List ℕ → Option (List ℕ) → Option (List ℕ) → ℕ → Type 0
ReportsThrough (Ran end) file old new status = (status ≡ chain_status end) × TellsText (report_of end) old new
ReportsThrough (NotStarted name) file old new status = (status ≡ 1) × TellsText (unstarted_line name.now) old new
ReportsThrough (Failed fault) file old new status = (status ≡ fault_status fault) × Tells fault file old new

-- Some such end is reported.
pub record TellsThrough (file : List ℕ) (old new : Option (List ℕ)) (status : ℕ) : Type 0 where
  pub end : ThroughEnd
  pub reports : ReportsThrough end file old new status

-- A chain without a job lists no devices.
abbrev pub ThroughEnds : List ℕ → List (List ℕ) → Option (List ℕ) → Option (List ℕ) → ℕ → Type 0
ThroughEnds file [] old new status = (status ≡ 0) × Keeps old new
ThroughEnds file (word ∷ words) old new status = TellsThrough file old new status

-- Nothing is written on standard output. `spoolfile` and `appsocket` report their faults, the others do not. The document has this name.
abbrev pub BackendEnds : Backend → List ℕ → Option (List ℕ) → Option (List ℕ) → ℕ → Type 0
BackendEnds SpoolFile name err_old err_new status = Keeps err_old err_new ⊎ ((status ≡ 1) × Tells Write name err_old err_new)
BackendEnds AppSocket name err_old err_new status = TellsConnection err_old err_new status ⊎ TellsFault name err_old err_new status
BackendEnds _ name err_old err_new status = (status ≤ 1) × Keeps err_old err_new

-- The whole line is written, or the status is 1 and the line is truncated.
abbrev pub LineEnds : List ℕ → Option (List ℕ) → Option (List ℕ) → ℕ → Type 0
LineEnds line old new status = ((status ≡ 0) × Appends old new line) ⊎ ((status ≡ 1) × WroteSome old new line)

abbrev pub Ends : Option Request → Option (List ℕ) → Option (List ℕ) → Option (List ℕ) → Option (List ℕ) → Option (List ℕ) → ℕ → Type 0
Ends None input out_old out_new err_old err_new status =
    (status ≡ 1) × Keeps out_old out_new × Keeps err_old err_new
Ends (Some (filter tool d)) input out_old out_new err_old err_new status =
    FilterEnds tool d input out_old out_new err_old err_new status
Ends (Some (backend tool d)) input out_old out_new err_old err_new status =
    Keeps out_old out_new × BackendEnds tool (document_name d.file) err_old err_new status
Ends (Some (device_line tool)) input out_old out_new err_old err_new status =
    LineEnds (backends.device_line tool) out_old out_new status × Keeps err_old err_new
Ends (Some (through file words)) input out_old out_new err_old err_new status =
    Keeps out_old out_new × ThroughEnds file words err_old err_new status
Ends (Some (side_end socket)) input out_old out_new err_old err_new status =
    (status ≤ 1) × Keeps out_old out_new × Keeps err_old err_new
Ends (Some version) input out_old out_new err_old err_new status =
    LineEnds VERSION_LINE.now out_old out_new status × Keeps err_old err_new
