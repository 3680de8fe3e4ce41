-- The requests of the messages of clients, and the statuses of messages with a fault.
use Prim.Native.String.{String}
use Rattle.std.specs.Prelude.{◌≡◌, ℕ, pos, List, [], ◌∷◌, true, false, map, codes, Option, Some, None, Result, Ok, Err}
use Rattle.ipp_names.specs.declared.statuses.Status.{Status}
use Rattle.ipp_names.specs.declared.statuses.Status.TheVariants as statuses
use Rattle.ipp_values.specs.declared.message.Message.{Message}
use Rattle.ipp_values.specs.declared.message.Attribute.{Attribute}
use Rattle.ipp_values.specs.declared.value.Value.{Value}
use Rattle.ipp_values.specs.declared.value.Value.TheVariants.{Charset, Integer, Keyword, Name, Uri}
use Rattle.ipp_requests.specs.declared.actions.Action.{Action}
use Rattle.ipp_requests.specs.declared.actions.Action.TheVariants as action
use Rattle.ipp_requests.specs.declared.actions.Document.{Document}
use Rattle.ipp_requests.specs.declared.actions.JobListing.{JobListing}
use Rattle.ipp_requests.specs.declared.actions.NewJob.{NewJob}
use Rattle.ipp_requests.specs.declared.actions.PrinterChange.TheVariants.{Pause, Resume, Accept, Reject}
use Rattle.ipp_requests.specs.declared.request.Request.{Request}
use Rattle.ipp_requests.specs.declared.targets.JobTarget.{JobTarget}
use Rattle.ipp_requests.specs.declared.targets.JobTarget.TheVariants.{Number, NumberOf}
use Rattle.ipp_requests.specs.declared.targets.Printer.{Printer}
use Rattle.ipp_requests.specs.declared.targets.Printer.TheVariants.{Default, Named}
use Rattle.ipp_requests.specs.declared.targets.Printers.{Printers}
use Rattle.ipp_requests.specs.declared.targets.Printers.TheVariants.{All, One}
use Rattle.ipp_requests.specs.declared.which_jobs.WhichJobs.{WhichJobs}
use Rattle.ipp_requests.specs.declared.which_jobs.WhichJobs.TheVariants as which
use Rattle.ipp_requests.specs.IppRequests.{request_of}
use Rattle.ipp_requests.specs.IppTargets.{job_in, printers_in}
use Rattle.ipp_examples.specs.ClientMessages as sent
use Rattle.ipp_examples.specs.ClientMessages.{attribute, charset, job_group, keyword, language, message, operation_group, user}

-- ## Notation

abbrev pub requests : List Message → List (Result Request Status)
requests messages = map request_of messages

-- A request of the user root.
abbrev pub by_root : Action → Result Request Status
by_root it = Ok (record { user = Some (codes "root"); action = it })

abbrev pub by_nobody : Action → Result Request Status
by_nobody it = Ok (record { user = None; action = it })

abbrev pub q : Printer
q = Named (codes "q")

abbrev pub text : String → Option (List ℕ)
text it = Some (codes it)

abbrev pub asked : List String → Option (List Value)
asked names = Some (map keyword names)

abbrev pub unnamed : Document
unnamed = record { name = None; format = None }

abbrev pub sample : Document
sample = record { name = text "letter.txt"; format = text "text/plain" }

-- ## lp(1)

abbrev pub sent_document : Document
sent_document = record { name = text "doc.txt"; format = text "application/octet-stream" }

abbrev pub LpRows : Type 0
LpRows =
    requests (sent.lp_creates ∷ sent.lp_sends_first ∷ sent.lp_sends_last ∷ sent.lp_looks ∷ sent.lp_releases ∷ [])
    ≡ by_root (action.CreateJob (record { printer = q; name = text "A title"; is_exact = false; document = unnamed }))
    ∷ by_root (action.SendDocument (record { job = NumberOf (One q) 7; document = sent_document; is_last = false }))
    ∷ by_root (action.SendDocument (record { job = NumberOf (One q) 7; document = sent_document; is_last = true }))
    ∷ by_root (action.GetPrinterAttributes q (asked ("job-template" ∷ "media-col-database" ∷ "printer-description" ∷ [])))
    ∷ by_root (action.SetJobAttributes (Number 7) (keyword "no-hold" ∷ []))
    ∷ []

-- ## lpstat(1)

abbrev pub listing : Printers → WhichJobs → Option (List Value) → JobListing
listing printers which requested = record { printers = printers; which = which; mine = false; limit = None; first_index = None; first_job = None; ids = None; requested = requested }

abbrev pub of_jobs : List String
of_jobs = "job-id" ∷ "job-k-octets" ∷ "job-name" ∷ "job-originating-user-name" ∷ "job-printer-state-message" ∷ "job-printer-uri" ∷ "job-state-reasons" ∷ "time-at-creation" ∷ "time-at-completed" ∷ []

abbrev pub LpstatRows : Type 0
LpstatRows =
    requests (sent.lpstat_default ∷ sent.lpstat_printers ∷ sent.lpstat_classes ∷ sent.lpstat_waiting ∷ sent.lpstat_ended ∷ [])
    ≡ by_nobody (action.GetDefault None)
    ∷ by_root (action.GetPrinters (record { limit = None; first = None; requested = asked ("printer-name" ∷ "printer-uri-supported" ∷ "device-uri" ∷ []) }))
    ∷ by_root (action.GetClasses (record { limit = None; first = None; requested = asked ("printer-name" ∷ "printer-uri-supported" ∷ "member-names" ∷ []) }))
    ∷ by_root (action.GetJobs (listing All which.NotCompleted (asked of_jobs)))
    ∷ by_root (action.GetJobs (listing All which.Completed (asked of_jobs)))
    ∷ []

-- ## cancel(1)

abbrev pub CancelRows : Type 0
CancelRows =
    requests (sent.cancel_one ∷ sent.cancel_all ∷ sent.cancel_mine ∷ sent.cancel_and_purge ∷ [])
    ≡ by_root (action.CancelJob (Number 7) false)
    ∷ by_root (action.CancelJobs (record { printers = One q; mine = false; purges = false; ids = None }))
    ∷ Ok (record { user = text "bo"; action = action.CancelMyJobs (record { printers = One q; mine = true; purges = false; ids = None }) })
    ∷ by_root (action.CancelJob (Number 7) true)
    ∷ []

-- ## cupsdisable(8), cupsenable(8), cupsreject(8), cupsaccept(8)

abbrev pub PrinterRows : Type 0
PrinterRows =
    requests (sent.disables ∷ sent.enables ∷ sent.rejects ∷ sent.accepts ∷ [])
    ≡ by_root (action.ChangePrinter Pause q)
    ∷ by_root (action.ChangePrinter Resume q)
    ∷ by_root (action.ChangePrinter Reject q)
    ∷ by_root (action.ChangePrinter Accept q)
    ∷ []

-- ## ipptool(1)

abbrev pub printed : NewJob
printed = record { printer = q; name = text "letter.txt"; is_exact = false; document = sample }

abbrev pub ToolRows : Type 0
ToolRows =
    requests (sent.prints ∷ sent.validates ∷ sent.closes ∷ sent.holds ∷ sent.releases ∷ sent.purges ∷ sent.opens_printer ∷ sent.closes_printer ∷ sent.identifies ∷ [])
    ≡ by_root (action.PrintJob printed)
    ∷ by_root (action.ValidateJob printed)
    ∷ by_root (action.CloseJob (NumberOf (One q) 7))
    ∷ by_root (action.HoldJob (NumberOf (One q) 7) None)
    ∷ by_root (action.ReleaseJob (NumberOf (One q) 7))
    ∷ by_root (action.PurgeJobs (record { printers = One q; mine = false; purges = false; ids = None }))
    ∷ by_root (action.ChangePrinter Accept q)
    ∷ by_root (action.ChangePrinter Reject q)
    ∷ by_root (action.IdentifyPrinter q (asked ("sound" ∷ [])) None)
    ∷ []

abbrev pub QuestionRows : Type 0
QuestionRows =
    requests (sent.lists_mine ∷ sent.lists_one ∷ sent.asks_by_number ∷ [])
    ≡ by_root (action.GetJobs (record { printers = One q; which = which.NotCompleted; mine = true; limit = None; first_index = None; first_job = None; ids = None; requested = None }))
    ∷ by_root (action.GetJobs (record { printers = One q; which = which.NotCompleted; mine = false; limit = Some 1; first_index = None; first_job = None; ids = None; requested = asked ("job-id" ∷ "job-state" ∷ []) }))
    ∷ by_root (action.GetJobAttributes (NumberOf (One q) 7) None)
    ∷ []

-- ## Faults that ipptool(1) sends

abbrev pub ToolFaultRows : Type 0
ToolFaultRows =
    requests (sent.of_version_zero ∷ sent.with_number_zero ∷ sent.without_attributes ∷ sent.without_language ∷ sent.without_charset ∷ sent.in_other_order ∷ sent.without_target ∷ sent.prints_uri ∷ sent.asks_by_uri ∷ [])
    ≡ Err statuses.VersionNotSupported
    ∷ Err statuses.BadRequest
    ∷ Err statuses.BadRequest
    ∷ Err statuses.BadRequest
    ∷ Err statuses.BadRequest
    ∷ Err statuses.BadRequest
    ∷ Err statuses.BadRequest
    ∷ Err statuses.OperationNotSupported
    ∷ Err statuses.NotFound
    ∷ []

-- ## Other faults

abbrev pub printer_uri : Attribute
printer_uri = attribute "printer-uri" (Uri (codes "ipp://localhost/printers/q"))

-- A message of this version, with this operation, request-id and operation attributes.
abbrev pub answered : ℕ → ℕ → ℕ → List Attribute → Result Request Status
answered major code id attributes = request_of (message major 0 code id (operation_group attributes ∷ []))

-- The first fault decides: version, request-id, charset and language, a name that occurs twice, target, charset, operation.
abbrev pub OrderRows : Type 0
OrderRows =
    answered 3 0x0003 0 []
    ∷ answered 2 0x0003 0 (charset ∷ language ∷ [])
    ∷ answered 2 0x0003 1 (charset ∷ user "a" ∷ [])
    ∷ answered 2 0x000b 1 (charset ∷ language ∷ user "a" ∷ user "a" ∷ printer_uri ∷ [])
    ∷ answered 2 0x000b 1 (attribute "attributes-charset" (Charset (codes "utf-16")) ∷ language ∷ [])
    ∷ answered 2 0x0003 1 (attribute "attributes-charset" (Charset (codes "utf-16")) ∷ language ∷ [])
    ∷ answered 2 0x0003 1 (charset ∷ language ∷ [])
    ∷ []
    ≡ Err statuses.VersionNotSupported
    ∷ Err statuses.BadRequest
    ∷ Err statuses.BadRequest
    ∷ Err statuses.BadRequest
    ∷ Err statuses.BadRequest
    ∷ Err statuses.CharsetNotSupported
    ∷ Err statuses.OperationNotSupported
    ∷ []

abbrev pub answered_more : ℕ → List Attribute → Result Request Status
answered_more code attributes = answered 1 code 1 (charset ∷ language ∷ printer_uri ∷ attributes)

abbrev pub ValueRows : Type 0
ValueRows =
    answered_more 0x0002 (attribute "compression" (Keyword (codes "gzip")) ∷ [])
    ∷ answered_more 0x0006 (attribute "job-id" (Integer (pos 7)) ∷ [])
    ∷ answered_more 0x000a (attribute "which-jobs" (Keyword (codes "fetchable")) ∷ [])
    ∷ answered_more 0x000a (attribute "limit" (Integer (pos 0)) ∷ [])
    ∷ answered_more 0x000a (attribute "my-jobs" (Keyword (codes "true")) ∷ [])
    ∷ answered_more 0x000b (attribute "requested-attributes" (Name (codes "all")) ∷ [])
    ∷ []
    ≡ Err statuses.CompressionNotSupported
    ∷ Err statuses.BadRequest
    ∷ Err statuses.AttributesOrValuesNotSupported
    ∷ Err statuses.BadRequest
    ∷ Err statuses.BadRequest
    ∷ Err statuses.BadRequest
    ∷ []

-- Only job-hold-until can be set.
abbrev pub setting : Attribute → Result Request Status
setting it = request_of (message 2 0 0x0014 1 (operation_group (charset ∷ language ∷ attribute "job-uri" (Uri (codes "ipp://localhost/jobs/7")) ∷ []) ∷ job_group (it ∷ []) ∷ []))

abbrev pub SettingRows : Type 0
SettingRows =
    setting (attribute "job-hold-until" (Keyword (codes "indefinite"))) ∷ setting (attribute "job-priority" (Integer (pos 1))) ∷ []
    ≡ by_nobody (action.SetJobAttributes (Number 7) (keyword "indefinite" ∷ [])) ∷ Err statuses.AttributesOrValuesNotSupported ∷ []

-- ## URIs

abbrev pub printers : String → Result Printers Status
printers uri = printers_in (codes uri)

abbrev pub PrinterUriRows : Type 0
PrinterUriRows =
    printers "ipp://localhost/printers/q" ∷ printers "ipps://h:8631/printers/a_b-C9" ∷ printers "http://[::1]:631/" ∷ printers "ipp://localhost" ∷ printers "ipp://localhost/printers/"
    ∷ printers "ipp://h/ipp/print" ∷ printers "ipp://h/ipp/print/q" ∷ printers "ipp://h/printers/q/" ∷ printers "ipp://h/printers/a.b" ∷ printers "ipp://h/jobs/7" ∷ printers "ipp:/printers/q" ∷ printers "ftp://h/printers/q" ∷ printers "q" ∷ printers "" ∷ []
    ≡ Ok (One q) ∷ Ok (One (Named (codes "a_b-C9"))) ∷ Ok All ∷ Ok All ∷ Ok All
    ∷ Ok (One Default) ∷ Ok (One q) ∷ Err statuses.NotFound ∷ Err statuses.NotFound ∷ Err statuses.NotFound ∷ Err statuses.BadRequest ∷ Err statuses.BadRequest ∷ Err statuses.BadRequest ∷ Err statuses.BadRequest ∷ []

abbrev pub jobs : String → Result JobTarget Status
jobs uri = job_in (codes uri)

abbrev pub JobUriRows : Type 0
JobUriRows =
    jobs "ipp://localhost:631/jobs/7" ∷ jobs "ipp://localhost/jobs/2147483647" ∷ jobs "ipp://localhost/jobs/2147483648" ∷ jobs "ipp://localhost/jobs/0" ∷ jobs "ipp://localhost/jobs/7/" ∷ jobs "ipp://localhost/jobs/" ∷ jobs "ipp://localhost/printers/7" ∷ jobs "/jobs/7" ∷ []
    ≡ Ok (Number 7) ∷ Ok (Number 2147483647) ∷ Err statuses.NotFound ∷ Err statuses.NotFound ∷ Err statuses.NotFound ∷ Err statuses.NotFound ∷ Err statuses.NotFound ∷ Err statuses.BadRequest ∷ []
