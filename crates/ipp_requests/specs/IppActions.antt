-- The action of a request, by its operation. The first fault decides.
use Rattle.std.specs.Prelude.{ℕ, Bool, true, false, cond, List, [], find, codes, Option, Some, None, Result, Ok, Err}
use Rattle.std.specs.List.{list_all}
use Rattle.ipp_names.specs.declared.operations.Operation.{Operation}
use Rattle.ipp_names.specs.declared.operations.Operation.TheVariants as operation
use Rattle.ipp_names.specs.declared.statuses.Status.{Status}
use Rattle.ipp_names.specs.declared.statuses.Status.TheVariants.{AttributesOrValuesNotSupported, CompressionNotSupported}
use Rattle.ipp_values.specs.declared.message.Message.{Message}
use Rattle.ipp_values.specs.declared.message.Group.{Group}
use Rattle.ipp_values.specs.declared.message.Attribute.{Attribute}
use Rattle.ipp_values.specs.declared.value.Value.{Value}
use Rattle.ipp_values.specs.declared.tags.GroupTag.TheVariants as tags
use Rattle.ipp_values.specs.Messages.{has_tag, is_named}
use Rattle.ipp_requests.specs.declared.syntax.Syntax.TheVariants.{Keyword, MimeMediaType, Name, Text}
use Rattle.ipp_requests.specs.declared.which_jobs.WhichJobs.{WhichJobs}
use Rattle.ipp_requests.specs.declared.which_jobs.WhichJobs.TheVariants as which
use Rattle.ipp_requests.specs.declared.actions.Document.{Document}
use Rattle.ipp_requests.specs.declared.actions.NewJob.{NewJob}
use Rattle.ipp_requests.specs.declared.actions.NewDocument.{NewDocument}
use Rattle.ipp_requests.specs.declared.actions.JobListing.{JobListing}
use Rattle.ipp_requests.specs.declared.actions.JobSelection.{JobSelection}
use Rattle.ipp_requests.specs.declared.actions.PrinterListing.{PrinterListing}
use Rattle.ipp_requests.specs.declared.actions.PrinterChange.{PrinterChange}
use Rattle.ipp_requests.specs.declared.actions.PrinterChange.TheVariants.{Pause, Resume, Accept, Reject}
use Rattle.ipp_requests.specs.declared.actions.Action.{Action}
use Rattle.ipp_requests.specs.declared.actions.Action.TheVariants as action
use Rattle.ipp_requests.specs.IppAttributes.{◌>>=◌, boolean_at, keywords_at, number_at, numbers_at, text_at, values_at}
use Rattle.ipp_requests.specs.IppTargets.{given, is_word, job_of, printer_of, printers_of}

-- ## Parts

-- false without the attribute.
abbrev pub or_false : Option Bool → Bool
or_false None = false
or_false (Some b) = b

abbrev pub flag_at : List ℕ → List Attribute → Result Bool Status
flag_at name attributes = do
  flag ← boolean_at name attributes
  Ok (or_false flag)

abbrev pub requested_of : List Attribute → Result (Option (List Value)) Status
requested_of attributes = keywords_at (codes "requested-attributes") attributes

-- No compression is supported.
abbrev pub is_plain : Option (List ℕ) → Bool
is_plain None = true
is_plain (Some how) = is_word how (codes "none")

abbrev pub uncompressed : Option (List ℕ) → Document → Result Document Status
uncompressed how document = cond (is_plain how) (Ok document) (Err CompressionNotSupported)

abbrev pub document_of : List Attribute → Result Document Status
document_of attributes = do
  how ← text_at Keyword (codes "compression") attributes
  name ← text_at Name (codes "document-name") attributes
  format ← text_at MimeMediaType (codes "document-format") attributes
  uncompressed how (record { name = name; format = format })

abbrev pub new_job_of : List Attribute → Result NewJob Status
new_job_of attributes = do
  printer ← printer_of attributes
  exact ← flag_at (codes "ipp-attribute-fidelity") attributes
  name ← text_at Name (codes "job-name") attributes
  document ← document_of attributes
  Ok (record { printer = printer; name = name; is_exact = exact; document = document })

-- Send-Document must say whether the document is the last one (RFC 8011 4.3.1.1).
abbrev pub new_document_of : List Attribute → Result NewDocument Status
new_document_of attributes = do
  job ← job_of attributes
  last ← boolean_at (codes "last-document") attributes
  last ← given last
  document ← document_of attributes
  Ok (record { job = job; document = document; is_last = last })

-- ## Get-Jobs

abbrev pub which_jobs_in : List ℕ → Option WhichJobs
which_jobs_in keyword =
    cond (is_word keyword (codes "aborted")) (Some which.Aborted)
    (cond (is_word keyword (codes "all")) (Some which.All)
    (cond (is_word keyword (codes "canceled")) (Some which.Canceled)
    (cond (is_word keyword (codes "completed")) (Some which.Completed)
    (cond (is_word keyword (codes "not-completed")) (Some which.NotCompleted)
    (cond (is_word keyword (codes "pending")) (Some which.Pending)
    (cond (is_word keyword (codes "pending-held")) (Some which.PendingHeld)
    (cond (is_word keyword (codes "processing")) (Some which.Processing)
    (cond (is_word keyword (codes "processing-stopped")) (Some which.ProcessingStopped)
    None))))))))

-- Another keyword is refused (RFC 8011 4.2.6.1).
abbrev pub supported : {A : Type 0} → Option A → Result A Status
supported None = Err AttributesOrValuesNotSupported
supported (Some x) = Ok x

abbrev pub which_jobs_by : Option (List ℕ) → Result WhichJobs Status
which_jobs_by None = Ok which.NotCompleted
which_jobs_by (Some keyword) = supported (which_jobs_in keyword)

abbrev pub which_jobs_of : List Attribute → Result WhichJobs Status
which_jobs_of attributes = do
  keyword ← text_at Keyword (codes "which-jobs") attributes
  which_jobs_by keyword

abbrev pub job_listing_of : List Attribute → Result JobListing Status
job_listing_of attributes = do
  printers ← printers_of attributes
  which ← which_jobs_of attributes
  mine ← flag_at (codes "my-jobs") attributes
  limit ← number_at 1 (codes "limit") attributes
  first_index ← number_at 1 (codes "first-index") attributes
  first_job ← number_at 1 (codes "first-job-id") attributes
  ids ← numbers_at (codes "job-ids") attributes
  requested ← requested_of attributes
  Ok (record { printers = printers; which = which; mine = mine; limit = limit; first_index = first_index; first_job = first_job; ids = ids; requested = requested })

-- ## Other operations

abbrev pub job_selection_of : List Attribute → Result JobSelection Status
job_selection_of attributes = do
  printers ← printers_of attributes
  mine ← flag_at (codes "my-jobs") attributes
  purges ← flag_at (codes "purge-jobs") attributes
  ids ← numbers_at (codes "job-ids") attributes
  Ok (record { printers = printers; mine = mine; purges = purges; ids = ids })

abbrev pub printer_listing_of : List Attribute → Result PrinterListing Status
printer_listing_of attributes = do
  limit ← number_at 1 (codes "limit") attributes
  first ← text_at Name (codes "first-printer-name") attributes
  requested ← requested_of attributes
  Ok (record { limit = limit; first = first; requested = requested })

abbrev pub cancellation_of : List Attribute → Result Action Status
cancellation_of attributes = do
  job ← job_of attributes
  purges ← flag_at (codes "purge-jobs") attributes
  Ok (action.CancelJob job purges)

abbrev pub hold_of : List Attribute → Result Action Status
hold_of attributes = do
  job ← job_of attributes
  Ok (action.HoldJob job (values_at (codes "job-hold-until") attributes))

-- The attributes of the first group of job attributes.
abbrev pub group_attributes : Option Group → List Attribute
group_attributes None = []
group_attributes (Some group) = group.attributes

abbrev pub job_attributes_of : Message → List Attribute
job_attributes_of m = group_attributes (find (has_tag tags.Job) m.groups)

abbrev pub is_hold : Attribute → Bool
is_hold attribute = is_named (codes "job-hold-until") attribute

-- Only job-hold-until can be set (RFC 3380).
abbrev pub hold_alone : List Attribute → Result (List Attribute) Status
hold_alone attributes = cond (list_all is_hold attributes) (Ok attributes) (Err AttributesOrValuesNotSupported)

abbrev pub new_hold_of : Message → Result (List Value) Status
new_hold_of m = do
  attributes ← hold_alone (job_attributes_of m)
  given (values_at (codes "job-hold-until") attributes)

abbrev pub settings_of : List Attribute → Message → Result Action Status
settings_of attributes m = do
  job ← job_of attributes
  until ← new_hold_of m
  Ok (action.SetJobAttributes job until)

abbrev pub job_question_of : List Attribute → Result Action Status
job_question_of attributes = do
  job ← job_of attributes
  requested ← requested_of attributes
  Ok (action.GetJobAttributes job requested)

abbrev pub printer_question_of : List Attribute → Result Action Status
printer_question_of attributes = do
  printer ← printer_of attributes
  requested ← requested_of attributes
  Ok (action.GetPrinterAttributes printer requested)

abbrev pub change_of : PrinterChange → List Attribute → Result Action Status
change_of change attributes = do
  printer ← printer_of attributes
  Ok (action.ChangePrinter change printer)

abbrev pub identification_of : List Attribute → Result Action Status
identification_of attributes = do
  printer ← printer_of attributes
  actions ← keywords_at (codes "identify-actions") attributes
  message ← text_at Text (codes "message") attributes
  Ok (action.IdentifyPrinter printer actions message)

abbrev pub default_question_of : List Attribute → Result Action Status
default_question_of attributes = do
  requested ← requested_of attributes
  Ok (action.GetDefault requested)

-- ## The table

abbrev pub made_by : {A : Type 0} → (A → Action) → Result A Status → Result Action Status
made_by made (Ok x) = Ok (made x)
made_by made (Err status) = Err status

abbrev pub action_of : Operation → List Attribute → Message → Result Action Status
action_of operation.PrintJob attributes m = made_by action.PrintJob (new_job_of attributes)
action_of operation.ValidateJob attributes m = made_by action.ValidateJob (new_job_of attributes)
action_of operation.CreateJob attributes m = made_by action.CreateJob (new_job_of attributes)
action_of operation.SendDocument attributes m = made_by action.SendDocument (new_document_of attributes)
action_of operation.CancelJob attributes m = cancellation_of attributes
action_of operation.GetJobAttributes attributes m = job_question_of attributes
action_of operation.GetJobs attributes m = made_by action.GetJobs (job_listing_of attributes)
action_of operation.GetPrinterAttributes attributes m = printer_question_of attributes
action_of operation.HoldJob attributes m = hold_of attributes
action_of operation.ReleaseJob attributes m = made_by action.ReleaseJob (job_of attributes)
action_of operation.PausePrinter attributes m = change_of Pause attributes
action_of operation.ResumePrinter attributes m = change_of Resume attributes
action_of operation.PurgeJobs attributes m = made_by action.PurgeJobs (job_selection_of attributes)
action_of operation.SetJobAttributes attributes m = settings_of attributes m
action_of operation.EnablePrinter attributes m = change_of Accept attributes
action_of operation.DisablePrinter attributes m = change_of Reject attributes
action_of operation.CancelJobs attributes m = made_by action.CancelJobs (job_selection_of attributes)
action_of operation.CancelMyJobs attributes m = made_by action.CancelMyJobs (job_selection_of attributes)
action_of operation.CloseJob attributes m = made_by action.CloseJob (job_of attributes)
action_of operation.IdentifyPrinter attributes m = identification_of attributes
action_of operation.CupsGetDefault attributes m = default_question_of attributes
action_of operation.CupsGetPrinters attributes m = made_by action.GetPrinters (printer_listing_of attributes)
action_of operation.CupsGetClasses attributes m = made_by action.GetClasses (printer_listing_of attributes)
action_of operation.CupsAcceptJobs attributes m = change_of Accept attributes
action_of operation.CupsRejectJobs attributes m = change_of Reject attributes
