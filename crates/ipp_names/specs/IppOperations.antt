-- The operations that the server offers.
use Rattle.std.specs.Prelude.{ℕ, ◌==◌, List, [], ◌∷◌, codes, Option}
use Rattle.std.specs.List.{find}
use Rattle.ipp_names.specs.declared.operations.Operation.{Operation}
use Rattle.ipp_names.specs.declared.operations.Operation.TheVariants.{PrintJob, ValidateJob, CreateJob, SendDocument, CancelJob, GetJobAttributes, GetJobs, GetPrinterAttributes, HoldJob, ReleaseJob, PausePrinter, ResumePrinter, PurgeJobs, SetJobAttributes, EnablePrinter, DisablePrinter, CancelJobs, CancelMyJobs, CloseJob, IdentifyPrinter, CupsGetDefault, CupsGetPrinters, CupsGetClasses, CupsAcceptJobs, CupsRejectJobs}

-- An operation of IPP or of CUPS, with its number (RFC 8011 5.4.15).
abbrev pub operation_number : Operation → ℕ
operation_number PrintJob = 0x0002
operation_number ValidateJob = 0x0004
operation_number CreateJob = 0x0005
operation_number SendDocument = 0x0006
operation_number CancelJob = 0x0008
operation_number GetJobAttributes = 0x0009
operation_number GetJobs = 0x000a
operation_number GetPrinterAttributes = 0x000b
operation_number HoldJob = 0x000c
operation_number ReleaseJob = 0x000d
operation_number PausePrinter = 0x0010
operation_number ResumePrinter = 0x0011
operation_number PurgeJobs = 0x0012
operation_number SetJobAttributes = 0x0014
operation_number EnablePrinter = 0x0022
operation_number DisablePrinter = 0x0023
operation_number CancelJobs = 0x0038
operation_number CancelMyJobs = 0x0039
operation_number CloseJob = 0x003b
operation_number IdentifyPrinter = 0x003c
operation_number CupsGetDefault = 0x4001
operation_number CupsGetPrinters = 0x4002
operation_number CupsGetClasses = 0x4005
operation_number CupsAcceptJobs = 0x4008
operation_number CupsRejectJobs = 0x4009

abbrev pub operations : List Operation
operations = PrintJob ∷ ValidateJob ∷ CreateJob ∷ SendDocument ∷ CancelJob ∷ GetJobAttributes ∷ GetJobs ∷ GetPrinterAttributes ∷ HoldJob ∷ ReleaseJob ∷ PausePrinter ∷ ResumePrinter ∷ PurgeJobs ∷ SetJobAttributes ∷ EnablePrinter ∷ DisablePrinter ∷ CancelJobs ∷ CancelMyJobs ∷ CloseJob ∷ IdentifyPrinter ∷ CupsGetDefault ∷ CupsGetPrinters ∷ CupsGetClasses ∷ CupsAcceptJobs ∷ CupsRejectJobs ∷ []

abbrev pub operation_of : ℕ → Option Operation
operation_of number = find (λ found. operation_number found == number) operations

abbrev pub operation_name : Operation → List ℕ
operation_name PrintJob = codes "Print-Job"
operation_name ValidateJob = codes "Validate-Job"
operation_name CreateJob = codes "Create-Job"
operation_name SendDocument = codes "Send-Document"
operation_name CancelJob = codes "Cancel-Job"
operation_name GetJobAttributes = codes "Get-Job-Attributes"
operation_name GetJobs = codes "Get-Jobs"
operation_name GetPrinterAttributes = codes "Get-Printer-Attributes"
operation_name HoldJob = codes "Hold-Job"
operation_name ReleaseJob = codes "Release-Job"
operation_name PausePrinter = codes "Pause-Printer"
operation_name ResumePrinter = codes "Resume-Printer"
operation_name PurgeJobs = codes "Purge-Jobs"
operation_name SetJobAttributes = codes "Set-Job-Attributes"
operation_name EnablePrinter = codes "Enable-Printer"
operation_name DisablePrinter = codes "Disable-Printer"
operation_name CancelJobs = codes "Cancel-Jobs"
operation_name CancelMyJobs = codes "Cancel-My-Jobs"
operation_name CloseJob = codes "Close-Job"
operation_name IdentifyPrinter = codes "Identify-Printer"
operation_name CupsGetDefault = codes "CUPS-Get-Default"
operation_name CupsGetPrinters = codes "CUPS-Get-Printers"
operation_name CupsGetClasses = codes "CUPS-Get-Classes"
operation_name CupsAcceptJobs = codes "CUPS-Accept-Jobs"
operation_name CupsRejectJobs = codes "CUPS-Reject-Jobs"
