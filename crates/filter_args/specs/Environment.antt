-- The environment of a filter or a backend (filter(7), backend(7)).
use Rattle.std.specs.Prelude.{ℕ, cond, List, [], ◌∷◌, ◌++◌, codes, unwrap_or}
use Rattle.std.specs.Fmt.{decimal}
use Rattle.std.specs.String.{string_bytes}
use Rattle.spool_types.specs.declared.phase.Phase.{Phase}
use Rattle.spool_types.specs.declared.phase.Phase.TheVariants.{Processing}
use Rattle.spool_types.specs.declared.rows.QueueRow.{QueueRow}
use Rattle.spool_types.specs.State.{Job}
use Rattle.filter_args.specs.declared.files.ChildFile.TheVariants.{Side}
use Rattle.filter_args.specs.declared.place.Place.{Place}
use Rattle.filter_args.specs.Files.{file_name}

-- The path of the side channel's socket, if there is one.
abbrev pub side_name : Place → ℕ → ℕ → ℕ → List ℕ
side_name place job attempt stage = cond place.side (file_name Side (string_bytes place.root) job attempt stage) []

abbrev pub variable : List ℕ → List ℕ → List ℕ
variable name value = name ++ 61 ∷ value

-- The variables of the document.
abbrev pub document_variables : Job → List (List ℕ)
document_variables job =
    variable (codes "CHARSET") (codes "utf-8")
    ∷ variable (codes "CONTENT_TYPE") (unwrap_or job.media [])
    ∷ variable (codes "CUPS_FILETYPE") (codes "document")
    ∷ []

-- The variables of the device.
abbrev pub device_variables : QueueRow → List (List ℕ)
device_variables queue =
    variable (codes "DEVICE_URI") queue.uri
    ∷ variable (codes "FINAL_CONTENT_TYPE") queue.target
    ∷ []

-- The variables that all children share.
abbrev pub place_variables : Place → List (List ℕ)
place_variables place =
    variable (codes "LANG") (string_bytes place.lang)
    ∷ variable (codes "PATH") (string_bytes place.path)
    ∷ []

-- The variables of the printer.
abbrev pub printer_variables : QueueRow → List (List ℕ)
printer_variables queue =
    variable (codes "PRINTER") queue.name
    ∷ variable (codes "PRINTER_INFO") queue.info
    ∷ variable (codes "PRINTER_LOCATION") queue.location
    ∷ []

-- The variables of the stage of a job's attempt.
abbrev pub stage_variables : Place → ℕ → ℕ → ℕ → List (List ℕ)
stage_variables place job attempt stage =
    variable (codes "TMPDIR") (string_bytes place.root)
    ∷ variable (codes "SPOOL_ATTEMPT") (decimal attempt)
    ∷ variable (codes "SPOOL_SIDE") (side_name place job attempt stage)
    ∷ variable (codes "SPOOL_STAGE") (decimal stage)
    ∷ []

-- All variables.
abbrev pub environment_at : Job → QueueRow → Place → ℕ → ℕ → List (List ℕ)
environment_at job queue place attempt stage =
    document_variables job ++ device_variables queue ++ place_variables place ++ printer_variables queue ++ stage_variables place job.id attempt stage

-- The variables of a processing job. No other job has any.
abbrev pub variables : Phase → Job → QueueRow → Place → List (List ℕ)
variables (Processing attempt stage stages) job queue place = environment_at job queue place attempt stage
variables phase job queue place = []

abbrev pub environment_of : Job → QueueRow → Place → List (List ℕ)
environment_of job queue place = variables job.phase job queue place
