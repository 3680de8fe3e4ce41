-- Laws about the answers about printers, and what CUPS 2.4 asks for.
use Rattle.std.specs.Prelude.{◌≡◌, ℕ, not, List, [], ◌∷◌, codes, filter, is_some}
use Rattle.ipp_names.specs.IppPrinterStates.{printer_state_number}
use Rattle.ipp_printers.specs.declared.property.Property.{Property}
use Rattle.requested_attributes.specs.AttributeGroups.{StatedRow, is_same}
use Rattle.spool_types.specs.Phases as phases
use Rattle.ipp_answers.specs.JobAnswerLaws.{keywords, names_for, rows_for}
use Rattle.ipp_answers.specs.declared.facts.Server.{Server}
use Rattle.printer_answers.specs.PrinterAnswers.{printer_state}
use Rattle.printer_answers.specs.PrinterRows.{printer_rows}
use Rattle.printer_answers.specs.declared.facts.PrinterFacts.{PrinterFacts}

-- The number is that of `spool_types`, where a queue is busy if a job of it is processing.
abbrev pub AreShownStates : Type 0
AreShownStates = (f : PrinterFacts) → printer_state_number (printer_state f) ≡ phases.printer_state (is_some f.printing) f.stopped

-- `lp` before it prints (cups/dest.c).
abbrev pub lp_names : List (List ℕ)
lp_names =
    codes "auth-info-required" ∷ codes "device-uri" ∷ codes "job-sheets-default" ∷ codes "marker-change-time" ∷ codes "marker-colors"
    ∷ codes "marker-high-levels" ∷ codes "marker-levels" ∷ codes "marker-low-levels" ∷ codes "marker-message" ∷ codes "marker-names"
    ∷ codes "marker-types" ∷ codes "printer-commands" ∷ codes "printer-defaults" ∷ codes "printer-info" ∷ codes "printer-is-accepting-jobs"
    ∷ codes "printer-is-shared" ∷ codes "printer-is-temporary" ∷ codes "printer-location" ∷ codes "printer-make-and-model"
    ∷ codes "printer-mandatory-job-attributes" ∷ codes "printer-name" ∷ codes "printer-state" ∷ codes "printer-state-change-time"
    ∷ codes "printer-state-reasons" ∷ codes "printer-type" ∷ codes "printer-uri-supported" ∷ []

abbrev pub LpAsks : Type 0
LpAsks = (s : Server) (d : List Property) (f : PrinterFacts) → names_for (keywords lp_names) (printer_rows s d f)
    ≡ codes "device-uri" ∷ codes "printer-info" ∷ codes "printer-is-accepting-jobs" ∷ codes "printer-is-temporary"
    ∷ codes "printer-location" ∷ codes "printer-make-and-model" ∷ codes "printer-name" ∷ codes "printer-state"
    ∷ codes "printer-state-change-time" ∷ codes "printer-state-reasons" ∷ codes "printer-type" ∷ codes "printer-uri-supported"
    ∷ codes "job-sheets-default" ∷ []

-- `all` asks for each attribute of a printer but media-col-database. The groups with this name ask for each (`lp`, then `lpadmin`).
pub record AllPrinterRows : Type 0 where
  pub all : (s : Server) (d : List Property) (f : PrinterFacts)
      → rows_for (keywords (codes "all" ∷ [])) (printer_rows s d f) ≡ filter (λ (r : StatedRow). not (is_same r.name (codes "media-col-database"))) (printer_rows s d f)
  pub with_database : (s : Server) (d : List Property) (f : PrinterFacts)
      → rows_for (keywords (codes "job-template" ∷ codes "media-col-database" ∷ codes "printer-description" ∷ [])) (printer_rows s d f) ≡ printer_rows s d f
