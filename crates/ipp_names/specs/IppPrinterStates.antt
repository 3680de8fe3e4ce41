-- The states of printers.
use Rattle.std.specs.Prelude.{ℕ, ◌==◌, List, [], ◌∷◌, codes, Option}
use Rattle.std.specs.List.{find}
use Rattle.ipp_names.specs.declared.printer_states.PrinterState.{PrinterState}
use Rattle.ipp_names.specs.declared.printer_states.PrinterState.TheVariants.{Idle, Processing, Stopped}

-- A state of a printer, with its number (RFC 8011 5.4.11).
abbrev pub printer_state_number : PrinterState → ℕ
printer_state_number Idle = 3
printer_state_number Processing = 4
printer_state_number Stopped = 5

abbrev pub printer_states : List PrinterState
printer_states = Idle ∷ Processing ∷ Stopped ∷ []

abbrev pub printer_state_of : ℕ → Option PrinterState
printer_state_of number = find (λ found. printer_state_number found == number) printer_states

abbrev pub printer_state_keyword : PrinterState → List ℕ
printer_state_keyword Idle = codes "idle"
printer_state_keyword Processing = codes "processing"
printer_state_keyword Stopped = codes "stopped"
