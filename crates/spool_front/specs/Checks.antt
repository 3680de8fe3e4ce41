-- Whether a queue can print.
use Rattle.std.specs.Prelude.{ℕ, Bool, true, false, List, ◌++◌, codes, Option, None, Some, is_none}
use Rattle.std.specs.List.{list_any}
use Rattle.front_texts.specs.declared.queue_line.QueueLine.{QueueLine}
use Rattle.front_texts.specs.declared.states.PrinterState.{PrinterState}
use Rattle.front_texts.specs.declared.states.PrinterState.TheVariants.{Stopped}
use Rattle.spool_front.specs.ReachableTypes.{leads}
use Rattle.spool_front.specs.declared.chains.Chains.{Chains}
use Rattle.spool_front.specs.declared.check.Hindrance.{Hindrance}
use Rattle.spool_front.specs.declared.check.Hindrance.TheVariants as found

-- Why documents cannot be printed, from whether filters convert to the printer's type, the queue's state, and whether it accepts jobs.
abbrev pub hindrance_of : Bool → PrinterState → Bool → Option Hindrance
hindrance_of false state accepting = Some found.NoChain
hindrance_of true Stopped accepting = Some found.Stopped
hindrance_of true state false = Some found.Rejecting
hindrance_of true state true = None

-- The queue can print and accepts jobs.
abbrev pub prints : Chains → QueueLine → Bool
prints chains queue = is_none (hindrance_of (list_any (leads chains.convs queue.target) chains.kinds.items) queue.state queue.accepting)

-- Why a queue with this type cannot print, as a message.
abbrev pub why_not : List ℕ → Option Hindrance → Option (List ℕ)
why_not target None = None
why_not target (Some found.NoChain) = Some (codes "cannot print: no chain of filters converts to " ++ target)
why_not target (Some found.Stopped) = Some (codes "is stopped")
why_not target (Some found.Rejecting) = Some (codes "rejects jobs")
