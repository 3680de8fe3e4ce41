-- The room of the journal that commands take, and when they would take it from the reserve.
use Rattle.std.specs.Prelude.{ℕ, Bool, false, ◌&&◌, not, List, length, Option, None, Some, codes}
use Rattle.std.specs.FinMap as finite
use Rattle.spool_types.specs.declared.event.Event.{Event}
use Rattle.spool_types.specs.declared.event.Event.TheVariants.{Create, CreateBy, Send, Close}
use Rattle.command_lines.specs.declared.command.Command.{Command}
use Rattle.command_lines.specs.declared.command.Command.TheVariants as commands
use Rattle.print_rounds.specs.RunStates.{RunState}
use Rattle.service_rules.specs.Reserve.{close_cost, create_cost, is_let_in, send_cost}
use Rattle.service_rules.specs.declared.reserve.Journal.{Journal}

-- The reply to a command that is refused for the reserve.
abbrev pub full_text : List ℕ
full_text = codes "error full\n"

-- ## The bytes that a command needs at most, if it takes room. Every other command may use the reserve.

abbrev pub event_cost : Event → Option ℕ
event_cost (Create job) = Some create_cost
event_cost (CreateBy job by) = Some create_cost
event_cost (Send job bytes) = Some (send_cost (length bytes))
event_cost (Close closing) = Some close_cost
event_cost e = None

abbrev pub command_cost : Command → Option ℕ
command_cost (commands.Apply e) = event_cost e
command_cost (commands.Create creation) = Some create_cost
command_cost (commands.Close job name) = Some close_cost
command_cost c = None

-- ## The decision

-- The journal of an engine, in areas of this size.
abbrev pub journal_of : {D : Type 0} → ℕ → RunState D → Journal
journal_of area s = record { area = area; free = s.spool.room; jobs = length (finite.keys s.spool.state.jobs) }

abbrev pub is_beyond : Journal → Option ℕ → Bool
is_beyond j None = false
is_beyond j (Some cost) = not (is_let_in j cost)

-- Such a command would take room from the reserve. After a fault of the device the engine answers.
abbrev pub takes_reserve : {D : Type 0} → ℕ → RunState D → Option ℕ → Bool
takes_reserve area s cost = not s.spool.dead && is_beyond (journal_of area s) cost
