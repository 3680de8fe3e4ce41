-- The events that a line asks for.
use Rattle.std.specs.Prelude.{Bool, true, false, IsTrue}
use Rattle.spool_types.specs.declared.event.Event.{Event}
use Rattle.spool_types.specs.declared.event.Event.TheVariants.{Info, SetAccept, SetStop, Send, Hold, Release, Abandon, Cancel, Purge, Clock}
use Rattle.command_lines.specs.declared.command.Command.{Command}
use Rattle.command_lines.specs.declared.command.Command.TheVariants.{Apply}

-- A new queue, a new job and a close are commands of their own. No line can state the start or the end of an attempt, or a reopening.
abbrev pub is_line_event : Event → Bool
is_line_event (Info notes) = true
is_line_event (SetAccept queue accepting) = true
is_line_event (SetStop queue stopped) = true
is_line_event (Send job bytes) = true
is_line_event (Hold job until) = true
is_line_event (Release job) = true
is_line_event (Abandon job) = true
is_line_event (Cancel job) = true
is_line_event (Purge job) = true
is_line_event (Clock moment) = true
is_line_event e = false

-- The command asks for no other event.
abbrev pub AsksForLineEvent : Command → Type 0
AsksForLineEvent (Apply e) = IsTrue (is_line_event e)
AsksForLineEvent command = Unit {0}
