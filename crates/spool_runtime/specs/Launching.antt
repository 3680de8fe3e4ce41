-- How a launcher handles an order and the end of a child.
use Rattle.std.specs.Prelude.{◌≡◌, ℕ, ℤ, pos, Bool, false, not, ◌&&◌, ◌||◌, List, length, ◌==◌, codes, cond, Option, None, Some, IsSome, Result, Ok, Err}
use Rattle.std.specs.Option.{option_map}
use Rattle.std.specs.Process.{exit_code, exit_signal}
use Rattle.std.specs.declared.process.status.ExitStatus.{ExitStatus}
use Rattle.std.specs.declared.io.ErrorKind.{ErrorKind}
use Rattle.child_pipeline.specs.declared.order.Finish.{Finish}
use Rattle.child_pipeline.specs.declared.order.Input.{Input}
use Rattle.child_pipeline.specs.declared.order.Input.TheVariants as inputs
use Rattle.child_pipeline.specs.declared.order.Order.{Order}
use Rattle.child_pipeline.specs.declared.order.Program.{Program}
use Rattle.child_pipeline.specs.declared.order.Program.TheVariants as programs
use Rattle.program_lists.specs.Programs.{Programs, program_named}
use Rattle.program_lists.specs.declared.line.ListedProgram.{ListedProgram}
use Rattle.side_channel.specs.declared.devices.Device.{Device}
use Rattle.spool_types.specs.declared.effect.Exit.{Exit}
use Rattle.spool_types.specs.declared.effect.Exit.TheVariants.{Code, Lost, NoStart, Signal}
use Rattle.spool_runtime.specs.Shortage.{shortage_of}
use Rattle.spool_runtime.specs.SideDevice.{device_in}
use Rattle.spool_runtime.specs.declared.launcher.Room.{Room}
use Rattle.spool_runtime.specs.declared.reasons.Reason.{Reason}
use Rattle.spool_runtime.specs.declared.reasons.Reason.TheVariants.{Cut, Refused, Short}
use Rattle.spool_runtime.specs.declared.shortage.Shortage.{Shortage}

-- The program that an order names, if the list has it.
abbrev pub program_for : Programs → Program → Option ListedProgram
program_for list (programs.Filter name) = program_named name list.filters
program_for list (programs.Backend scheme) = program_named scheme list.backends

-- The file that is standard input. A document is passed only by its name.
abbrev pub input_name : List ℕ → Input → List ℕ
input_name path (inputs.Document content) = codes "/dev/null"
input_name path (inputs.Bytes content) = path

-- The device of the side channel, if there is one: the device of the order's URI.
abbrev pub device_for : Programs → Order → Option Device
device_for list order = option_map (λ (program : ListedProgram). device_in order.uri) list.side

-- The end that a status shows: an exit with a code, or a signal. The status of a process that was stopped shows
-- neither.
abbrev pub TellsEnd : ExitStatus → Exit → Type 0
TellsEnd status (Code code) = exit_code status ≡ Some (pos code)
TellsEnd status Signal = IsSome (exit_signal status)
TellsEnd status NoStart = ⊥
TellsEnd status Lost = ⊥

abbrev pub TellsNoEnd : ExitStatus → Type 0
TellsNoEnd status = (exit_code status ≡ None) × (exit_signal status ≡ None)

-- ---- what may be missing

abbrev pub is_success : Exit → Bool
is_success (Code code) = code == 0
is_success exit = false

-- A child that ended with status 0 may have written more than was stored, because there is no room after its bytes on a
-- stream. For an empty stream this cannot be known. A filter must write output, a backend need not.
abbrev pub may_be_cut : Finish → Bool → Room → Bool
may_be_cut finish filter room =
    is_success finish.exit && ((not room.output && (filter || not (length finish.output == 0))) || (not room.errors && not (length finish.errors == 0)))

-- A child whose bytes may be cut off is lost.
abbrev pub whole : Bool → Room → Finish → Result Finish Reason
whole filter room finish = cond (may_be_cut finish filter room) (Err Cut) (Ok finish)

-- ---- why a start was refused

abbrev pub refused : Option Shortage → Reason
refused (Some shortage) = Short shortage
refused None = Refused

abbrev pub refusal_of : ErrorKind → Option ℤ → Reason
refusal_of kind number = refused (shortage_of kind number)
