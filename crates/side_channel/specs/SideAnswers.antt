-- The answer to each command (backend(7), cups/sidechannel.h).
use Rattle.std.specs.Prelude.{ℕ, Bool, cond, nat_le, ◌==◌, List, [], ◌∷◌, Option, None, Some}
use Rattle.side_channel.specs.Packets.{Message, most_data, spelling}
use Rattle.side_channel.specs.declared.codes.Command.{Command}
use Rattle.side_channel.specs.declared.codes.Command.TheVariants as commands
use Rattle.side_channel.specs.declared.codes.Status.{Status}
use Rattle.side_channel.specs.declared.codes.Status.TheVariants as statuses
use Rattle.side_channel.specs.declared.devices.Device.{Device}

-- The numbers of the commands.
abbrev pub command_of : ℕ → Option Command
command_of n =
    cond (n == 0) (Some commands.None)
    (cond (n == 1) (Some commands.SoftReset)
    (cond (n == 2) (Some commands.DrainOutput)
    (cond (n == 3) (Some commands.GetBidi)
    (cond (n == 4) (Some commands.GetDeviceId)
    (cond (n == 5) (Some commands.GetState)
    (cond (n == 6) (Some commands.SnmpGet)
    (cond (n == 7) (Some commands.SnmpGetNext)
    (cond (n == 8) (Some commands.GetConnected)
    None))))))))

-- The numbers of the statuses.
abbrev pub status_byte : Status → ℕ
status_byte statuses.None = 0
status_byte statuses.Ok = 1
status_byte statuses.IoError = 2
status_byte statuses.Timeout = 3
status_byte statuses.NoResponse = 4
status_byte statuses.BadMessage = 5
status_byte statuses.TooBig = 6
status_byte statuses.NotImplemented = 7

-- The data of an answer.
pub data Content : Type 0 where
  empty : Content
  one : ℕ → Content
  id : List ℕ → Content

abbrev pub bytes_of : Content → List ℕ
bytes_of empty = []
bytes_of (one b) = b ∷ []
bytes_of (id bytes) = bytes

abbrev pub flag : Bool → Content
flag b = one (cond b 1 0)

-- The answer of a device to a command, or to a number without a command: a status, and the data.
abbrev pub row_of : Device → Option Command → Status × Content
row_of d (Some commands.None) = (statuses.BadMessage, empty)
row_of d (Some commands.SoftReset) = (statuses.Ok, empty)
row_of d (Some commands.DrainOutput) = (statuses.Ok, empty)
row_of d (Some commands.GetBidi) = (statuses.Ok, flag d.bidi)
row_of d (Some commands.GetDeviceId) = (statuses.Ok, id d.id)
row_of d (Some commands.GetState) = (statuses.Ok, one d.state)
row_of d (Some commands.SnmpGet) = (statuses.NotImplemented, empty)
row_of d (Some commands.SnmpGetNext) = (statuses.NotImplemented, empty)
row_of d (Some commands.GetConnected) = (statuses.Ok, flag d.connected)
row_of d None = (statuses.BadMessage, empty)

-- The answer to a request with too much data is TooBig, whatever its command.
abbrev pub row_for : Device → Message → Status × Content
row_for d p = cond (nat_le p.length most_data) (row_of d (command_of p.command)) (statuses.TooBig, empty)

-- An answer repeats the command.
pub record Reply : Type 0 where
  pub command : ℕ
  pub status : Status
  pub content : Content

abbrev pub reply : ℕ → Status × Content → Reply
reply command row = record { command = command; status = row.0; content = row.1 }

-- The answer to a request. The status and data of the request are ignored.
abbrev pub answer_of : Device → Message → Reply
answer_of d p = reply p.command (row_for d p)

-- The bytes of an answer.
abbrev pub reply_bytes : Reply → List ℕ
reply_bytes r = spelling r.command (status_byte r.status) (bytes_of r.content)
