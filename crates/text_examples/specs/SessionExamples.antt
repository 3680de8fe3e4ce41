-- Examples of sessions on the side channel.
use Rattle.std.specs.Prelude.{◌≡◌, ℕ, zero, suc, ◌+◌, true, false, List, [], ◌∷◌, ◌++◌, map, codes, replicate, None, Some, Result, Ok, Err}
use Rattle.side_channel.specs.SideAnswers.{command_of, status_byte}
use Rattle.side_channel.specs.SideSessions.{session}
use Rattle.side_channel.specs.declared.codes.Command.TheVariants as commands
use Rattle.side_channel.specs.declared.codes.Status.TheVariants as statuses
use Rattle.side_channel.specs.declared.devices.Device.{Device}
use Rattle.side_channel.specs.declared.endings.Ending.{Ending}
use Rattle.side_channel.specs.declared.endings.Ending.TheVariants.{End, Stopped}
use Rattle.side_channel.specs.declared.endings.SideFault.{SideFault}
use Rattle.side_channel.specs.declared.endings.SideFault.TheVariants.{Cut}

-- A device that can be read, is not connected, and is online with an empty tray.
abbrev pub printer : Device
printer = record { bidi = true; connected = false; state = 33; id = codes "MFG:X;" }

-- A request, the number of bytes 255 that follow it, the answer, and how the session ends.
pub record Asked : Type 0 where
  pub request : List ℕ
  pub count : ℕ
  pub answer : List ℕ
  pub ending : Result Ending SideFault

abbrev pub asked : List ℕ → ℕ → List ℕ → Result Ending SideFault → Asked
asked request count answer ending = record { request = request; count = count; answer = answer; ending = ending }

-- A session with a request and no such bytes, which ends with its input.
abbrev pub stopped : List ℕ → List ℕ → Asked
stopped request answer = asked request 0 answer (Ok Stopped)

abbrev pub told : Asked → List ℕ × Result Ending SideFault
told a = let s = session printer (a.request ++ replicate a.count 255) in (s.text, s.ending)

abbrev pub AreTold : List Asked → Type 0
AreTold rows = map told rows ≡ map (λ (a : Asked). (a.answer, a.ending)) rows

-- Each command, a number that is no command, data and a status that have no effect, and no request at all.
abbrev pub CommandRows : Type 0
CommandRows = AreTold (
    stopped (3 ∷ 0 ∷ 0 ∷ 0 ∷ []) (3 ∷ 1 ∷ 0 ∷ 1 ∷ 1 ∷ [])
    ∷ stopped (4 ∷ 0 ∷ 0 ∷ 0 ∷ []) (4 ∷ 1 ∷ 0 ∷ 6 ∷ codes "MFG:X;")
    ∷ stopped (5 ∷ 0 ∷ 0 ∷ 0 ∷ []) (5 ∷ 1 ∷ 0 ∷ 1 ∷ 33 ∷ [])
    ∷ stopped (6 ∷ 0 ∷ 0 ∷ 0 ∷ []) (6 ∷ 7 ∷ 0 ∷ 0 ∷ [])
    ∷ stopped (7 ∷ 0 ∷ 0 ∷ 0 ∷ []) (7 ∷ 7 ∷ 0 ∷ 0 ∷ [])
    ∷ stopped (8 ∷ 0 ∷ 0 ∷ 0 ∷ []) (8 ∷ 1 ∷ 0 ∷ 1 ∷ 0 ∷ [])
    ∷ stopped (9 ∷ 0 ∷ 0 ∷ 0 ∷ []) (9 ∷ 5 ∷ 0 ∷ 0 ∷ [])
    ∷ stopped (0 ∷ 0 ∷ 0 ∷ 0 ∷ []) (0 ∷ 5 ∷ 0 ∷ 0 ∷ [])
    ∷ stopped (2 ∷ 0 ∷ 0 ∷ 0 ∷ []) (2 ∷ 1 ∷ 0 ∷ 0 ∷ [])
    ∷ stopped (1 ∷ 0 ∷ 0 ∷ 2 ∷ 65 ∷ 66 ∷ []) (1 ∷ 1 ∷ 0 ∷ 0 ∷ [])
    ∷ stopped (3 ∷ 7 ∷ 0 ∷ 0 ∷ []) (3 ∷ 1 ∷ 0 ∷ 1 ∷ 1 ∷ [])
    ∷ stopped [] []
    ∷ [])

-- Only 255, 0, 0, 0 ends a session.
abbrev pub EndRows : Type 0
EndRows = AreTold (
    asked (255 ∷ 0 ∷ 0 ∷ 0 ∷ []) 0 [] (Ok End)
    ∷ asked (255 ∷ 0 ∷ 0 ∷ 0 ∷ 3 ∷ 0 ∷ 0 ∷ 0 ∷ []) 0 [] (Ok End)
    ∷ asked (3 ∷ 0 ∷ 0 ∷ 0 ∷ 255 ∷ 0 ∷ 0 ∷ 0 ∷ []) 0 (3 ∷ 1 ∷ 0 ∷ 1 ∷ 1 ∷ []) (Ok End)
    ∷ stopped (255 ∷ 1 ∷ 0 ∷ 0 ∷ []) (255 ∷ 5 ∷ 0 ∷ 0 ∷ [])
    ∷ stopped (255 ∷ 0 ∷ 0 ∷ 1 ∷ 65 ∷ []) (255 ∷ 5 ∷ 0 ∷ 0 ∷ [])
    ∷ [])

-- Packets that are cut, and data of 2,048 and of 2,049 bytes.
abbrev pub SizeRows : Type 0
SizeRows = AreTold (
    asked (3 ∷ 0 ∷ 0 ∷ []) 0 [] (Err Cut)
    ∷ asked (3 ∷ 0 ∷ 8 ∷ 0 ∷ []) 2047 [] (Err Cut)
    ∷ asked (3 ∷ 0 ∷ 8 ∷ 0 ∷ []) 2048 (3 ∷ 1 ∷ 0 ∷ 1 ∷ 1 ∷ []) (Ok Stopped)
    ∷ asked (3 ∷ 0 ∷ 8 ∷ 1 ∷ []) 2048 [] (Err Cut)
    ∷ asked (3 ∷ 0 ∷ 8 ∷ 1 ∷ []) 2049 (3 ∷ 6 ∷ 0 ∷ 0 ∷ []) (Ok Stopped)
    ∷ asked (255 ∷ 0 ∷ 8 ∷ 1 ∷ []) 2049 (255 ∷ 6 ∷ 0 ∷ 0 ∷ []) (Ok Stopped)
    ∷ [])

-- The greatest length of data in a packet.
abbrev pub MostRows : Type 0
MostRows = AreTold (
    asked (9 ∷ 0 ∷ 255 ∷ 255 ∷ []) 65534 [] (Err Cut)
    ∷ asked (9 ∷ 0 ∷ 255 ∷ 255 ∷ []) 65535 (9 ∷ 6 ∷ 0 ∷ 0 ∷ []) (Ok Stopped)
    ∷ [])

-- The commands 0 to 8, and no further number.
abbrev pub CommandNumberRows : Type 0
CommandNumberRows = map command_of (0 ∷ 1 ∷ 2 ∷ 3 ∷ 4 ∷ 5 ∷ 6 ∷ 7 ∷ 8 ∷ [])
    ≡ Some commands.None ∷ Some commands.SoftReset ∷ Some commands.DrainOutput ∷ Some commands.GetBidi ∷ Some commands.GetDeviceId
    ∷ Some commands.GetState ∷ Some commands.SnmpGet ∷ Some commands.SnmpGetNext ∷ Some commands.GetConnected ∷ []

-- Consecutive numbers from n on.
abbrev pub numbers : ℕ → ℕ → List ℕ
numbers n zero = []
numbers n (suc count) = n ∷ numbers (n + 1) count

abbrev pub NoCommandRows : Type 0
NoCommandRows = map command_of (numbers 9 247) ≡ replicate 247 None

abbrev pub StatusRows : Type 0
StatusRows = map status_byte (statuses.None ∷ statuses.Ok ∷ statuses.IoError ∷ statuses.Timeout ∷ statuses.NoResponse ∷ statuses.BadMessage
    ∷ statuses.TooBig ∷ statuses.NotImplemented ∷ [])
    ≡ 0 ∷ 1 ∷ 2 ∷ 3 ∷ 4 ∷ 5 ∷ 6 ∷ 7 ∷ []
