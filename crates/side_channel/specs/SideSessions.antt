-- A session over the bytes of its requests.
use Rattle.std.specs.Prelude.{ℕ, zero, suc, cond, List, [], ◌++◌, length, Result, Ok, Err}
use Rattle.side_channel.specs.Packets.{Message, Front, front_of, nothing, cut, whole, is_end}
use Rattle.side_channel.specs.SideAnswers.{answer_of, reply_bytes}
use Rattle.side_channel.specs.declared.devices.Device.{Device}
use Rattle.side_channel.specs.declared.endings.Ending.{Ending}
use Rattle.side_channel.specs.declared.endings.Ending.TheVariants.{End, Stopped}
use Rattle.side_channel.specs.declared.endings.SideFault.{SideFault}
use Rattle.side_channel.specs.declared.endings.SideFault.TheVariants.{Cut}

-- The joined answers, how the session ends, and the bytes after its end.
pub record Session : Type 0 where
  pub text : List ℕ
  pub ending : Result Ending SideFault
  pub rest : List ℕ

-- A session with this ending, before any answer.
abbrev pub ends : Result Ending SideFault → List ℕ → Session
ends ending rest = record { text = []; ending = ending; rest = rest }

-- An answer, and then a session.
abbrev pub after : List ℕ → Session → Session
after answer s = record s { text = answer ++ s.text }

-- A session that begins with this packet, and continues as going_on.
abbrev pub from_packet : (List ℕ → Session) → Device → Message → List ℕ → Session
from_packet going_on d p rest =
    cond (is_end p) (ends (Ok End) rest) (after (reply_bytes (answer_of d p)) (going_on rest))

abbrev pub from_front : (List ℕ → Session) → Device → Front → Session
from_front going_on d nothing = ends (Ok Stopped) []
from_front going_on d cut = ends (Err Cut) []
from_front going_on d (whole p rest) = from_packet going_on d p rest

-- A session over some bytes, of at most n packets.
unfoldable pub session_within : ℕ → Device → List ℕ → Session
session_within zero d bytes = ends (Ok Stopped) []
session_within (suc n) d bytes = from_front (session_within n d) d (front_of bytes)

-- A session over all of some bytes. They have no more packets than bytes.
unfoldable pub session : Device → List ℕ → Session
session d bytes = session_within (length bytes) d bytes
