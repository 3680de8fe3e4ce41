-- The bytes of a piece, in order, and their results. Internal: no caller needs this.
use Rattle.std.specs.Prelude.{◌≡◌, ◌≢◌, ℕ, ◌<◌, ◌≤◌, List, ◌++◌, length, take, Ok, ⊤}
use Rattle.side_channel.specs.Packets.{with_data}
use Rattle.side_channel.specs.SideSessions.{Session, session, ends, after, from_front}
use Rattle.side_channel.specs.SessionPieces.{answer_for, to_come}
use Rattle.side_channel.specs.declared.devices.Device.{Device}
use Rattle.side_channel.specs.declared.endings.Ending.TheVariants.{End}
use Rattle.side_channel.specs.declared.pieces.Held.{Held}
use Rattle.side_channel.specs.declared.pieces.Held.TheVariants as held
use Rattle.side_channel.specs.declared.pieces.Came.{Came}
use Rattle.side_channel.specs.declared.pieces.Came.TheVariants as came

-- A request is stored only while bytes of its data are missing.
abbrev pub IsHeld : Held → Type 0
IsHeld (held.Data command n left) = 0 < left
IsHeld h = ⊤

-- The session continues in this state, before its end.
pub record IsOn (h : Held) : Type 0 where
  pub whole : IsHeld h
  pub before : h ≢ held.Over

-- The session after a request's first four bytes.
abbrev pub after_head : ℕ → ℕ → ℕ → Device → List ℕ → Session
after_head command status n d more = from_front (session d) d (with_data command status n more)

-- The result of a session, and the state then.
abbrev pub Comes : (Device → List ℕ → Session) → Came → Held → Type 0
Comes rest came.Part new = IsOn new × ((d : Device) (more : List ℕ) → rest d more ≡ to_come d new more)
Comes rest (came.Request command n) new =
    (new ≡ held.Nothing) × ((d : Device) (more : List ℕ) → rest d more ≡ after (answer_for d command n) (to_come d new more))
Comes rest came.End new = (new ≡ held.Over) × ((d : Device) (more : List ℕ) → rest d more ≡ ends (Ok End) more)

-- The first bytes of a piece have this result: all of them, if no request is complete.
pub record Reaches (old : Held) (piece : List ℕ) (count : ℕ) (c : Came) (new : Held) : Type 0 where
  pub within : count ≤ length piece
  pub some : c ≢ came.Part → 0 < count
  pub all : c ≡ came.Part → count ≡ length piece
  pub comes : Comes (λ d more. to_come d old (take count piece ++ more)) c new
