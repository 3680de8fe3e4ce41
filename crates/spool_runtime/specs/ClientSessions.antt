-- The effect of a client's bytes, and the part of their answers that is written.
use Rattle.std.specs.Prelude.{◌≡◌, ◌≢◌, ◌==◌, ◌&&◌, ℕ, Bool, true, false, List, ◌++◌, length, take, is_none, Result, Ok, Err}
use Rattle.std.specs.declared.io.ErrorKind.{ErrorKind}
use Rattle.std.specs.declared.io.ErrorKind.TheVariants.{Interrupted, WouldBlock}
use Rattle.side_channel.specs.SessionPieces.{Takes}
use Rattle.side_channel.specs.declared.devices.Device.{Device}
use Rattle.side_channel.specs.declared.endings.SideFault.{SideFault}
use Rattle.side_channel.specs.declared.endings.SideFault.TheVariants.{Write}
use Rattle.side_channel.specs.declared.pieces.Held.{Held}
use Rattle.side_channel.specs.declared.pieces.Held.TheVariants.{Over}
use Rattle.spool_runtime.specs.declared.sessions.SideLine.{SideLine}

-- The whole piece was taken, and its answers were written after the others.
pub record AnswersAll (d : Device) (old new : Held) (piece had has : List ℕ) : Type 0 where
  pub text : List ℕ
  pub takes : Takes d old piece text new
  pub wrote : has ≡ had ++ text

-- The session ends in the piece, and everything before its end was answered.
pub record AnswersToEnd (d : Device) (old new : Held) (piece had has : List ℕ) : Type 0 where
  pub front : List ℕ
  pub rest : List ℕ
  pub whole : piece ≡ front ++ rest
  pub answers : AnswersAll d old new front had has
  pub over : new ≡ Over

-- The first bytes of the piece were taken, and a prefix of their answers was written.
pub record AnswersPart (d : Device) (old new : Held) (piece had has : List ℕ) : Type 0 where
  pub front : List ℕ
  pub rest : List ℕ
  pub whole : piece ≡ front ++ rest
  pub text : List ℕ
  pub takes : Takes d old front text new
  pub count : ℕ
  pub wrote : has ≡ had ++ take count text

-- The result of a piece: `true` if the session has ended, and `false` if it continues.
abbrev pub AnswersPiece : Device → Held → Held → List ℕ → List ℕ → List ℕ → Result Bool SideFault → Type 0
AnswersPiece d old new piece had has (Ok false) = AnswersAll d old new piece had has × (new ≢ Over)
AnswersPiece d old new piece had has (Ok true) = AnswersToEnd d old new piece had has
AnswersPiece d old new piece had has (Err fault) = (fault ≡ Write) × AnswersPart d old new piece had has

-- ---- the channel of a child

-- It has no client and accepts none.
abbrev pub is_closed : SideLine → Bool
is_closed line = is_none line.listener && length line.clients.items == 0

-- A call on a socket would wait, or was interrupted.
abbrev pub may_pass : ErrorKind → Bool
may_pass WouldBlock = true
may_pass Interrupted = true
may_pass _ = false
