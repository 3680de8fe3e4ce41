-- A session whose bytes arrive in pieces.
use Rattle.std.specs.Prelude.{◌≡◌, ◌≢◌, ℕ, ◌<◌, ◌≤◌, cond, nat_le, List, [], ◌∷◌, ◌++◌, length, take, drop, Ok, Err}
use Rattle.std.specs.List.{flat_map}
use Rattle.side_channel.specs.SideAnswers.{answer_of, reply_bytes}
use Rattle.side_channel.specs.AnswerFields.{reply_of}
use Rattle.side_channel.specs.SideSessions.{Session, session, ends, after}
use Rattle.side_channel.specs.declared.devices.Device.{Device}
use Rattle.side_channel.specs.declared.endings.Ending.TheVariants.{End}
use Rattle.side_channel.specs.declared.endings.SideFault.TheVariants.{Cut}
use Rattle.side_channel.specs.declared.pieces.Held.{Held}
use Rattle.side_channel.specs.declared.pieces.Held.TheVariants.{Nothing, One, Two, Three, Data, Over}
use Rattle.side_channel.specs.declared.pieces.Fed.{Fed}
use Rattle.side_channel.specs.declared.pieces.Fed.TheVariants as fed

-- The answer to a request with this command and this number of data bytes, whatever its status and its data.
abbrev pub answer_for : Device → ℕ → ℕ → List ℕ
answer_for d command n = reply_bytes (answer_of d (record { command = command; status = 0; length = n; body = [] }))

-- The session of the bytes that follow the state: after the first bytes of a request, after a request with a number of missing data
-- bytes, or after the session's end.
abbrev pub to_come : Device → Held → List ℕ → Session
to_come d Nothing more = session d more
to_come d (One command) more = session d (command ∷ more)
to_come d (Two command status) more = session d (command ∷ status ∷ more)
to_come d (Three command status high) more = session d (command ∷ status ∷ high ∷ more)
to_come d (Data command n left) more =
    cond (nat_le left (length more)) (after (answer_for d command n) (session d (drop left more))) (ends (Err Cut) [])
to_come d Over more = ends (Ok End) more

-- These bytes were taken and have this answer, whatever follows them.
abbrev pub Takes : Device → Held → List ℕ → List ℕ → Held → Type 0
Takes d old bytes text new = (more : List ℕ) → to_come d old (bytes ++ more) ≡ after text (to_come d new more)

-- The whole piece was taken, it completes no request, and the session continues.
pub record Wanting (d : Device) (old : Held) (piece : List ℕ) (new : Held) : Type 0 where
  pub takes : Takes d old piece [] new
  pub on : new ≢ Over

-- The first bytes of a piece, at least one, complete a request, this is the answer, and the session continues.
pub record Answered (d : Device) (old : Held) (piece : List ℕ) (count : ℕ) (text : List ℕ) (new : Held) : Type 0 where
  pub some : 0 < count
  pub within : count ≤ length piece
  pub takes : Takes d old (take count piece) text new
  pub on : new ≢ Over

-- The first bytes of a piece end the session, whatever follows them.
pub record Finished (d : Device) (old : Held) (piece : List ℕ) (count : ℕ) (new : Held) : Type 0 where
  pub within : count ≤ length piece
  pub ends : (more : List ℕ) → to_come d old (take count piece ++ more) ≡ ends (Ok End) more
  pub over : new ≡ Over

-- The result of a piece.
abbrev pub Feeds : Device → Held → List ℕ → Fed → Held → Type 0
Feeds d old piece (fed.Answer count answer) new = Answered d old piece count (reply_bytes (reply_of answer)) new
Feeds d old piece fed.Wants new = Wanting d old piece new
Feeds d old piece (fed.End count) new = Finished d old piece count new

-- Bytes that were taken at once, and their answer.
pub record Exchange : Type 0 where
  pub bytes : List ℕ
  pub answers : List ℕ

-- Exchanges that follow each other.
abbrev pub TakesAll : Device → Held → List Exchange → Held → Type 0
TakesAll d old [] new = new ≡ old
TakesAll d old (exchange ∷ exchanges) new = (next : Held) × Takes d old exchange.bytes exchange.answers next × TakesAll d next exchanges new

-- All bytes that were taken, and all answers.
abbrev pub took_in : List Exchange → List ℕ
took_in exchanges = flat_map (λ exchange. exchange.bytes) exchanges

abbrev pub told_in : List Exchange → List ℕ
told_in exchanges = flat_map (λ exchange. exchange.answers) exchanges
