-- The commands that wait for their replies, in order.
use Rattle.std.specs.Prelude.{◌≡◌, ℕ, ◌+◌, ◌≤◌, ◌⊎◌, List, [], ◌∷◌, ◌++◌, map, sum, Option, Some, None}
use Rattle.std.specs.List.{All, flat_map}
use Rattle.service_client.specs.HeldBytes.{held}
use Rattle.service_client.specs.Replies.{IsReply, ReplyText, reply_bytes, told}
use Rattle.service_client.specs.declared.pipeline.Answered.{Answered}
use Rattle.service_client.specs.declared.pipeline.Asked.{Asked}
use Rattle.service_client.specs.declared.pipeline.Pipeline.{Pipeline}

-- The limit for the bytes of commands that wait for their replies: a socket takes them while the service reads nothing.
abbrev pub most_unanswered : ℕ
most_unanswered = 163840

-- The commands without a reply, and the bytes of a reply that has not come completely.
pub record Standing (T : Type 0) : Type 0 where
  pub tags : List T
  pub rest : List ℕ

abbrev pub standing : {T : Type 0} → Pipeline T → Standing T
standing pipeline = record { tags = map (λ asked. asked.tag) pipeline.unanswered.items; rest = held pipeline.reader }

-- The bytes of the commands without a reply.
abbrev pub unanswered_bytes : {T : Type 0} → Pipeline T → ℕ
unanswered_bytes pipeline = sum (map (λ asked. asked.length) pipeline.unanswered.items)

-- A command of this length may be sent: no other one waits, or it waits with them within the bound.
abbrev pub HasRoom : {T : Type 0} → Pipeline T → ℕ → Type 0
HasRoom pipeline length = (pipeline.unanswered.items ≡ []) ⊎ (unanswered_bytes pipeline + length ≤ most_unanswered)

-- A command and its reply.
pub record Answer (T : Type 0) : Type 0 where
  pub tag : T
  pub reply : ReplyText

abbrev pub answer_of : {T : Type 0} → Answered T → Answer T
answer_of answered = record { tag = answered.tag; reply = told answered.reply }

-- A piece of the stream has come. The replies that it completes belong to the first of the commands, one to one.
pub record Takes {T : Type 0} (old : Standing T) (piece : List ℕ) (answers : List (Answer T)) (new : Standing T) : Type 0 where
  pub in_order : map (λ answer. answer.tag) answers ++ new.tags ≡ old.tags
  pub bytes : flat_map (λ answer. reply_bytes answer.reply) answers ++ new.rest ≡ old.rest ++ piece
  pub replies : All (λ answer. IsReply answer.reply) answers

-- After a fault each command has its reply or is without one.
pub record Keeps {T : Type 0} (old : Standing T) (answers : List (Answer T)) (new : Standing T) : Type 0 where
  pub in_order : map (λ answer. answer.tag) answers ++ new.tags ≡ old.tags

-- A piece has come, and these answers were appended.
pub record Grows {T : Type 0} (old : Standing T) (piece : List ℕ) (before after : List (Answered T)) (new : Standing T) : Type 0 where
  pub more : List (Answered T)
  pub appended : after ≡ before ++ more
  pub takes : Takes old piece (map answer_of more) new

-- A fault ended the connection after these answers were appended.
pub record Ends {T : Type 0} (old : Standing T) (before after : List (Answered T)) (new : Standing T) : Type 0 where
  pub more : List (Answered T)
  pub appended : after ≡ before ++ more
  pub keeps : Keeps old (map answer_of more) new

-- A reply has come without a command: each command has its reply, and this byte ends another one.
pub record IsUnasked {T : Type 0} (old : Standing T) (byte : ℕ) : Type 0 where
  pub none : old.tags ≡ []
  pub reply : ReplyText
  pub whole : IsReply reply
  pub ends : reply_bytes reply ≡ old.rest ++ byte ∷ []

-- The same at a byte of a piece, after these answers were appended.
pub record EndsUnasked {T : Type 0} (old : Standing T) (piece : List ℕ) (before after : List (Answered T)) : Type 0 where
  pub front : List ℕ
  pub byte : ℕ
  pub left : List ℕ
  pub cut : piece ≡ front ++ byte ∷ left
  pub mid : Standing T
  pub grows : Grows old front before after mid
  pub unasked : IsUnasked mid byte
