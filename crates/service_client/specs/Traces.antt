-- The trace of a connection: the bytes that were sent and the bytes that have come.
use Rattle.std.specs.Prelude.{◌≡◌, ℕ, List, [], ◌∷◌, ◌++◌, ⊤, Option, None, Some, Vec}
use Rattle.std.specs.Global.{Global}
use Rattle.std.specs.List.{All, flat_map}
use Rattle.service_client.specs.Lines.{lines_text}
use Rattle.service_client.specs.Pipelines.{Grows, Standing}
use Rattle.service_client.specs.Replies.{IsReply, ReplyText, reply_bytes}
use Rattle.service_client.specs.declared.pipeline.Answered.{Answered}

-- These bytes follow those that were reported before. A connection that reports nothing never does.
abbrev pub Adds : Option (List ℕ) → List ℕ → Option (List ℕ) → Type 0
Adds None more new = new ≡ None
Adds (Some before) more new = new ≡ Some (before ++ more)

-- The report is these bytes, if there is one.
abbrev pub Reports : Option (List ℕ) → List ℕ → Type 0
Reports None bytes = ⊤
Reports (Some all) bytes = all ≡ bytes

-- Bytes have come, and the replies that they completed were appended, each with its command.
pub record Receives {T : Type 0} (old : Standing T) (came : Option (List ℕ)) (before after : List (Answered T)) (new : Standing T) (has : Option (List ℕ)) : Type 0 where
  pub piece : List ℕ
  pub adds : Adds came piece has
  pub grows : Grows old piece before after new

-- The same, and then this command was sent.
pub record Sends {T : Type 0} (old : Standing T) (came : Option (List ℕ)) (before after : List (Answered T)) (tag : T) (new : Standing T) (has : Option (List ℕ)) : Type 0 where
  pub mid : Standing T
  pub receives : Receives old came before after mid has
  pub tags : new.tags ≡ mid.tags ++ tag ∷ []
  pub rest : new.rest ≡ mid.rest

-- Bytes have come, and ended these lines, which belong to no command.
pub record Hears (rest : List ℕ) (came : Option (List ℕ)) (lines : List (Vec ℕ Global)) (new : List ℕ) (has : Option (List ℕ)) : Type 0 where
  pub piece : List ℕ
  pub adds : Adds came piece has
  pub are_lines : lines_text lines ++ new ≡ rest ++ piece

-- A command and its reply.
pub record Exchange : Type 0 where
  pub command : List ℕ
  pub reply : ReplyText

-- The commands and the replies of a connection, in pairs. No command waits for its reply.
pub record IsTalk (sent came : Option (List ℕ)) (rest : List ℕ) (exchanges : List Exchange) : Type 0 where
  pub commands : Reports sent (flat_map (λ exchange. exchange.command) exchanges)
  pub replies : Reports came (flat_map (λ exchange. reply_bytes exchange.reply) exchanges ++ rest)
  pub each : All (λ exchange. IsReply exchange.reply) exchanges
