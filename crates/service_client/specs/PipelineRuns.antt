-- Runs of a pipeline: commands are sent, pieces of the stream come, connections are lost.
use Rattle.std.specs.Prelude.{◌≡◌, ℕ, List, [], ◌∷◌, ◌++◌, ⊤, map, Option, Some, None}
use Rattle.std.specs.List.{flat_map}
use Rattle.service_client.specs.Pipelines.{Answer, Keeps, Standing, Takes}
use Rattle.service_client.specs.Replies.{ReplyText}

pub data Call (T : Type 0) : Type 0 where
  -- A command was sent.
  asks : T → Call T
  -- A piece has come, and completed these replies.
  takes : List ℕ → List (Answer T) → Call T
  -- A piece has come, a fault ended the connection after these replies, and these commands got none.
  breaks : List (Answer T) → List T → Call T
  -- The connection was lost, and these commands got no reply.
  loses : List T → Call T

abbrev pub nothing : {T : Type 0} → Standing T
nothing = record { tags = []; rest = [] }

-- A run between two states of a pipeline, according to the contracts.
abbrev pub IsRun : {T : Type 0} → Standing T → List (Call T) → Standing T → Type 0
IsRun old [] new = old ≡ new
IsRun old (asks tag ∷ calls) new = IsRun (record { tags = old.tags ++ tag ∷ []; rest = old.rest }) calls new
IsRun {T} old (takes piece answers ∷ calls) new = (mid : Standing T) × Takes old piece answers mid × IsRun mid calls new
IsRun {T} old (breaks answers lost ∷ calls) new = (mid : Standing T) × Keeps old answers mid × (lost ≡ mid.tags) × IsRun nothing calls new
IsRun old (loses lost ∷ calls) new = (lost ≡ old.tags) × IsRun nothing calls new

-- The outcome of a command: its reply, or none if it was lost.
pub record Outcome (T : Type 0) : Type 0 where
  pub tag : T
  pub reply : Option ReplyText

abbrev pub answered : {T : Type 0} → Answer T → Outcome T
answered answer = record { tag = answer.tag; reply = Some answer.reply }

abbrev pub lost_one : {T : Type 0} → T → Outcome T
lost_one tag = record { tag = tag; reply = None }

-- The commands that were sent, in order.
abbrev pub asked_in : {T : Type 0} → List (Call T) → List T
asked_in [] = []
asked_in (asks tag ∷ calls) = tag ∷ asked_in calls
asked_in (takes piece answers ∷ calls) = asked_in calls
asked_in (breaks answers lost ∷ calls) = asked_in calls
asked_in (loses lost ∷ calls) = asked_in calls

-- Their outcomes, as they were reported.
abbrev pub outcomes_in : {T : Type 0} → List (Call T) → List (Outcome T)
outcomes_in [] = []
outcomes_in (asks tag ∷ calls) = outcomes_in calls
outcomes_in (takes piece answers ∷ calls) = map answered answers ++ outcomes_in calls
outcomes_in (breaks answers lost ∷ calls) = map answered answers ++ (map lost_one lost ++ outcomes_in calls)
outcomes_in (loses lost ∷ calls) = map lost_one lost ++ outcomes_in calls

-- One connection: none is lost.
abbrev pub IsOneConnection : {T : Type 0} → List (Call T) → Type 0
IsOneConnection [] = ⊤
IsOneConnection (asks tag ∷ calls) = IsOneConnection calls
IsOneConnection (takes piece answers ∷ calls) = IsOneConnection calls
IsOneConnection (breaks answers lost ∷ calls) = ⊥
IsOneConnection (loses lost ∷ calls) = ⊥

-- The bytes that have come.
abbrev pub bytes_in : {T : Type 0} → List (Call T) → List ℕ
bytes_in [] = []
bytes_in (asks tag ∷ calls) = bytes_in calls
bytes_in (takes piece answers ∷ calls) = piece ++ bytes_in calls
bytes_in (breaks answers lost ∷ calls) = bytes_in calls
bytes_in (loses lost ∷ calls) = bytes_in calls

-- The replies, in order.
abbrev pub replies_in : {T : Type 0} → List (Call T) → List ReplyText
replies_in [] = []
replies_in (asks tag ∷ calls) = replies_in calls
replies_in (takes piece answers ∷ calls) = map (λ answer. answer.reply) answers ++ replies_in calls
replies_in (breaks answers lost ∷ calls) = replies_in calls
replies_in (loses lost ∷ calls) = replies_in calls
