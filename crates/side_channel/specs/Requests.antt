-- Requests as they are sent, and the answers to several of them.
use Rattle.std.specs.Prelude.{◌≡◌, ℕ, ◌<◌, ◌^◌, false, List, [], ◌∷◌, length}
use Rattle.std.specs.List.{flat_map}
use Rattle.side_channel.specs.Packets.{Message, spelling, kept, is_end}
use Rattle.side_channel.specs.SideAnswers.{answer_of, reply_bytes}
use Rattle.side_channel.specs.declared.devices.Device.{Device}

-- A request with all of its data.
pub record Request : Type 0 where
  pub command : ℕ
  pub status : ℕ
  pub bytes : List ℕ

-- The packet that a reader returns for the request.
abbrev pub message_of : Request → Message
message_of r = record { command = r.command; status = r.status; length = length r.bytes; body = kept r.bytes }

-- Each fits into a packet, and none ends the session.
abbrev pub AreAsked : List Request → Type 0
AreAsked [] = Unit {0}
AreAsked (r ∷ rs) = (length r.bytes < 2 ^ 16) × (is_end (message_of r) ≡ false) × AreAsked rs

-- The joined requests.
abbrev pub asked : List Request → List ℕ
asked rs = flat_map (λ r. spelling r.command r.status r.bytes) rs

-- The joined answers.
abbrev pub told : Device → List Request → List ℕ
told d rs = flat_map (λ r. reply_bytes (answer_of d (message_of r))) rs
