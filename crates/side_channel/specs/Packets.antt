-- Packets: command, status, the data's length in two bytes, most significant byte first, and the data (cups/sidechannel.h).
use Rattle.std.specs.Prelude.{ℕ, Bool, ◌&&◌, cond, nat_le, ◌==◌}
use Rattle.std.specs.Prelude.{List, [], ◌∷◌, ◌++◌, length, take, drop}
use Rattle.std.specs.Int.{w16, from_be_bytes, to_be_bytes}

-- The data that a packet stores have at most 2,048 bytes.
abbrev pub most_data : ℕ
most_data = 2048

-- A packet as its callers see it: the length is the length of its data, and the body is the stored data.
pub record Message : Type 0 where
  pub command : ℕ
  pub status : ℕ
  pub length : ℕ
  pub body : List ℕ

-- The bytes of a packet with these data.
abbrev pub spelling : ℕ → ℕ → List ℕ → List ℕ
spelling command status bytes = command ∷ status ∷ (to_be_bytes w16 (length bytes) ++ bytes)

-- Data of more than 2,048 bytes are skipped.
abbrev pub kept : List ℕ → List ℕ
kept bytes = cond (nat_le (length bytes) most_data) bytes []

-- The length of a packet's body.
abbrev pub kept_len : ℕ → ℕ
kept_len n = cond (nat_le n most_data) n 0

-- The first packet of some bytes: none, a truncated packet, or a whole packet and the bytes after it.
pub data Front : Type 0 where
  nothing : Front
  cut : Front
  whole : Message → List ℕ → Front

-- A packet whose data of n bytes come next.
abbrev pub with_data : ℕ → ℕ → ℕ → List ℕ → Front
with_data command status n rest =
    cond (nat_le n (length rest))
    (whole (record { command = command; status = status; length = n; body = kept (take n rest) }) (drop n rest))
    cut

abbrev pub front_of : List ℕ → Front
front_of [] = nothing
front_of (command ∷ []) = cut
front_of (command ∷ status ∷ []) = cut
front_of (command ∷ status ∷ high ∷ []) = cut
front_of (command ∷ status ∷ high ∷ low ∷ rest) =
    with_data command status (from_be_bytes w16 (high ∷ low ∷ [])) rest

-- The bytes do not begin with a whole packet.
abbrev pub IsShort : Front → Type 0
IsShort nothing = Unit {0}
IsShort cut = Unit {0}
IsShort (whole p rest) = ⊥

-- Only FF 00 00 00, byte for byte, ends a session.
abbrev pub is_end : Message → Bool
is_end p = (p.command == 255) && (p.status == 0) && (p.length == 0)
