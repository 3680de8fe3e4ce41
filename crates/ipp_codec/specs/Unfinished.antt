-- Octets that others complete to the spelling of a message.
use Rattle.std.specs.Prelude.{◌≡◌, ℕ, ◌<◌, ◌++◌, [], List, length, ◌⊎◌}
use Rattle.std.specs.Int.{w16, to_be_bytes}
use Rattle.ipp_values.specs.declared.message.Message.{Message}
use Rattle.ipp_codec.specs.MessageSpelling.{Spells}

-- Octets that end with the length of a name or a value, of which fewer octets follow.
pub record AwaitsField (octets part : List ℕ) : Type 0 where
  pub before : List ℕ
  pub announced : ℕ
  pub length_of_field : octets ≡ before ++ to_be_bytes w16 announced
  pub short : length part < announced

-- Nothing follows, or octets of a name or a value.
abbrev pub IsCut : List ℕ → List ℕ → Type 0
IsCut octets part = (part ≡ []) ⊎ AwaitsField octets part

-- More octets complete a message. The octets of a name or a value are examined when all of them have arrived: in place of those of the last
-- one, `part`, it may have to have others.
pub record CanComplete (octets : List ℕ) : Type 0 where
  pub front : List ℕ
  pub part : List ℕ
  pub rest : List ℕ
  pub message : Message
  pub split : octets ≡ front ++ part
  pub cut : IsCut front part
  pub more : length part < length rest
  pub spelled : Spells message (front ++ rest)
