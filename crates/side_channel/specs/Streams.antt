-- The effect of a call on a reader and a writer whose bytes are known.
use Rattle.std.specs.Prelude.{◌≡◌, ℕ, ◌<◌, List, [], ◌++◌, length, take, ⊤}
use Rattle.std.specs.Prelude.{Option, None, Some, Result, Ok, Err}
use Rattle.std.specs.Io.KnownBytes.{Appends, Consumes, IsAtEnd}
use Rattle.whole_writes.specs.Writes.{WroteSome}
use Rattle.side_channel.specs.Packets.{Message, IsShort, kept, front_of, cut, whole}
use Rattle.side_channel.specs.SideSessions.{Session, session}
use Rattle.side_channel.specs.declared.devices.Device.{Device}
use Rattle.side_channel.specs.declared.endings.Ending.{Ending}
use Rattle.side_channel.specs.declared.endings.SideFault.{SideFault}
use Rattle.side_channel.specs.declared.endings.SideFault.TheVariants.{Read, Write, Cut, Memory}

-- A prefix of the bytes was written.
pub record WroteFront (old new : Option (List ℕ)) (bytes : List ℕ) : Type 0 where
  pub count : ℕ
  pub front : Appends old new (take count bytes)

-- These bytes were read. They are a packet whatever follows them.
pub record ReadWhole (old new : Option (List ℕ)) (p : Message) : Type 0 where
  pub bytes : List ℕ
  pub read : Consumes old new bytes
  pub is : (more : List ℕ) → front_of (bytes ++ more) ≡ whole p more

-- Fewer than n bytes were read.
pub record ReadFewer (old new : Option (List ℕ)) (n : ℕ) : Type 0 where
  pub bytes : List ℕ
  pub fewer : length bytes < n
  pub read : Consumes old new bytes

-- n bytes of data were read.
pub record SkipsData (old new : Option (List ℕ)) (n : ℕ) : Type 0 where
  pub bytes : List ℕ
  pub all : length bytes ≡ n
  pub read : Consumes old new bytes

-- n bytes of data were read, and the body is the stored part.
pub record TakesData (old new : Option (List ℕ)) (n : ℕ) (body : List ℕ) : Type 0 where
  pub bytes : List ℕ
  pub all : length bytes ≡ n
  pub read : Consumes old new bytes
  pub kept_is : body ≡ kept bytes

-- n bytes of data were not read. If memory ran out, none of them was read. If the reader ended, all existing bytes were.
abbrev pub FailsData : Option (List ℕ) → Option (List ℕ) → ℕ → SideFault → Type 0
FailsData old new n Read = ReadFewer old new n
FailsData old new n Write = ⊥
FailsData old new n Cut = ReadFewer old new n × IsAtEnd new
FailsData old new n Memory = (0 < n) × Consumes old new []

-- No whole packet was read.
pub record ReadPart (old new : Option (List ℕ)) : Type 0 where
  pub bytes : List ℕ
  pub read : Consumes old new bytes
  pub short : IsShort (front_of bytes)

-- The reader ended inside a packet.
pub record ReadCut (old new : Option (List ℕ)) : Type 0 where
  pub bytes : List ℕ
  pub read : Consumes old new bytes
  pub is : front_of bytes ≡ cut
  pub end : IsAtEnd new

-- A packet's first four bytes were read, and its data were not.
pub record ReadHead (old new : Option (List ℕ)) : Type 0 where
  pub bytes : List ℕ
  pub read : Consumes old new bytes
  pub head : length bytes ≡ 4
  pub short : IsShort (front_of bytes)

-- The reader was at its end.
pub record ReadNothing (old new : Option (List ℕ)) : Type 0 where
  pub read : Consumes old new []
  pub end : IsAtEnd new

-- The effect of reading a packet.
abbrev pub ReadsPacket : Option (List ℕ) → Option (List ℕ) → Result (Option Message) SideFault → Type 0
ReadsPacket old new (Ok (Some p)) = ReadWhole old new p
ReadsPacket old new (Ok None) = ReadNothing old new
ReadsPacket old new (Err Read) = ReadPart old new
ReadsPacket old new (Err Write) = ⊥
ReadsPacket old new (Err Cut) = ReadCut old new
ReadsPacket old new (Err Memory) = ReadHead old new

-- The effect of writing a packet.
abbrev pub WritesPacket :
    Option (List ℕ) → Option (List ℕ) → List ℕ → Result (Unit {0}) SideFault → Type 0
WritesPacket old new bytes (Ok done) = Appends old new bytes
WritesPacket old new bytes (Err Write) = WroteSome old new bytes
WritesPacket old new bytes (Err fault) = ⊥

-- The text is the bytes of the reader, if they are known.
abbrev pub Tells : Option (List ℕ) → List ℕ → Type 0
Tells None text = ⊤
Tells (Some known) text = known ≡ text

-- A complete session: it has this ending, its answers were written, and the bytes after its end are still unread.
pub record Ended (s : Session) (ending : Result Ending SideFault) (left old new : Option (List ℕ)) : Type 0 where
  pub ending_is : s.ending ≡ ending
  pub rest : Tells left s.rest
  pub wrote : Appends old new s.text

-- A session as far as it went. After an error of the reader or the writer, or out of memory, a prefix of its answers was written.
abbrev pub IsSession :
    Session → Result Ending SideFault → Option (List ℕ) → Option (List ℕ) → Option (List ℕ) → Type 0
IsSession s (Ok ending) left old new = Ended s (Ok ending) left old new
IsSession s (Err Cut) left old new = Ended s (Err Cut) left old new
IsSession s (Err fault) left old new = WroteFront old new s.text

-- The whole packets that were read are answered. If the writer failed, the last answer may be incomplete.
abbrev pub IsAnswered : List ℕ → Result Ending SideFault → Option (List ℕ) → Option (List ℕ) → Type 0
IsAnswered text (Err Write) old new = WroteSome old new text
IsAnswered text result old new = Appends old new text

-- A session over the bytes of the reader.
pub record HoldsSession
    (d : Device) (known left old new : Option (List ℕ)) (result : Result Ending SideFault) : Type 0 where
  pub bytes : List ℕ
  pub had : Tells known bytes
  pub is : IsSession (session d bytes) result left old new

-- The bytes that were read are answered.
pub record AnswersWhatItRead
    (d : Device) (known left old new : Option (List ℕ)) (result : Result Ending SideFault) : Type 0 where
  pub bytes : List ℕ
  pub read : Consumes known left bytes
  pub are : IsAnswered (session d bytes).text result old new
