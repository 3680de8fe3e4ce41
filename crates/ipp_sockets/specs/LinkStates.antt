-- The commands that wait for their replies on the connection to the service.
use Rattle.std.specs.Prelude.{◌≡◌, ◌⊎◌, ℕ, true, false, List, [], ◌∷◌, ◌++◌, map, is_some, Some}
use Rattle.service_client.specs.Pipelines.{HasRoom, standing}
use Rattle.service_client.specs.declared.pipeline.Answered.{Answered}
use Rattle.service_client.specs.declared.pipeline.Asked.{Asked}
use Rattle.ipp_sockets.specs.UnwrittenBytes.{IsRest, unwritten}
use Rattle.ipp_sockets.specs.declared.link.Link.{Link}
use Rattle.ipp_sockets.specs.declared.link.Tag.{Tag}

-- The commands without a reply, in the order in which they were sent.
abbrev pub waiting : {S : Type 0} → Link S → List Tag
waiting link = (standing link.pipeline).tags

-- The bytes that wait to be written.
abbrev pub unsent : {S : Type 0} → Link S → List ℕ
unsent link = unwritten link.output

-- The bytes of a reply that has not come completely.
abbrev pub begun : {S : Type 0} → Link S → List ℕ
begun link = (standing link.pipeline).rest

-- There is a connection that has the text of each command, with room for one of this length.
pub record CanAsk {S : Type 0} (link : Link S) (size : ℕ) : Type 0 where
  pub connected : is_some link.stream ≡ true
  pub whole : link.broken ≡ false
  pub room : HasRoom link.pipeline size

-- The connection, the part of a reply and the note of readiness are as before.
pub record Keeps {S : Type 0} (old new : Link S) : Type 0 where
  pub stream : new.stream ≡ old.stream
  pub reply : begun new ≡ begun old
  pub readable : new.readable ≡ old.readable

-- The command is the last to wait for its reply, and its text is the last to be written.
pub record IsAsked {S : Type 0} (tag : Tag) (text : List ℕ) (old new : Link S) : Type 0 where
  pub waits : waiting new ≡ waiting old ++ tag ∷ []
  pub text_follows : unsent new ≡ unsent old ++ text
  pub whole : new.broken ≡ false
  pub keeps : Keeps old new

-- Memory ran out. Nothing was asked, or the command waits without its text, and the connection cannot go on.
pub record IsNotAsked {S : Type 0} (tag : Tag) (old new : Link S) : Type 0 where
  pub waits : ((waiting new ≡ waiting old) × (new.broken ≡ old.broken)) ⊎ ((waiting new ≡ waiting old ++ tag ∷ []) × (new.broken ≡ true))
  pub no_text : unsent new ≡ unsent old
  pub keeps : Keeps old new

-- Each command that waited has its reply, is lost, or waits still: once, and in the order in which they were sent.
pub record AreOnce (old : List Tag) (before after : List (Answered Tag)) (lost : List (Asked Tag)) (new : List Tag) : Type 0 where
  pub more : List (Answered Tag)
  pub appended : after ≡ before ++ more
  pub in_order : map (λ answered. answered.tag) more ++ (map (λ asked. asked.tag) lost ++ new) ≡ old

-- Nothing waits on the connection.
pub record IsClear {S : Type 0} (link : Link S) : Type 0 where
  pub waits : waiting link ≡ []
  pub reply : begun link ≡ []
  pub text : unsent link ≡ []
  pub whole : link.broken ≡ false

-- There is no connection, and nothing is left of the last one.
pub record IsGivenUp {S : Type 0} (link : Link S) : Type 0 where
  pub closed : is_some link.stream ≡ false
  pub clear : IsClear link
  pub readable : link.readable ≡ false

-- The connection is new, and bytes may have come on it.
pub record IsNew {S : Type 0} (stream : S) (link : Link S) : Type 0 where
  pub stream_is : link.stream ≡ Some stream
  pub clear : IsClear link
  pub readable : link.readable ≡ true

-- The connection is kept: the first of the unwritten bytes are written, and all bytes that have come are read.
pub record Stands {S : Type 0} (old new : Link S) : Type 0 where
  pub was_connected : is_some old.stream ≡ true
  pub was_whole : old.broken ≡ false
  pub connected : is_some new.stream ≡ true
  pub whole : new.broken ≡ false
  pub written : IsRest (unsent old) (unsent new)
  pub read : new.readable ≡ false

-- Nothing is to be written, and no bytes have come.
pub record IsQuiet {S : Type 0} (link : Link S) : Type 0 where
  pub connected : is_some link.stream ≡ true
  pub whole : link.broken ≡ false
  pub text : unsent link ≡ []
  pub readable : link.readable ≡ false

-- Nothing has changed.
pub record IsSame {S : Type 0} (old new : Link S) : Type 0 where
  pub waits : waiting new ≡ waiting old
  pub text : unsent new ≡ unsent old
  pub broken : new.broken ≡ old.broken
  pub keeps : Keeps old new
