-- The bytes that wait to be written to a connection.
use Rattle.std.specs.Prelude.{◌≡◌, ℕ, List, drop}
use Rattle.ipp_sockets.specs.declared.outgoing.Outgoing.{Outgoing}

abbrev pub unwritten : Outgoing → List ℕ
unwritten outgoing = drop outgoing.written outgoing.bytes.items

-- These are the last bytes of a text.
pub record IsRest (all rest : List ℕ) : Type 0 where
  pub count : ℕ
  pub dropped : rest ≡ drop count all
