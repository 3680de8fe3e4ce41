-- The bytes that a connection holds.
use Rattle.std.specs.Prelude.{◌≤◌, ◌<◌, ℕ, Bool, cond, List, length}
use Rattle.ipp_sockets.specs.UnwrittenBytes.{unwritten}
use Rattle.ipp_connections.specs.declared.connection.Http.{Http}

-- The limit for the bytes that are received at once.
abbrev pub most_received : ℕ
most_received = 16384

-- How many bytes of a body may wait while more are received: the longest message, or of a document less than a piece by one read.
abbrev pub most_waiting : Bool → ℕ
most_waiting has_document = cond has_document 49153 65536

-- More bytes may be received.
abbrev pub HasRoom : Http → Type 0
HasRoom http = (length http.input.items < 65536) × (length http.body.items < most_waiting http.has_document)

-- The bytes that wait to be read as requests, and the part of a body that waits, are bounded.
pub record IsBounded (http : Http) : Type 0 where
  pub input : length http.input.items ≤ 81919
  pub body : length http.body.items ≤ 147454

-- The part of the body that waits.
abbrev pub body_of : Http → List ℕ
body_of http = http.body.items

-- The bytes of answers that wait to be written.
abbrev pub answers_of : Http → List ℕ
answers_of http = unwritten http.output
