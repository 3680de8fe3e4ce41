-- The proof of who the client is, over a new connection.
use Rattle.std.specs.Prelude.{Bool, true, not, is_some, Option, None, Some, Result, Ok, Err}
use Rattle.front_proof.specs.ProofReplies.{name_of}
use Rattle.front_proof.specs.Standings.{standing_of}
use Rattle.front_proof.specs.declared.caller.Caller.{Caller}
use Rattle.spool_front.specs.declared.client.Answer.{Answer}
use Rattle.spool_front.specs.declared.connection.Connection.{Connection}
use Rattle.service_client.specs.declared.connection.ConnectionFault.{ConnectionFault}

-- The identity of the client, over the connection that is open.
abbrev pub caller_of : Option Connection → Option Caller
caller_of None = None
caller_of (Some connection) = connection.caller

-- The service removes the folder only if it takes the proof.
abbrev pub is_left : Result (Caller × Answer) ConnectionFault → Bool
is_left (Ok claimed) = not (is_some (name_of (standing_of claimed.0)))
is_left (Err fault) = true
