-- The results of a wait and of an accept.
use Rattle.std.specs.Prelude.{◌≡◌, ◌-◌, ◌||◌, nat_lt, Bool, ⊤, if◌then◌else◌, Result, Ok, Err}
use Rattle.std.specs.IoError.{error_kind}
use Rattle.std.specs.declared.io.Error.{Error}
use Rattle.std.specs.declared.io.ErrorKind.{ErrorKind}
use Rattle.std.specs.declared.io.ErrorKind.TheVariants.{WouldBlock}
use Rattle.mio.specs.Event.{event_token, is_writable, is_write_closed}
use Rattle.mio.specs.declared.event.event.Event.{Event}
use Rattle.client_standing.specs.declared.caller.Proved.{Proved}
use Rattle.client_standing.specs.declared.rules.RoleRules.{RoleRules}
use Rattle.service_loop.specs.declared.listener.AcceptOutcome.{AcceptOutcome}
use Rattle.service_loop.specs.declared.listener.AcceptOutcome.TheVariants as coming
use Rattle.service_loop.specs.declared.listener.Readiness.{Readiness}
use Rattle.service_loop.specs.declared.listener.Readiness.TheVariants.{Client, NewClient}
use Rattle.spool_service.specs.declared.socket.SocketConnection.{SocketConnection}
use Rattle.user_proofs.specs.declared.known.Identity.{Identity}

-- The listening sockets have the tokens 0 and 1, and a client has its key plus two.
abbrev pub readiness_of : Event → Readiness
readiness_of event =
    let token = (event_token event).0 in
    if nat_lt token 2 then NewClient else Client (token - 2) (is_writable event) (is_write_closed event)

-- No client was accepted: none is waiting, or the waiting one cannot be accepted.
abbrev pub without_client : {L : Type 0} → ErrorKind → AcceptOutcome L
without_client WouldBlock = coming.Nobody
without_client _ = coming.Failed

abbrev pub accept_outcome_of : {L : Type 0} → Result L Error → AcceptOutcome L
accept_outcome_of (Ok line) = coming.Client line
accept_outcome_of (Err error) = without_client (error_kind error)

-- A connection has the rules of its listener, and whether it came by the operators' socket.
abbrev pub has_socket : RoleRules → Bool → AcceptOutcome SocketConnection → Type 0
has_socket rules is_operators (coming.Client line) = (line.rules ≡ rules) × (line.is_operators ≡ is_operators)
has_socket rules is_operators outcome = ⊤

-- The user of the folder. A client that came by the operators' socket is an operator.
abbrev pub proved_by : Identity → Bool → Proved
proved_by identity is_operators = record { name = identity.name; is_operator = identity.is_operator || is_operators }
