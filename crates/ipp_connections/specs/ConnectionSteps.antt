-- The state of a connection before and after each call. `ServerReads` of the library http1 says how a request is read (RFC 9112).
use Rattle.std.specs.Prelude.{◌≡◌, ℕ, ◌+◌, Bool, true, false, not, ◌||◌, ◌&&◌, ◌==◌, cond, List, [], ◌++◌, codes, drop, length, take, Ok}
use Rattle.http1.specs.Conn.{after_data, data_text, finish_text}
use Rattle.http1.specs.Fields.{Header}
use Rattle.http1.specs.Head.{response_text}
use Rattle.http1.specs.ReadError.{status_of}
use Rattle.http1.specs.Server.{ServerReads, ServerRefuses, after_end, after_informational, after_response, expects_continue, failed_server, new_server, planned_response, server_eof, with_writing, writing}
use Rattle.http1.specs.declared.conn.BodySize.TheVariants.{Known}
use Rattle.http1.specs.declared.conn.Event.{Event}
use Rattle.http1.specs.declared.conn.Event.TheVariants as events
use Rattle.http1.specs.declared.conn.Limits.{Limits}
use Rattle.http1.specs.declared.conn.Progress.{Progress}
use Rattle.http1.specs.declared.conn.Writing.{Writing}
use Rattle.http1.specs.declared.conn.Writing.TheVariants as writes
use Rattle.http1.specs.declared.error.ReadError.{ReadError}
use Rattle.http1.specs.declared.server.Server.{Server}
use Rattle.http_requests.specs.declared.route.Route.TheVariants.{Operation}
use Rattle.httparse.specs.declared.spans.HeaderSpan.{HeaderSpan}
use Rattle.httparse.specs.declared.spans.RequestSpans.{RequestSpans}
use Rattle.ipp_access.specs.declared.Place.{Place}
use Rattle.ipp_sockets.specs.UnwrittenBytes.{unwritten}
use Rattle.ipp_connections.specs.HeadParts.{IsOwn, closing, fields_of, is_head_method, piece}
use Rattle.ipp_connections.specs.declared.connection.Answer.{Answer}
use Rattle.ipp_connections.specs.declared.connection.Came.{Came}
use Rattle.ipp_connections.specs.declared.connection.Came.TheVariants as came
use Rattle.ipp_connections.specs.declared.connection.Http.{Http}

-- The state of a connection.
pub record State : Type 0 where
  pub server : Server
  -- The bytes that wait to be read as requests.
  pub input : List ℕ
  -- The part of the body that waits.
  pub body : List ℕ
  pub ended : Bool
  pub has_document : Bool
  pub is_head : Bool
  -- The bytes that wait to be written.
  pub answers : List ℕ

abbrev pub state_of : Http → State
state_of http = record {
  server = http.server;
  input = http.input.items;
  body = http.body.items;
  ended = http.ended;
  has_document = http.has_document;
  is_head = http.is_head;
  answers = unwritten http.output;
}

abbrev pub limits : Limits
limits = record { max_head_len = 16384; max_extensions_len = 16384; max_trailers_len = 16384 }

-- Before the first request.
abbrev pub first_state : State
first_state = record { server = new_server limits; input = []; body = []; ended = true; has_document = false; is_head = false; answers = [] }

-- ## The input

abbrev pub is_closed_by : Writing → Bool
is_closed_by writes.Closed = true
is_closed_by writing = false

-- No answer is possible any more.
abbrev pub is_closed : State → Bool
is_closed s = is_closed_by (writing s.server)

-- The waiting part of the body is dropped, and all bytes of a connection that takes no answer.
abbrev pub skipped : State → State
skipped s = record s { input = cond (is_closed s) [] s.input; body = [] }

abbrev pub skipped_count : State → ℕ
skipped_count s = length s.body + cond (is_closed s) (length s.input) 0

-- The state after an event. The body of a request begins empty, and grows by its data.
abbrev pub after_event : State → Event RequestSpans → State
after_event s (events.Head head) = record s { is_head = is_head_method (piece s.input head.method); ended = false; has_document = false; body = [] }
after_event s (events.Data span) = record s { body = s.body ++ piece s.input span }
after_event s (events.End count) = record s { ended = true }
after_event s event = s

-- The bytes of the event leave the input.
abbrev pub after_read : State → Progress RequestSpans → State
after_read s read = record (after_event s read.event) { input = drop read.consumed s.input }

-- The part that is reported for an event. A message of IPP is read only if the request is meant for this machine.
abbrev pub IsPartFor : List (List ℕ) → Place → List ℕ → List HeaderSpan → Event RequestSpans → Came → Type 0
IsPartFor names place input spans (events.Head head) (came.Head asked) = asked.route ≡ Ok Operation → IsOwn names place input (take head.headers spans)
IsPartFor names place input spans (events.Head head) part = ⊥
IsPartFor names place input spans (events.Data span) part = part ≡ came.Body
IsPartFor names place input spans (events.End count) part = part ≡ came.Body
IsPartFor names place input spans event part = part ≡ came.Nothing

-- The next event of the input, as the server reads it.
pub record Reads (names : List (List ℕ)) (place : Place) (old : State) (part : Came) (new : State) : Type 0 where
  pub spans : List HeaderSpan
  pub read : Progress RequestSpans
  pub server : Server
  pub reads : ServerReads old.server old.input spans server read
  pub part_is : IsPartFor names place old.input spans read.event part
  pub after : new ≡ after_read (record old { server = server }) read

-- The input is no request.
pub record Refuses (old : State) (status : ℕ) (new : State) : Type 0 where
  pub error : ReadError
  pub refuses : ServerRefuses old.server old.input 64 error
  pub status_is : status ≡ status_of error
  pub after : new ≡ record old { server = failed_server old.server error }

abbrev pub Pulls : List (List ℕ) → Place → State → Came → State → Type 0
Pulls names place old (came.Fault status) new = Refuses old status new
Pulls names place old part new = Reads names place old part new

-- The client sends nothing more.
abbrev pub after_cut : State → State
after_cut s = record s { server = (server_eof s.server (length s.input)).1 }

-- ## Answers

-- The client waits until it is asked for the body.
abbrev pub is_awaited : State → Bool
is_awaited s = expects_continue s.server && not s.ended

abbrev pub wanted : State → State
wanted s = cond (is_awaited s) (record s { server = after_informational s.server 100; answers = s.answers ++ response_text 1 100 (codes "Continue") [] }) s

abbrev pub headers_of : Answer → List Header
headers_of answer = cond answer.closes (closing (fields_of answer.media.now)) (fields_of answer.media.now)

-- The server after a part of an answer, and the text of that part.
pub record Part : Type 0 where
  pub server : Server
  pub text : List ℕ

abbrev pub with_head : Server → Answer → Part
with_head server answer = record {
  server = after_response server answer.status (Known (length answer.content.now)) (headers_of answer);
  text = planned_response server answer.status answer.phrase.now (Known (length answer.content.now)) (headers_of answer);
}

-- The answer to HEAD has no content.
abbrev pub with_content : Bool → Server → List ℕ → Part
with_content is_bare server content = cond (is_bare || (length content == 0)) (record { server = server; text = [] }) (record {
  server = with_writing server (after_data (writing server) (length content));
  text = data_text (writing server) content;
})

abbrev pub with_end : Server → Part
with_end server = record { server = after_end server; text = finish_text (writing server) [] }

-- The part is appended to a text.
pub record Appends (old : List ℕ) (part : Part) (new : List ℕ) (server : Server) : Type 0 where
  pub text : new ≡ old ++ part.text
  pub after : server ≡ part.server

-- The state after an answer: its head, its content and its end are the last to be written.
abbrev pub answered : State → Answer → State
answered s answer =
    let head = with_head s.server answer in
    let content = with_content s.is_head head.server answer.content.now in
    let end = with_end content.server in
    record s { server = end.server; answers = s.answers ++ ((head.text ++ content.text) ++ end.text) }

-- Only what the server has noted may have changed.
abbrev pub IsUnanswered : State → State → Type 0
IsUnanswered old new = new ≡ record old { server = new.server }
