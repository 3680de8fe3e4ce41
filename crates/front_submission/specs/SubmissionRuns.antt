-- Whole runs: a document, a submission, a service, and everything that may happen to them.
use Rattle.std.specs.Prelude.{ℕ, ◌<◌, ◌≤◌, Bool, true, false, ◌&&◌, List, [], ◌∷◌, ◌++◌, length}
use Rattle.front_submission.specs.declared.step.Step.{Step}
use Rattle.front_submission.specs.declared.step.Step.TheVariants.{Creating, Reading}
use Rattle.front_submission.specs.declared.reply.Reply.TheVariants.{Later, Denied, Unclear}
use Rattle.front_submission.specs.SubmissionSteps.{most_tries, request, heard, lost, supplied, unread, deserted}
use Rattle.front_submission.specs.Service.{NotOwn, Part, Neither, Service, served, served_part, reply_to, reply_to_part, Other, after_other}

pub record SubmissionRun : Type 0 where
  pub service : Service
  pub step : Step
  -- The piece that was read last, and the unread pieces.
  pub piece : List ℕ
  pub rest : List (List ℕ)
  -- Whether the job must be held.
  pub holds : Bool

pub data Event : Type 0 where
  -- The request is executed, and its reply is received, lost or unclear.
  Served : Event
  ServedUnheard : Event
  ServedUnclear : Event
  -- Only some commands of a `send` are executed, and the close after them or not. The reply is received, lost or unclear.
  PartServed : Part → Bool → Event
  PartServedUnheard : Part → Bool → Event
  PartServedUnclear : Part → Bool → Event
  -- The request is not executed: its connection is lost, or the reply is unclear.
  Lost : Event
  LeftUnclear : Event
  -- The request is put off, or refused. The close after a piece is executed nevertheless, or not.
  PutOff : Bool → Event
  TurnedDown : Bool → Event
  -- The next piece is read, or cannot be read. With the last piece its end may be read at once.
  Reads : Bool → Event
  CannotRead : Event
  -- No service was reachable for too long.
  GivesUp : Event
  -- Others act.
  Meanwhile : Other → Event

-- The run with this service and this step.
abbrev pub with_step : SubmissionRun → Service → Step → SubmissionRun
with_step w z step = record { service = z; step = step; piece = w.piece; rest = w.rest; holds = w.holds }

abbrev pub undone : SubmissionRun → Step → SubmissionRun
undone w step = with_step w w.service step

abbrev pub done : SubmissionRun → Step → SubmissionRun
done w step = with_step w (served w.service w.piece (request w.step)) step

abbrev pub partly_done : SubmissionRun → Part → Bool → Step → SubmissionRun
partly_done w part closes step = with_step w (served_part w.service part closes w.piece (request w.step)) step

abbrev pub is_none : List (List ℕ) → Bool
is_none [] = true
is_none (piece ∷ rest) = false

-- The next piece is read if it is needed, and with the last one its end if `end` says so. After the last piece follows one of 0 bytes.
abbrev pub read_at : SubmissionRun → Bool → Step → List (List ℕ) → SubmissionRun
read_at w end (Reading job size) [] =
    record { service = w.service; step = supplied (Reading job size) 0 end w.holds; piece = []; rest = []; holds = w.holds }
read_at w end (Reading job size) (piece ∷ rest) = record {
  service = w.service;
  step = supplied (Reading job size) (length piece) (end && is_none rest) w.holds;
  piece = piece;
  rest = rest;
  holds = w.holds;
}
read_at w end step rest = record { service = w.service; step = step; piece = w.piece; rest = rest; holds = w.holds }

abbrev pub happens : SubmissionRun → Event → SubmissionRun
happens w Served = done w (heard w.step (reply_to w.service w.piece (request w.step)))
happens w ServedUnheard = done w (lost w.step)
happens w ServedUnclear = done w (heard w.step Unclear)
happens w (PartServed part closes) = partly_done w part closes (heard w.step (reply_to_part w.service part closes w.piece (request w.step)))
happens w (PartServedUnheard part closes) = partly_done w part closes (lost w.step)
happens w (PartServedUnclear part closes) = partly_done w part closes (heard w.step Unclear)
happens w Lost = undone w (lost w.step)
happens w LeftUnclear = undone w (heard w.step Unclear)
happens w (PutOff closes) = partly_done w Neither closes (heard w.step Later)
happens w (TurnedDown closes) = partly_done w Neither closes (heard w.step Denied)
happens w (Reads end) = read_at w end w.step w.rest
happens w CannotRead = undone w (unread w.step)
happens w GivesUp = undone w (deserted w.step)
happens w (Meanwhile other) = with_step w (after_other w.service other) w.step

abbrev pub run : List Event → SubmissionRun → SubmissionRun
run [] w = w
run (event ∷ events) w = run events (happens w event)

-- The greatest length of a piece: the second of two commands has fewer bytes than the first one.
abbrev pub most_piece : ℕ
most_piece = 131071

-- No piece is empty or too long.
abbrev pub ArePieces : List (List ℕ) → Type 0
ArePieces [] = Unit {0}
ArePieces (piece ∷ rest) = (0 < length piece) × (length piece ≤ most_piece) × ArePieces rest

-- The document.
abbrev pub joined : List (List ℕ) → List ℕ
joined [] = []
joined (piece ∷ rest) = piece ++ joined rest

-- A service that has no job of the submission.
abbrev pub fresh : ℕ → Bool → Service
fresh given prints = record { fate = λ job. NotOwn; given = given; closes = []; prints = prints }

-- The start of a run, with the document's pieces and the service's next number and filters.
abbrev pub start : List (List ℕ) → Bool → ℕ → Bool → SubmissionRun
start pieces holds given prints = record { service = fresh given prints; step = Creating most_tries; piece = []; rest = pieces; holds = holds }

-- The final state of a run.
abbrev pub end_of : List (List ℕ) → Bool → ℕ → Bool → List Event → SubmissionRun
end_of pieces holds given prints events = run events (start pieces holds given prints)
