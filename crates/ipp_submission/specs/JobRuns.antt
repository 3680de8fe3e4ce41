-- Whole runs: a client that sends documents, a service, and everything that may happen to them.
use Rattle.std.specs.Prelude.{◌≡◌, ℕ, suc, ◌≤◌, Bool, true, false, cond, ◌==◌, ltb, List, [], ◌∷◌, ◌++◌, length, get_or, set}
use Rattle.std.specs.List.{list_all}
use Rattle.front_submission.specs.declared.step.Step.{Step}
use Rattle.front_submission.specs.declared.reply.Reply.TheVariants.{Later, Denied, Unclear}
use Rattle.front_submission.specs.SubmissionSteps.{request, heard, lost, supplied, deserted}
use Rattle.front_submission.specs.Service.{Other, Part, reply_to, reply_to_part}
use Rattle.front_submission.specs.SubmissionRuns.{SubmissionRun, Event, ArePieces, happens, is_none, joined, start}
use Rattle.front_submission.specs.SubmissionRuns as runs
use Rattle.ipp_submission.specs.declared.stage.Move.{Move}
use Rattle.ipp_submission.specs.declared.stage.Move.TheVariants.{Stay, CloseNext, UndoNext, UndoThis}
use Rattle.ipp_submission.specs.JobParts.{Progress, begun, closes_with_last, current, follow, is_ready, is_taking, move_after, next_part, supplied_last_in, undoing, with_current, with_document, finished}

pub record JobRun : Type 0 where
  pub progress : Progress
  -- The documents that the client has begun, as the pieces that it sends.
  pub documents : List (List (List ℕ))
  -- The submission of each document, with the service as it observes it.
  pub submissions : List SubmissionRun
  -- Whether the client has sent the end of its last document.
  pub whole : Bool

pub data JobEvent : Type 0 where
  -- The request of the part in progress is executed, and its reply is received, lost or unclear.
  Served : JobEvent
  ServedUnheard : JobEvent
  ServedUnclear : JobEvent
  -- Only some commands of its `send` are executed, and the close after them or not.
  PartServed : Part → Bool → JobEvent
  PartServedUnheard : Part → Bool → JobEvent
  PartServedUnclear : Part → Bool → JobEvent
  -- The request is not executed: its connection is lost, or the reply is unclear.
  Lost : JobEvent
  LeftUnclear : JobEvent
  -- The request is put off, or refused. The close after a piece is executed nevertheless, or not.
  PutOff : Bool → JobEvent
  TurnedDown : Bool → JobEvent
  -- No service was reachable for too long.
  Deserted : JobEvent
  -- Others act on the job of this part.
  Meanwhile : ℕ → Other → JobEvent
  -- The next piece of a document has come.
  Piece : JobEvent
  -- The last piece of the only document has come, and its end with it.
  LastPiece : JobEvent
  -- The client begins another document, for a service with this next number and filters.
  Begins : List (List ℕ) → ℕ → Bool → JobEvent
  -- The client ends its last document.
  Ends : JobEvent
  -- The client gives up, or its connection is lost.
  GivesUp : JobEvent

abbrev pub submission_at : JobRun → ℕ → SubmissionRun
submission_at w i = get_or w.submissions i (start [] w.progress.holds 0 false)

abbrev pub now : JobRun → SubmissionRun
now w = submission_at w w.progress.at

-- ## Moves to another part

-- This happens to the submission of a part.
abbrev pub with_event : JobRun → ℕ → Event → List SubmissionRun
with_event w i event = set w.submissions i (happens (submission_at w i) event)

abbrev pub follow_run : JobRun → Move → List SubmissionRun
follow_run w Stay = w.submissions
follow_run w CloseNext = cond (ltb (suc w.progress.at) (length w.progress.parts)) (with_event w (suc w.progress.at) (runs.Reads false)) w.submissions
follow_run w UndoNext = with_event w (next_part w.progress) runs.CannotRead
follow_run w UndoThis = with_event w w.progress.at runs.CannotRead

abbrev pub moving : JobRun → Move → JobRun
moving w move = record { progress = follow w.progress move; documents = w.documents; submissions = follow_run w move; whole = w.whole }

abbrev pub moved_run : JobRun → JobRun
moved_run w = moving w (move_after w.progress.stage (current w.progress))

-- ## Events

-- The part in progress has this step after this event.
abbrev pub stepped : JobRun → Event → Step → JobRun
stepped w event step =
    record { progress = with_current w.progress step; documents = w.documents; submissions = with_event w w.progress.at event; whole = w.whole }

abbrev pub told : JobRun → Event → Step → JobRun
told w event step = moved_run (stepped w event step)

abbrev pub with_submissions : JobRun → List SubmissionRun → JobRun
with_submissions w submissions = record { progress = w.progress; documents = w.documents; submissions = submissions; whole = w.whole }

-- A piece, which has some bytes, is taken if the submission is ready for it.
abbrev pub piece_at : JobRun → List (List ℕ) → JobRun
piece_at w [] = w
piece_at w (piece ∷ rest) =
    cond (is_ready w.progress)
    (cond (length piece == 0) w (stepped w (runs.Reads false) (supplied (current w.progress) (length piece) false w.progress.holds))) w

abbrev pub with_last : JobRun → List ℕ → JobRun
with_last w piece = record {
  progress = supplied_last_in w.progress (length piece);
  documents = w.documents;
  submissions = with_event w w.progress.at (runs.Reads true);
  whole = true;
}

-- The last piece is taken with the end if the submission is ready for it, and its job can be closed with it.
abbrev pub last_piece_at : JobRun → List (List ℕ) → JobRun
last_piece_at w [] = w
last_piece_at w (piece ∷ []) =
    cond (is_ready w.progress) (cond (closes_with_last w.progress) (cond (length piece == 0) w (with_last w piece)) w) w
last_piece_at w (piece ∷ (next ∷ rest)) = w

-- Each document is whole.
abbrev pub all_read : JobRun → Bool
all_read w = list_all (λ run. is_none run.rest) w.submissions

abbrev pub begins : JobRun → List (List ℕ) → ℕ → Bool → JobRun
begins w pieces given prints =
    record {
      progress = with_document w.progress;
      documents = w.documents ++ pieces ∷ [];
      submissions = w.submissions ++ start pieces w.progress.holds given prints ∷ [];
      whole = w.whole;
    }

abbrev pub ends : JobRun → JobRun
ends w = record { progress = finished w.progress; documents = w.documents; submissions = with_event w 0 (runs.Reads false); whole = true }

abbrev pub undone : JobRun → JobRun
undone w = record { progress = undoing w.progress; documents = w.documents; submissions = w.submissions; whole = w.whole }

abbrev pub job_happens : JobRun → JobEvent → JobRun
job_happens w Served = told w runs.Served (heard (current w.progress) (reply_to (now w).service (now w).piece (request (current w.progress))))
job_happens w ServedUnheard = told w runs.ServedUnheard (lost (current w.progress))
job_happens w ServedUnclear = told w runs.ServedUnclear (heard (current w.progress) Unclear)
job_happens w (PartServed part closes) =
    told w (runs.PartServed part closes) (heard (current w.progress) (reply_to_part (now w).service part closes (now w).piece (request (current w.progress))))
job_happens w (PartServedUnheard part closes) = told w (runs.PartServedUnheard part closes) (lost (current w.progress))
job_happens w (PartServedUnclear part closes) = told w (runs.PartServedUnclear part closes) (heard (current w.progress) Unclear)
job_happens w Lost = told w runs.Lost (lost (current w.progress))
job_happens w LeftUnclear = told w runs.LeftUnclear (heard (current w.progress) Unclear)
job_happens w (PutOff closes) = told w (runs.PutOff closes) (heard (current w.progress) Later)
job_happens w (TurnedDown closes) = told w (runs.TurnedDown closes) (heard (current w.progress) Denied)
job_happens w Deserted = told w runs.GivesUp (deserted (current w.progress))
job_happens w (Meanwhile part other) = with_submissions w (with_event w part (runs.Meanwhile other))
job_happens w Piece = piece_at w (now w).rest
job_happens w LastPiece = last_piece_at w (now w).rest
job_happens w (Begins pieces given prints) = cond (is_ready w.progress) (begins w pieces given prints) w
job_happens w Ends = cond (is_ready w.progress) (cond (all_read w) (ends w) w) w
job_happens w GivesUp = cond (is_taking w.progress.stage) (moved_run (undone w)) w

abbrev pub job_run : List JobEvent → JobRun → JobRun
job_run [] w = w
job_run (event ∷ events) w = job_run events (job_happens w event)

-- The start of a run, with the first document and the service's next number and filters.
abbrev pub job_start : List (List ℕ) → Bool → ℕ → Bool → JobRun
job_start pieces holds given prints =
    record { progress = begun holds; documents = pieces ∷ []; submissions = start pieces holds given prints ∷ []; whole = false }

abbrev pub job_end : List (List ℕ) → Bool → ℕ → Bool → List JobEvent → JobRun
job_end pieces holds given prints events = job_run events (job_start pieces holds given prints)

-- ## Statements about each part

abbrev pub Each : {A : Type 0} → (A → Type 0) → List A → Type 0
Each P [] = Unit {0}
Each P (x ∷ xs) = P x × Each P xs

-- The two lists have the same length, and this holds for each pair.
abbrev pub Pairs : {A B : Type 0} → (A → B → Type 0) → List A → List B → Type 0
Pairs P [] [] = Unit {0}
Pairs P [] (y ∷ ys) = ⊥
Pairs P (x ∷ xs) [] = ⊥
Pairs P (x ∷ xs) (y ∷ ys) = P x y × Pairs P xs ys

-- No two jobs of the document were ever closed.
abbrev pub ClosedAtMostOnce : List (List ℕ) → SubmissionRun → Type 0
ClosedAtMostOnce pieces run = ArePieces pieces → length run.service.closes ≤ 1

-- Exactly one job of the document was closed, with its bytes, and filters convert it for the printer.
abbrev pub IsAccepted : List (List ℕ) → SubmissionRun → Type 0
IsAccepted pieces run = ArePieces pieces → (run.service.closes ≡ joined pieces ∷ []) × (run.service.prints ≡ true)

-- No job was closed.
abbrev pub IsUnclosed : SubmissionRun → Type 0
IsUnclosed run = run.service.closes ≡ []

-- The client has sent all of the document.
abbrev pub IsWhole : SubmissionRun → Type 0
IsWhole run = run.rest ≡ []
