-- The documents of an IPP job, each submitted as a job of the service: a row for each stage and step.
use Rattle.std.specs.Prelude.{ℕ, suc, Bool, true, false, cond, ◌&&◌, not, ◌==◌, ltb, List, [], ◌∷◌, ◌++◌, length, get_or, set}
use Rattle.std.specs.List.{list_all}
use Rattle.front_submission.specs.declared.step.Step.{Step}
use Rattle.front_submission.specs.declared.step.Step.TheVariants.{Creating, Reading, Ended}
use Rattle.front_submission.specs.declared.step.Request.{Request}
use Rattle.front_submission.specs.declared.step.End.TheVariants.{Accepted, Unprintable}
use Rattle.front_submission.specs.declared.reply.Reply.{Reply}
use Rattle.front_submission.specs.SubmissionSteps.{most_tries, request, heard, lost, supplied, unread, deserted}
use Rattle.ipp_submission.specs.declared.stage.Stage.{Stage}
use Rattle.ipp_submission.specs.declared.stage.Stage.TheVariants as stages
use Rattle.ipp_submission.specs.declared.stage.Move.{Move}
use Rattle.ipp_submission.specs.declared.stage.Move.TheVariants.{Stay, CloseNext, UndoNext, UndoThis}

-- The steps of the parts, one for each document, and the part in progress.
pub record Progress : Type 0 where
  pub parts : List Step
  pub at : ℕ
  pub stage : Stage
  pub holds : Bool

-- Before the first request. `holds` states whether the job must be held.
abbrev pub begun : Bool → Progress
begun holds = record { parts = Creating most_tries ∷ []; at = 0; stage = stages.Taking; holds = holds }

abbrev pub part_at : Progress → ℕ → Step
part_at p i = get_or p.parts i (Creating most_tries)

abbrev pub current : Progress → Step
current p = part_at p p.at

abbrev pub next_request : Progress → Request
next_request p = request (current p)

-- ## Steps

abbrev pub is_reading : Step → Bool
is_reading (Reading job size) = true
is_reading step = false

abbrev pub is_ended : Step → Bool
is_ended (Ended end) = true
is_ended step = false

abbrev pub is_closed : Step → Bool
is_closed (Ended (Accepted job)) = true
is_closed (Ended (Unprintable job)) = true
is_closed step = false

abbrev pub is_accepted : Step → Bool
is_accepted (Ended (Accepted job)) = true
is_accepted step = false

-- ## Moves to another part

-- What follows a step of the part in progress.
abbrev pub move_after : Stage → Step → Move
move_after stages.Taking step = cond (is_ended step) UndoNext Stay
move_after stages.Closing step = cond (is_closed step) CloseNext (cond (is_ended step) UndoNext Stay)
move_after stages.Undoing step = cond (is_reading step) UndoThis (cond (is_ended step) UndoNext Stay)

-- The part after the last one is the first one.
abbrev pub next_part : Progress → ℕ
next_part p = cond (ltb (suc p.at) (length p.parts)) (suc p.at) 0

-- The document of this part has ended, so that its job is closed.
abbrev pub closing_at : Progress → ℕ → Progress
closing_at p i = record { parts = set p.parts i (supplied (part_at p i) 0 false p.holds); at = i; stage = stages.Closing; holds = p.holds }

-- The job of this part is canceled.
abbrev pub undoing_at : Progress → ℕ → Progress
undoing_at p i = record { parts = set p.parts i (unread (part_at p i)); at = i; stage = stages.Undoing; holds = p.holds }

abbrev pub follow : Progress → Move → Progress
follow p Stay = p
follow p CloseNext = cond (ltb (suc p.at) (length p.parts)) (closing_at p (suc p.at)) p
follow p UndoNext = undoing_at p (next_part p)
follow p UndoThis = undoing_at p p.at

abbrev pub moved : Progress → Progress
moved p = follow p (move_after p.stage (current p))

-- ## Events

abbrev pub with_current : Progress → Step → Progress
with_current p step = record { parts = set p.parts p.at step; at = p.at; stage = p.stage; holds = p.holds }

abbrev pub heard_in : Progress → Reply → Progress
heard_in p reply = moved (with_current p (heard (current p) reply))

abbrev pub lost_in : Progress → Progress
lost_in p = moved (with_current p (lost (current p)))

abbrev pub deserted_in : Progress → Progress
deserted_in p = moved (with_current p (deserted (current p)))

abbrev pub is_taking : Stage → Bool
is_taking stages.Taking = true
is_taking stages.Closing = false
is_taking stages.Undoing = false

-- The client may send a piece of the document, the next document, or the end of the last one.
abbrev pub is_ready : Progress → Bool
is_ready p = is_taking p.stage && is_reading (current p)

-- A piece of the document in progress has come.
abbrev pub supplied_in : Progress → ℕ → Progress
supplied_in p count = with_current p (supplied (current p) count false p.holds)

-- The job can be closed with the last piece: it has one document and is not held.
abbrev pub closes_with_last : Progress → Bool
closes_with_last p = (length p.parts == 1) && not p.holds

-- The last piece of the only document has come, and its end with it.
abbrev pub supplied_last_in : Progress → ℕ → Progress
supplied_last_in p count =
    record { parts = set p.parts p.at (supplied (current p) count true p.holds); at = p.at; stage = stages.Closing; holds = p.holds }

-- The next document begins.
abbrev pub with_document : Progress → Progress
with_document p = record { parts = p.parts ++ Creating most_tries ∷ []; at = length p.parts; stage = p.stage; holds = p.holds }

-- The last document is whole.
abbrev pub finished : Progress → Progress
finished p = closing_at p 0

abbrev pub undoing : Progress → Progress
undoing p = record { parts = p.parts; at = p.at; stage = stages.Undoing; holds = p.holds }

-- The client gives up. Once its last document is whole, it can only cancel the jobs.
abbrev pub given_up : Progress → Progress
given_up p = cond (is_taking p.stage) (moved (undoing p)) p

-- ## The end

-- The job of each document was closed, and filters convert it for the printer.
abbrev pub all_accepted : Progress → Bool
all_accepted p = list_all is_accepted p.parts

-- The job of each document was closed.
abbrev pub all_closed : Progress → Bool
all_closed p = list_all is_closed p.parts
