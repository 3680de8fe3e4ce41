-- A service that executes each command completely or not at all, as one submission observes it: the effect of a request, and its reply.
use Rattle.std.specs.Prelude.{ℕ, zero, suc, ◌+◌, ◌-◌, Bool, true, false, cond, ◌==◌, ◌&&◌, List, [], ◌∷◌, ◌++◌, drop, length, take, None, Some}
use Rattle.front_submission.specs.SubmissionSteps.{most_sent}
use Rattle.front_submission.specs.declared.step.Request.{Request}
use Rattle.front_submission.specs.declared.step.Request.TheVariants.{Create, Find, Read, Send, Show, Hold, Close, Cancel, Nothing}
use Rattle.front_submission.specs.declared.reply.Own.{Own}
use Rattle.front_submission.specs.declared.reply.Found.{Found}
use Rattle.front_submission.specs.declared.reply.Shown.TheVariants.{Arriving, WasClosed, NoFilters, NeverClosed}
use Rattle.front_submission.specs.declared.reply.Reply.{Reply}
use Rattle.front_submission.specs.declared.reply.Reply.TheVariants.{Created, Sent, Closed, Done, Jobs, Job, Gone, NotIncoming, Denied, Unclear}

-- The state of the job with a number, if it belongs to this submission.
pub data JobFate : Type 0 where
  -- It does not belong to this submission.
  NotOwn : JobFate
  -- It is incoming and has these bytes.
  Arrives : List ℕ → JobFate
  -- It was canceled before it was closed, and may be purged after that.
  Stopped : JobFate
  StoppedGone : JobFate
  -- It was closed, and may be purged once it has ended.
  Stands : JobFate
  StandsGone : JobFate

pub record Service : Type 0 where
  pub fate : ℕ → JobFate
  -- The number of the next job.
  pub given : ℕ
  -- The documents of all jobs of this submission that were ever closed.
  pub closes : List (List ℕ)
  -- Whether filters convert to the printer's type.
  pub prints : Bool

-- ## The effect of a request

-- Only the job with this number changes.
abbrev pub changed : (ℕ → JobFate) → ℕ → (JobFate → JobFate) → ℕ → JobFate
changed fate job change k = cond (k == job) (change (fate k)) (fate k)

abbrev pub grown : List ℕ → JobFate → JobFate
grown piece (Arrives bytes) = Arrives (bytes ++ piece)
grown piece fate = fate

abbrev pub closed : JobFate → JobFate
closed (Arrives bytes) = Stands
closed fate = fate

-- A close on the condition that the document has this size.
abbrev pub closed_at : ℕ → JobFate → JobFate
closed_at size (Arrives bytes) = cond (length bytes == size) Stands (Arrives bytes)
closed_at size fate = fate

abbrev pub stopped : JobFate → JobFate
stopped (Arrives bytes) = Stopped
stopped fate = fate

abbrev pub purged : JobFate → JobFate
purged Stopped = StoppedGone
purged Stands = StandsGone
purged fate = fate

-- The closed documents, with that of this job if it is closed now.
abbrev pub with_close : JobFate → List (List ℕ) → List (List ℕ)
with_close (Arrives bytes) closes = closes ++ bytes ∷ []
with_close fate closes = closes

abbrev pub with_close_at : ℕ → JobFate → List (List ℕ) → List (List ℕ)
with_close_at size (Arrives bytes) closes = cond (length bytes == size) (closes ++ bytes ∷ []) closes
with_close_at size fate closes = closes

abbrev pub with_fate : Service → (ℕ → JobFate) → Service
with_fate z fate = record { fate = fate; given = z.given; closes = z.closes; prints = z.prints }

-- The last bytes of a piece, of this number, are those of a `send`.
abbrev pub last_bytes : ℕ → List ℕ → List ℕ
last_bytes count piece = drop (length piece - count) piece

abbrev pub with_bytes : Service → ℕ → List ℕ → Service
with_bytes z job bytes = with_fate z (changed z.fate job (grown bytes))

-- The bytes are appended, and then the job is closed if it has this size.
abbrev pub with_last : Service → ℕ → ℕ → List ℕ → Service
with_last z job size bytes = record {
  fate = changed z.fate job (λ fate. closed_at size (grown bytes fate));
  given = z.given;
  closes = with_close_at size (grown bytes (z.fate job)) z.closes;
  prints = z.prints;
}

abbrev pub with_send : Service → ℕ → Bool → ℕ → List ℕ → Service
with_send z job true size bytes = with_last z job size bytes
with_send z job false size bytes = with_bytes z job bytes

-- `piece` is the piece that was read last.
abbrev pub served : Service → List ℕ → Request → Service
served z piece Create =
    record { fate = changed z.fate z.given (λ fate. Arrives []); given = suc z.given; closes = z.closes; prints = z.prints }
served z piece (Send job size count last) = with_send z job last (size + count) (last_bytes count piece)
served z piece (Close job) =
    record { fate = changed z.fate job closed; given = z.given; closes = with_close (z.fate job) z.closes; prints = z.prints }
served z piece (Cancel job) = with_fate z (changed z.fate job stopped)
served z piece Find = z
served z piece (Read size) = z
served z piece (Show job) = z
served z piece (Hold job) = z
served z piece Nothing = z

-- The commands of a `send` that have bytes and are executed. The second one has no bytes if the first one has all.
pub data Part : Type 0 where
  Neither : Part
  First : Part
  Second : Part
  Both : Part

abbrev pub part_of : Part → List ℕ → List ℕ
part_of Neither bytes = []
part_of First bytes = take most_sent bytes
part_of Second bytes = drop most_sent bytes
part_of Both bytes = bytes

-- Only these commands of a `send` are executed, and the close after them if `closes` says so. Other requests have one command.
abbrev pub served_part : Service → Part → Bool → List ℕ → Request → Service
served_part z part closes piece (Send job size count last) =
    with_send z job (last && closes) (size + count) (part_of part (last_bytes count piece))
served_part z part closes piece Create = z
served_part z part closes piece Find = z
served_part z part closes piece (Read size) = z
served_part z part closes piece (Show job) = z
served_part z part closes piece (Hold job) = z
served_part z part closes piece (Close job) = z
served_part z part closes piece (Cancel job) = z
served_part z part closes piece Nothing = z

-- ## The reply to a request

abbrev pub arriving_at : ℕ → JobFate → List Own → List Own
arriving_at job (Arrives bytes) others = record { job = job; size = length bytes } ∷ others
arriving_at job fate others = others

-- The incoming jobs with numbers below this one.
abbrev pub arriving : (ℕ → JobFate) → ℕ → List Own
arriving fate zero = []
arriving fate (suc job) = arriving_at job (fate job) (arriving fate job)

abbrev pub found : List Own → Found
found [] = record { own = None; another = None }
found (one ∷ []) = record { own = Some one; another = None }
found (one ∷ (two ∷ others)) = record { own = Some one; another = Some two.job }

abbrev pub sent_reply : List ℕ → JobFate → Reply
sent_reply piece (Arrives bytes) = Sent (length (bytes ++ piece))
sent_reply piece fate = NotIncoming

-- One reply for the commands that have bytes and the close: that of the close if the job was closed, otherwise that of the others.
abbrev pub last_reply : Bool → ℕ → List ℕ → JobFate → Reply
last_reply prints size piece (Arrives bytes) = cond (length (bytes ++ piece) == size) (Closed prints) (Sent (length (bytes ++ piece)))
last_reply prints size piece fate = NotIncoming

abbrev pub send_reply : Service → ℕ → Bool → ℕ → List ℕ → Reply
send_reply z job true size bytes = last_reply z.prints size bytes (z.fate job)
send_reply z job false size bytes = sent_reply bytes (z.fate job)

abbrev pub shown_reply : Bool → JobFate → Reply
shown_reply prints NotOwn = Gone
shown_reply prints (Arrives bytes) = Job (Arriving (length bytes))
shown_reply prints Stopped = Job NeverClosed
shown_reply prints StoppedGone = Gone
shown_reply prints Stands = Job (cond prints WasClosed NoFilters)
shown_reply prints StandsGone = Gone

abbrev pub held_reply : JobFate → Reply
held_reply (Arrives bytes) = Done
held_reply fate = Denied

abbrev pub closed_reply : Bool → JobFate → Reply
closed_reply prints (Arrives bytes) = Closed prints
closed_reply prints fate = NotIncoming

abbrev pub canceled_reply : JobFate → Reply
canceled_reply (Arrives bytes) = Done
canceled_reply fate = Denied

abbrev pub reply_to : Service → List ℕ → Request → Reply
reply_to z piece Create = Created z.given
reply_to z piece Find = Jobs (found (arriving z.fate z.given))
reply_to z piece (Read size) = Unclear
reply_to z piece (Send job size count last) = send_reply z job last (size + count) (last_bytes count piece)
reply_to z piece (Show job) = shown_reply z.prints (z.fate job)
reply_to z piece (Hold job) = held_reply (z.fate job)
reply_to z piece (Close job) = closed_reply z.prints (z.fate job)
reply_to z piece (Cancel job) = canceled_reply (z.fate job)
reply_to z piece Nothing = Unclear

-- A command that is not executed is refused. The reply is that to the other one, if it is executed.
abbrev pub part_reply : Part → Reply → Reply
part_reply Neither reply = Denied
part_reply First reply = reply
part_reply Second reply = reply
part_reply Both reply = reply

-- The reply to a `send`, if only these commands are executed.
abbrev pub reply_to_part : Service → Part → Bool → List ℕ → Request → Reply
reply_to_part z part closes piece (Send job size count last) =
    part_reply part (send_reply z job (last && closes) (size + count) (part_of part (last_bytes count piece)))
reply_to_part z part closes piece Create = Unclear
reply_to_part z part closes piece Find = Unclear
reply_to_part z part closes piece (Read size) = Unclear
reply_to_part z part closes piece (Show job) = Unclear
reply_to_part z part closes piece (Hold job) = Unclear
reply_to_part z part closes piece (Close job) = Unclear
reply_to_part z part closes piece (Cancel job) = Unclear
reply_to_part z part closes piece Nothing = Unclear

-- ## Actions of others

pub data Other : Type 0 where
  -- A job of another submission gets a number.
  Makes : Other
  Cancels : ℕ → Other
  Purges : ℕ → Other

abbrev pub after_other : Service → Other → Service
after_other z Makes = record { fate = z.fate; given = suc z.given; closes = z.closes; prints = z.prints }
after_other z (Cancels job) = with_fate z (changed z.fate job stopped)
after_other z (Purges job) = with_fate z (changed z.fate job purged)
