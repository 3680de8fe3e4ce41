-- The roles of clients, and the requests that are allowed to each, by the owner of the job.
use Rattle.std.specs.Prelude.{ℕ, Bool, true, false, List, Option, None, Some, nat_eq}
use Rattle.std.specs.Cmp.Lexicographic.{pointwise}
use Rattle.spool_types.specs.State.{State, Job, job_at}
use Rattle.spool_types.specs.declared.event.Event.{Event}
use Rattle.spool_types.specs.declared.event.Event.TheVariants.{AddQueue, Info, SetAccept, SetStop, Create, CreateBy, Send, Close, Hold, Release, Cancel, Clock, Start, Stage, Abandon, Reopen, Purge}
use Rattle.command_lines.specs.declared.command.Command.{Command}
use Rattle.command_lines.specs.declared.command.Command.TheVariants as commands
use Rattle.service_texts.specs.declared.own_words.OwnWord.{OwnWord}
use Rattle.service_texts.specs.declared.own_words.OwnWord.TheVariants as words
use Rattle.client_reader.specs.declared.ask.Ask.{Ask}
use Rattle.client_reader.specs.declared.ask.Ask.TheVariants as asking
use Rattle.client_standing.specs.ClientStanding.{ClientStanding, is_operator_by, owns}
use Rattle.client_standing.specs.declared.caller.Caller.{Caller}
use Rattle.client_standing.specs.declared.caller.Caller.TheVariants.{Unproved, User, Operator}
use Rattle.client_standing.specs.declared.rules.Trust.{Trust}

-- ## Roles

pub data Role : Type 0 where
  -- It has proved nothing.
  stranger : Role
  -- It has proved to be this user.
  user : List ℕ → Role
  operator : Role

-- An unproved client is an operator if each is trusted.
abbrev pub unproved_role : Bool → Role
unproved_role true = operator
unproved_role false = stranger

abbrev pub role_by : Trust → Caller → Role
role_by trust Unproved = unproved_role (is_operator_by trust Unproved)
role_by trust (User name) = user name
role_by trust (Operator name) = operator

abbrev pub role_of : ClientStanding → Role
role_of c = role_by c.rules.trust c.caller

-- ## Requests

pub data Request : Type 0 where
  -- A job of this user is created.
  creates : List ℕ → Request
  -- Something is done with this job.
  concerns : ℕ → Request
  -- Something is shown, or only the client itself is concerned.
  looks : Request
  -- Queues, or all jobs, or the service are concerned.
  operates : Request

abbrev pub event_request : Event → Request
event_request (AddQueue queue) = operates
event_request (Info notes) = operates
event_request (SetAccept queue accepting) = operates
event_request (SetStop queue stopped) = operates
event_request (Create job) = creates job.user
event_request (CreateBy job by) = creates job.user
event_request (Send job bytes) = concerns job
event_request (Close closing) = concerns closing.job
event_request (Hold job until) = concerns job
event_request (Release job) = concerns job
event_request (Cancel job) = concerns job
event_request (Clock moment) = operates
event_request (Start job) = operates
event_request (Stage end) = operates
event_request (Abandon job) = operates
event_request Reopen = operates
event_request (Purge job) = operates

abbrev pub command_request : Command → Request
command_request (commands.Apply event) = event_request event
command_request (commands.Queue queue) = operates
command_request (commands.Create creation) = creates creation.user
command_request (commands.Close job name) = concerns job
command_request commands.OversizedSend = looks
command_request commands.Jobs = looks
command_request commands.Queues = looks
command_request commands.Round = operates
command_request (commands.Drain rounds) = operates
command_request commands.Checkpoint = operates
command_request commands.Malformed = looks

abbrev pub word_request : OwnWord → Request
word_request (words.Job job) = looks
word_request (words.Wait job) = concerns job
word_request (words.End job) = concerns job
word_request (words.Stop job) = concerns job
word_request words.Watch = looks
word_request (words.WatchFrom change) = looks
word_request words.Shutdown = operates
word_request words.Challenge = looks
word_request words.Prove = looks
word_request (words.Queue name) = looks
word_request (words.List selection) = looks
word_request (words.Find token) = looks
word_request words.Incoming = looks
word_request words.Room = looks
word_request words.Now = looks
word_request (words.CloseAs job name media) = concerns job
word_request (words.CloseAt job size name media) = concerns job
word_request words.Printers = looks
word_request (words.Why job) = looks

abbrev pub request_of : Ask → Request
request_of (asking.Command command) = command_request command
request_of (asking.Own word) = word_request word

-- ## The table

-- A job that does not exist may be named: the engine refuses the command.
abbrev pub may_change : ClientStanding → Option Job → Bool
may_change c None = true
may_change c (Some r) = owns c r

-- By role and request, over the table of jobs.
abbrev pub is_permitted : ClientStanding → State → Role → Request → Bool
is_permitted c s stranger (creates name) = true
is_permitted c s stranger (concerns job) = may_change c (job_at s job)
is_permitted c s stranger looks = true
is_permitted c s stranger operates = false
is_permitted c s (user own) (creates name) = pointwise nat_eq own name
is_permitted c s (user own) (concerns job) = may_change c (job_at s job)
is_permitted c s (user own) looks = true
is_permitted c s (user own) operates = false
is_permitted c s operator request = true

abbrev pub is_allowed : ClientStanding → State → Ask → Bool
is_allowed c s ask = is_permitted c s (role_of c) (request_of ask)
