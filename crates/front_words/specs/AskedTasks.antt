-- The task that the arguments ask for, by the values that clap finds in them.
use Rattle.std.specs.Prelude.{◌≡◌, ⊤, ℕ, Bool, true, false, ◌&&◌, ◌||◌, ◌++◌, ◌==◌, not, List, [], ◌∷◌, Option, None, Some, IsSome, codes, drop}
use Rattle.std.specs.Prelude.{if◌then◌else◌, is_none, is_some, map, unwrap_or}
use Rattle.std.specs.List.{before_first, list_any}
use Rattle.std.specs.Option.{option_map}
use Rattle.std.specs.Str.{bytes_eq}
use Rattle.clap.specs.Words.{Row, Text, first_of, matches_of}
use Rattle.front_words.specs.Apps.{app_for}
use Rattle.front_words.specs.Forms.{form_in, skipped}
use Rattle.front_words.specs.CommandOptions.{AreFaultlessFor}
use Rattle.front_words.specs.ArgumentValues.{all_in, day_moment, is_colon, is_told, is_word, job_or_none, jobs_among, jobs_of, moment_or_none, names_among, number_or}
use Rattle.front_words.specs.declared.forms.Form.{Form}
use Rattle.front_words.specs.declared.forms.Form.TheVariants as form_is
use Rattle.front_words.specs.declared.asked.Asked.{Asked}
use Rattle.front_words.specs.declared.asked.Clear.{Clear}
use Rattle.front_words.specs.declared.asked.Hold.{Hold}
use Rattle.front_words.specs.declared.asked.Hold.TheVariants.{No, Indefinite, Until}
use Rattle.front_words.specs.declared.asked.JobAct.{JobAct}
use Rattle.front_words.specs.declared.asked.JobAct.TheVariants as act_is
use Rattle.front_words.specs.declared.asked.Lpq.{Lpq}
use Rattle.front_words.specs.declared.asked.Lpstat.{Lpstat}
use Rattle.front_words.specs.declared.asked.Moment.{Moment}
use Rattle.front_words.specs.declared.asked.NewQueue.{NewQueue}
use Rattle.front_words.specs.declared.asked.PageFile.{PageFile}
use Rattle.front_words.specs.declared.asked.QueueAct.{QueueAct}
use Rattle.front_words.specs.declared.asked.QueueAct.TheVariants as queue_is
use Rattle.front_words.specs.declared.asked.Removal.{Removal}
use Rattle.front_words.specs.declared.asked.Saying.{Saying}
use Rattle.front_words.specs.declared.asked.Status.{Status}
use Rattle.front_words.specs.declared.asked.Submission.{Submission}
use Rattle.front_words.specs.declared.asked.Task.{Task}
use Rattle.front_words.specs.declared.asked.Task.TheVariants as task_is
use Rattle.front_words.specs.declared.asked.Which.{Which}
use Rattle.front_words.specs.declared.asked.Which.TheVariants.{NotCompleted, Completed, All}

abbrev pub begins_with : ℕ → Text → Bool
begins_with first [] = false
begins_with first (b ∷ bs) = b == first

-- ---- documents

abbrev pub is_indefinite : Text → Bool
is_indefinite text = bytes_eq text (codes "hold") || bytes_eq text (codes "indefinite")

abbrev pub is_immediate : Text → Bool
is_immediate text = bytes_eq text (codes "immediate") || (bytes_eq text (codes "no-hold") || bytes_eq text (codes "resume"))

-- The hold of a value of lp's -H: until it is released, none, or until a moment.
abbrev pub handling_of : Text → Option Hold
handling_of text =
    if is_indefinite text then Some Indefinite
    else (if is_immediate text then Some No
    else option_map Until (day_moment text))

-- The hold of --at, or of --hold alone.
abbrev pub held : Bool → Option Moment → Hold
held told (Some moment) = Until moment
held true None = Indefinite
held false None = No

abbrev pub hold_by : Option Text → Option (Option Moment) → Bool → Option Hold
hold_by (Some text) at told = handling_of text
hold_by None at told = option_map (held told) at

abbrev pub hold_of : List Row → Option Hold
hold_of found = hold_by (first_of (codes "handling") found) (moment_or_none (first_of (codes "at") found)) (is_told (first_of (codes "hold") found))

-- lpr prints no number of a job.
abbrev pub is_silent : Form → Bool
is_silent form_is.Lpr = true
is_silent form = false

-- `spool submit` takes an empty document, lp and lpr do not.
abbrev pub is_filled : Form → Bool
is_filled form_is.Submit = false
is_filled form = true

-- The number of the job is not printed.
abbrev pub is_quiet : Form → List Row → Bool
is_quiet form found =
    is_silent form || (is_told (first_of (codes "quiet") found) || (is_told (first_of (codes "mail") found) || is_told (first_of (codes "write") found)))

-- The defaults are one copy and priority 50.
pub record IsSubmission (form : Form) (found : List Row) (s : Submission) : Type 0 where
  pub queue : option_map (λ text. text.now) s.queue ≡ first_of (codes "queue") found
  pub files : map (λ text. text.now) s.files.items ≡ all_in (codes "file") found
  pub title : option_map (λ text. text.now) s.title ≡ first_of (codes "title") found
  pub user : option_map (λ text. text.now) s.user ≡ first_of (codes "user") found
  pub copies : number_or 1 9999 1 (first_of (codes "copies") found) ≡ Some s.copies
  pub priority : number_or 1 100 50 (first_of (codes "priority") found) ≡ Some s.priority
  pub media : option_map (λ text. text.now) s.media ≡ first_of (codes "type") found
  pub options : map (λ text. text.now) s.options.items ≡ all_in (codes "option") found
  pub page_ranges : option_map (λ text. text.now) s.page_ranges ≡ first_of (codes "pages") found
  pub hold : hold_of found ≡ Some s.hold
  pub by : moment_or_none (first_of (codes "by") found) ≡ Some s.by
  pub wait : s.wait ≡ is_told (first_of (codes "wait") found)
  pub quiet : s.quiet ≡ is_quiet form found
  pub json : s.json ≡ is_told (first_of (codes "json") found)
  pub remove : s.remove ≡ is_told (first_of (codes "remove") found)
  pub raw : s.raw ≡ is_told (first_of (codes "literal") found)
  pub filled : s.filled ≡ is_filled form

-- Each number is in its range, and each moment is valid.
pub record FitSubmission (found : List Row) : Type 0 where
  pub copies : IsSome (number_or 1 9999 1 (first_of (codes "copies") found))
  pub priority : IsSome (number_or 1 100 50 (first_of (codes "priority") found))
  pub hold : IsSome (hold_of found)
  pub by : IsSome (moment_or_none (first_of (codes "by") found))

abbrev pub IsSubmit : Form → List Row → Task → Type 0
IsSubmit form found (task_is.Submit s) = IsSubmission form found s
IsSubmit form found other = ⊥

-- ## `lp -i JOB -H WHEN`

abbrev pub change_of : Text → Option JobAct
change_of text =
    if is_indefinite text then Some (act_is.Hold None)
    else (if is_immediate text then Some act_is.Resume
    else option_map (λ moment. act_is.Hold (Some moment)) (day_moment text))

abbrev pub change_in : Option Text → Option JobAct
change_in None = None
change_in (Some text) = change_of text

abbrev pub has_numbers : List Row → Bool
has_numbers found = is_some (first_of (codes "copies") found) || is_some (first_of (codes "priority") found)

abbrev pub has_texts : List Row → Bool
has_texts found = is_some (first_of (codes "title") found) || (is_some (first_of (codes "option") found) || is_some (first_of (codes "pages") found))

-- A document, or a change that the service cannot make.
abbrev pub has_more : List Row → Bool
has_more found = is_some (first_of (codes "file") found) || (has_numbers found || has_texts found)

abbrev pub IsAltered : ℕ → List Row → Task → Type 0
IsAltered job found (task_is.Jobs this jobs) = (change_in (first_of (codes "handling") found) ≡ Some this) × (jobs.items ≡ job ∷ [])
IsAltered job found other = ⊥

abbrev pub FitAltered : List Row → Type 0
FitAltered found = (has_more found ≡ false) × IsSome (change_in (first_of (codes "handling") found))

abbrev pub IsLpBy : Option (Option ℕ) → List Row → Task → Type 0
IsLpBy None found asked = ⊥
IsLpBy (Some None) found asked = IsSubmit form_is.Lp found asked
IsLpBy (Some (Some job)) found asked = IsAltered job found asked

abbrev pub IsLp : List Row → Task → Type 0
IsLp found asked = IsLpBy (job_or_none (first_of (codes "job") found)) found asked

abbrev pub FitLpBy : Option (Option ℕ) → List Row → Type 0
FitLpBy None found = ⊤
FitLpBy (Some None) found = FitSubmission found
FitLpBy (Some (Some job)) found = FitAltered found

abbrev pub FitLp : List Row → Type 0
FitLp found = IsSome (job_or_none (first_of (codes "job") found)) × FitLpBy (job_or_none (first_of (codes "job") found)) found

-- ---- jobs

pub record IsStatus (found : List Row) (s : Status) : Type 0 where
  pub job : job_or_none (first_of (codes "job") found) ≡ Some s.job
  pub queue : option_map (λ text. text.now) s.queue ≡ first_of (codes "queue") found
  pub json : s.json ≡ is_told (first_of (codes "json") found)
  pub watch : s.watch ≡ is_told (first_of (codes "watch") found)

abbrev pub IsStatusTask : List Row → Task → Type 0
IsStatusTask found (task_is.Status s) = IsStatus found s
IsStatusTask found other = ⊥

-- JOB is a job, and is not combined with -q or --watch.
abbrev pub FitStatus : List Row → Type 0
FitStatus found =
    IsSome (job_or_none (first_of (codes "job") found))
    × ((is_some (first_of (codes "job") found) && (is_some (first_of (codes "queue") found) || is_told (first_of (codes "watch") found))) ≡ false)

-- The action applies to the jobs, in their order.
abbrev pub IsJobs : Option JobAct → List Row → Task → Type 0
IsJobs act found (task_is.Jobs this jobs) = (act ≡ Some this) × (jobs_of (all_in (codes "job") found) ≡ Some jobs.items)
IsJobs act found other = ⊥

abbrev pub FitJobs : List Row → Type 0
FitJobs found = IsSome (jobs_of (all_in (codes "job") found))

abbrev pub until_of : List Row → Option JobAct
until_of found = option_map act_is.Hold (moment_or_none (first_of (codes "until") found))

abbrev pub FitHold : List Row → Type 0
FitHold found = IsSome (moment_or_none (first_of (codes "until") found)) × FitJobs found

-- `spool cancel`: with --keep-printing the filter or backend of a job is not terminated.
abbrev pub IsStopBy : Bool → List Row → Task → Type 0
IsStopBy true found asked = IsJobs (Some act_is.CancelOnly) found asked
IsStopBy false found asked = IsJobs (Some act_is.Cancel) found asked

abbrev pub IsStop : List Row → Task → Type 0
IsStop found asked = IsStopBy (is_told (first_of (codes "keep-printing") found)) found asked

-- The jobs of these queues, or of the default queue, are canceled.
pub record IsCleared (names : List Text) (is_usual : Bool) (owner : Option Text) (purges : Bool) (c : Clear) : Type 0 where
  pub queues : map (λ text. text.now) c.queues.items ≡ names
  pub usual : c.usual ≡ is_usual
  pub user : option_map (λ text. text.now) c.user ≡ owner
  pub purge : c.purge ≡ purges

abbrev pub IsClear : List Text → Bool → Option Text → Bool → Task → Type 0
IsClear names usual user purge (task_is.Clear c) = IsCleared names usual user purge c
IsClear names usual user purge other = ⊥

-- These jobs, and the current job of each of these queues, are canceled.
pub record IsRemoval (numbers : List ℕ) (names : List Text) (purges : Bool) (r : Removal) : Type 0 where
  pub jobs : r.jobs.items ≡ numbers
  pub queues : map (λ text. text.now) r.queues.items ≡ names
  pub purge : r.purge ≡ purges

abbrev pub IsRemove : List ℕ → List Text → Bool → Task → Type 0
IsRemove jobs names purge (task_is.Remove r) = IsRemoval jobs names purge r
IsRemove jobs names purge other = ⊥

-- `cancel`: with -a or -u the arguments are queues; otherwise each is a job, or a queue whose current job is meant.
abbrev pub IsCancelBy : Bool → List Row → Task → Type 0
IsCancelBy true found asked =
    IsClear (all_in (codes "job") found) false (first_of (codes "user") found) (is_told (first_of (codes "purge") found)) asked
IsCancelBy false found asked =
    IsRemove (jobs_among (all_in (codes "job") found)) (names_among (all_in (codes "job") found)) (is_told (first_of (codes "purge") found)) asked

abbrev pub IsCancel : List Row → Task → Type 0
IsCancel found asked = IsCancelBy (is_told (first_of (codes "all") found) || is_some (first_of (codes "user") found)) found asked

-- `lprm`: if the first argument is `-`, all jobs of the queue are canceled. Without arguments it is the current job of the queue.
abbrev pub only : Option Text → List Text
only None = []
only (Some text) = text ∷ []

abbrev pub removal_queues : List Row → Option Text → List Text
removal_queues found queue = if is_some (first_of (codes "job") found) then names_among (all_in (codes "job") found) else only queue

abbrev pub IsLprmBy : Bool → List Row → Task → Type 0
IsLprmBy true found asked = IsClear (only (first_of (codes "queue") found)) (is_none (first_of (codes "queue") found)) None false asked
IsLprmBy false found asked =
    IsRemove (jobs_among (all_in (codes "job") found)) (removal_queues found (first_of (codes "queue") found)) false asked

abbrev pub IsLprm : List Row → Task → Type 0
IsLprm found asked = IsLprmBy (is_word (codes "-") (first_of (codes "job") found)) found asked

-- An argument of lpq that asks for a repetition.
abbrev pub is_interval : Text → Bool
is_interval text = begins_with 43 text

pub record IsLpq (found : List Row) (l : Lpq) : Type 0 where
  pub queue : option_map (λ text. text.now) l.queue ≡ first_of (codes "queue") found
  pub all : l.all ≡ is_told (first_of (codes "all") found)
  pub long : l.long ≡ is_told (first_of (codes "long") found)
  pub jobs : l.jobs.items ≡ jobs_among (all_in (codes "job") found)
  pub users : map (λ text. text.now) l.users.items ≡ names_among (all_in (codes "job") found)

abbrev pub IsLpqTask : List Row → Task → Type 0
IsLpqTask found (task_is.Lpq l) = IsLpq found l
IsLpqTask found other = ⊥

abbrev pub FitLpq : List Row → Type 0
FitLpq found = list_any is_interval (all_in (codes "job") found) ≡ false

-- The jobs of `lpstat -W`.
abbrev pub which_of : Text → Option Which
which_of text =
    if bytes_eq text (codes "not-completed") then Some NotCompleted
    else (if bytes_eq text (codes "completed") then Some Completed
    else (if bytes_eq text (codes "all") then Some All
    else None))

abbrev pub which_in : Option Text → Option Which
which_in None = Some NotCompleted
which_in (Some text) = which_of text

pub record IsLpstat (found : List Row) (l : Lpstat) : Type 0 where
  pub scheduler : l.scheduler ≡ is_told (first_of (codes "scheduler") found)
  pub usual : l.usual ≡ is_told (first_of (codes "usual") found)
  pub all : l.all ≡ is_told (first_of (codes "all") found)
  pub summary : l.summary ≡ is_told (first_of (codes "summary") found)
  pub destinations : l.destinations ≡ is_told (first_of (codes "destinations") found)
  pub server : l.server ≡ is_told (first_of (codes "server") found)
  pub printers : option_map (λ text. text.now) l.printers ≡ first_of (codes "printers") found
  pub accepting : option_map (λ text. text.now) l.accepting ≡ first_of (codes "accepting") found
  pub devices : option_map (λ text. text.now) l.devices ≡ first_of (codes "devices") found
  pub classes : option_map (λ text. text.now) l.classes ≡ first_of (codes "classes") found
  pub jobs : option_map (λ text. text.now) l.jobs ≡ first_of (codes "jobs") found
  pub users : option_map (λ text. text.now) l.users ≡ first_of (codes "users") found
  pub which : which_in (first_of (codes "which") found) ≡ Some l.which
  pub long : l.long ≡ is_told (first_of (codes "long") found)
  pub described : l.described ≡ is_told (first_of (codes "described") found)
  pub names : map (λ text. text.now) l.names.items ≡ all_in (codes "name") found

abbrev pub IsLpstatTask : List Row → Task → Type 0
IsLpstatTask found (task_is.Lpstat l) = IsLpstat found l
IsLpstatTask found other = ⊥

abbrev pub FitLpstat : List Row → Type 0
FitLpstat found = IsSome (which_in (first_of (codes "which") found))

-- ---- queues

-- The action applies to the queue NAME.
abbrev pub IsQueue : (QueueAct → Type 0) → List Row → Task → Type 0
IsQueue IsDone found (task_is.Queue name act) = (first_of (codes "name") found ≡ Some name.now) × IsDone act
IsQueue IsDone found other = ⊥

abbrev pub FitQueue : List Row → Type 0
FitQueue found = IsSome (first_of (codes "name") found)

-- `cupsenable` and the like: the action applies to each queue NAME.
abbrev pub IsSwitch : QueueAct → List Row → Task → Type 0
IsSwitch act found (task_is.Switch names this clears) =
    (map (λ text. text.now) names.items ≡ all_in (codes "name") found) × (this ≡ act) × (clears ≡ is_told (first_of (codes "cancel") found))
IsSwitch act found other = ⊥

-- `lpoptions -d DEST`
abbrev pub IsDefault : List Row → Task → Type 0
IsDefault found (task_is.Default queue) = first_of (codes "default") found ≡ Some queue.now
IsDefault found other = ⊥

-- Options that would be stored or shown.
abbrev pub has_options : List Row → Bool
has_options found =
    is_some (first_of (codes "queue") found) || (is_told (first_of (codes "list") found) || (is_some (first_of (codes "option") found)
    || (is_some (first_of (codes "drop") found) || is_some (first_of (codes "forget") found))))

abbrev pub FitDefault : List Row → Type 0
FitDefault found = (has_options found ≡ false) × IsSome (first_of (codes "default") found)

-- The text is one of the four policies.
abbrev pub is_policy : Text → Bool
is_policy text =
    bytes_eq text (codes "abort-job") || (bytes_eq text (codes "retry-job") || (bytes_eq text (codes "retry-current-job") || bytes_eq text (codes "stop-printer")))

abbrev pub policy_in : List Row → Text
policy_in found = unwrap_or (first_of (codes "policy") found) (codes "retry-job")

-- The defaults are PDF, an interval of 30 seconds and five attempts.
pub record IsNew (found : List Row) (q : NewQueue) : Type 0 where
  pub uri : first_of (codes "uri") found ≡ Some q.uri.now
  pub media : q.media.now ≡ unwrap_or (first_of (codes "media") found) (codes "application/pdf")
  pub policy : q.policy.now ≡ policy_in found
  pub interval : number_or 0 86400 30 (first_of (codes "interval") found) ≡ Some q.interval
  pub limit : number_or 0 65535 5 (first_of (codes "limit") found) ≡ Some q.limit

abbrev pub IsAdd : List Row → QueueAct → Type 0
IsAdd found (queue_is.Add q) = IsNew found q
IsAdd found act = ⊥

pub record FitNew (found : List Row) : Type 0 where
  pub uri : IsSome (first_of (codes "uri") found)
  pub policy : is_policy (policy_in found) ≡ true
  pub interval : IsSome (number_or 0 86400 30 (first_of (codes "interval") found))
  pub limit : IsSome (number_or 0 65535 5 (first_of (codes "limit") found))
  pub name : FitQueue found

abbrev pub IsSet : List Row → QueueAct → Type 0
IsSet found (queue_is.Set info location) =
    (info.now ≡ unwrap_or (first_of (codes "info") found) []) × (location.now ≡ unwrap_or (first_of (codes "location") found) [])
IsSet found act = ⊥

abbrev pub IsShow : List Row → Task → Type 0
IsShow found (task_is.ShowQueue name json) = (first_of (codes "name") found ≡ Some name.now) × (json ≡ is_told (first_of (codes "json") found))
IsShow found other = ⊥

pub record IsPageFile (found : List Row) (p : PageFile) : Type 0 where
  pub file : first_of (codes "file") found ≡ Some p.file.now
  pub queue : option_map (λ text. text.now) p.queue ≡ first_of (codes "queue") found
  pub user : option_map (λ text. text.now) p.user ≡ first_of (codes "user") found
  pub follow : p.follow ≡ is_told (first_of (codes "follow") found)

abbrev pub IsPage : List Row → Task → Type 0
IsPage found (task_is.Page p) = IsPageFile found p
IsPage found other = ⊥

pub record IsSaying (found : List Row) (s : Saying) : Type 0 where
  pub commands : map (λ text. text.now) s.commands.items ≡ all_in (codes "command") found
  pub until_end : s.until_end ≡ is_told (first_of (codes "until-end") found)
  pub json : s.json ≡ is_told (first_of (codes "json") found)

abbrev pub IsSay : List Row → Task → Type 0
IsSay found (task_is.Say s) = IsSaying found s
IsSay found other = ⊥

-- ---- all tasks

-- The found values ask for this task.
abbrev pub IsTask : Form → List Row → Task → Type 0
IsTask form_is.Submit found asked = IsSubmit form_is.Submit found asked
IsTask form_is.Status found asked = IsStatusTask found asked
IsTask form_is.Queues found asked = asked ≡ task_is.Queues (is_told (first_of (codes "json") found))
IsTask form_is.Watch found asked = asked ≡ task_is.Watch (is_told (first_of (codes "json") found))
IsTask form_is.Cancel found asked = IsStop found asked
IsTask form_is.Hold found asked = IsJobs (until_of found) found asked
IsTask (form_is.Plain act) found asked = IsJobs (Some (act_is.Plain act)) found asked
IsTask form_is.QueueShow found asked = IsShow found asked
IsTask form_is.QueueAdd found asked = IsQueue (IsAdd found) found asked
IsTask form_is.QueueSet found asked = IsQueue (IsSet found) found asked
IsTask form_is.QueueAccept found asked = IsQueue (λ act. act ≡ queue_is.Accept) found asked
IsTask form_is.QueueReject found asked = IsQueue (λ act. act ≡ queue_is.Reject) found asked
IsTask form_is.QueueEnable found asked = IsQueue (λ act. act ≡ queue_is.Enable) found asked
IsTask form_is.QueueDisable found asked = IsQueue (λ act. act ≡ queue_is.Disable) found asked
IsTask form_is.Devices found asked = asked ≡ task_is.Devices
IsTask form_is.Check found asked = asked ≡ task_is.Check (is_told (first_of (codes "json") found))
IsTask form_is.Page found asked = IsPage found asked
IsTask form_is.Say found asked = IsSay found asked
IsTask form_is.Lp found asked = IsLp found asked
IsTask form_is.Lpr found asked = IsSubmit form_is.Lpr found asked
IsTask form_is.Lpstat found asked = IsLpstatTask found asked
IsTask form_is.CancelJobs found asked = IsCancel found asked
IsTask form_is.Lpq found asked = IsLpqTask found asked
IsTask form_is.Lprm found asked = IsLprm found asked
IsTask form_is.Lpoptions found asked = IsDefault found asked
IsTask form_is.Lpmove found asked = ⊥
IsTask form_is.CupsEnable found asked = IsSwitch queue_is.Enable found asked
IsTask form_is.CupsDisable found asked = IsSwitch queue_is.Disable found asked
IsTask form_is.CupsAccept found asked = IsSwitch queue_is.Accept found asked
IsTask form_is.CupsReject found asked = IsSwitch queue_is.Reject found asked
IsTask form_is.Other found asked = ⊥

-- The found values fit the form's task.
abbrev pub FitTask : Form → List Row → Type 0
FitTask form_is.Submit found = FitSubmission found
FitTask form_is.Status found = FitStatus found
FitTask form_is.Queues found = ⊤
FitTask form_is.Watch found = ⊤
FitTask form_is.Cancel found = FitJobs found
FitTask form_is.Hold found = FitHold found
FitTask (form_is.Plain act) found = FitJobs found
FitTask form_is.QueueShow found = FitQueue found
FitTask form_is.QueueAdd found = FitNew found
FitTask form_is.QueueSet found = FitQueue found
FitTask form_is.QueueAccept found = FitQueue found
FitTask form_is.QueueReject found = FitQueue found
FitTask form_is.QueueEnable found = FitQueue found
FitTask form_is.QueueDisable found = FitQueue found
FitTask form_is.Devices found = ⊤
FitTask form_is.Check found = ⊤
FitTask form_is.Page found = IsSome (first_of (codes "file") found)
FitTask form_is.Say found = ⊤
FitTask form_is.Lp found = FitLp found
FitTask form_is.Lpr found = FitSubmission found
FitTask form_is.Lpstat found = FitLpstat found
FitTask form_is.CancelJobs found = ⊤
FitTask form_is.Lpq found = FitLpq found
FitTask form_is.Lprm found = ⊤
FitTask form_is.Lpoptions found = FitDefault found
FitTask form_is.Lpmove found = ⊥
FitTask form_is.CupsEnable found = ⊤
FitTask form_is.CupsDisable found = ⊤
FitTask form_is.CupsAccept found = ⊤
FitTask form_is.CupsReject found = ⊤
FitTask form_is.Other found = ⊥

-- ## The service, and who asks

abbrev pub is_path : Text → Bool
is_path text = begins_with 47 text

-- -h: `localhost`, with or without a port, or the path of a socket.
abbrev pub is_near : Option Text → Bool
is_near None = true
is_near (Some text) = is_path text || bytes_eq (before_first is_colon text) (codes "localhost")

abbrev pub host_part : Option Text → List Text
host_part None = []
host_part (Some text) = if is_path text then text ∷ [] else []

-- Another user cannot be named.
abbrev pub FitCaller : List Row → Type 0
FitCaller found = (is_near (first_of (codes "host") found) ≡ true) × (is_some (first_of (codes "as-user") found) ≡ false)

-- The found values fit.
abbrev pub Fit : Form → List Row → Type 0
Fit form found = FitCaller found × FitTask form found

-- The task, and the sockets of the services it is for.
abbrev pub IsAskedIn : Form → List Row → Asked → Type 0
IsAskedIn form found asked =
    (map (λ text. text.now) asked.sockets.items ≡ all_in (codes "socket") found ++ host_part (first_of (codes "host") found)) × IsTask form found asked.task

-- The values that clap finds by the form's command.
abbrev pub found_in : List Text → List Row
found_in words = matches_of (app_for (form_in words)) (drop (skipped (form_in words)) words)

-- The arguments ask for this.
abbrev pub IsAsked : List Text → Asked → Type 0
IsAsked words asked = IsAskedIn (form_in words) (found_in words) asked

-- Clap finds no error in the arguments of their form, and the values that it finds fit a task.
abbrev pub AreTaken : List Text → Type 0
AreTaken words =
    AreFaultlessFor (app_for (form_in words)) (drop (skipped (form_in words)) words) × Fit (form_in words) (found_in words)
