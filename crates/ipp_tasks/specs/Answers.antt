-- When a request that prints is answered with success.
use Rattle.std.specs.Prelude.{◌≡◌, Bool, true, false, not, ◌||◌}
use Rattle.ipp_names.specs.declared.statuses.Status.{Status}
use Rattle.ipp_names.specs.declared.statuses.Status.TheVariants.{SuccessfulOk, SuccessfulOkIgnoredOrSubstitutedAttributes}
use Rattle.ipp_submission.specs.JobParts.{all_accepted}
use Rattle.ipp_tasks.specs.declared.job_changes.ChangeKind.{ChangeKind}
use Rattle.ipp_tasks.specs.declared.job_changes.ChangeKind.TheVariants as changes
use Rattle.ipp_tasks.specs.declared.submitting.NewKind.{NewKind}
use Rattle.ipp_tasks.specs.declared.submitting.NewKind.TheVariants as kinds
use Rattle.ipp_tasks.specs.declared.submitting.Submitting.{Submitting}
use Rattle.ipp_tasks.specs.declared.tasks.Outcome.{Outcome}
use Rattle.ipp_tasks.specs.declared.tasks.Outcome.TheVariants.{Going, Done}
use Rattle.ipp_tasks.specs.declared.tasks.Task.{Task}
use Rattle.ipp_tasks.specs.declared.tasks.Work.{Work}
use Rattle.ipp_tasks.specs.declared.tasks.Work.TheVariants.{ChangeJob, New, Printing}

abbrev pub is_success : Status → Bool
is_success SuccessfulOk = true
is_success SuccessfulOkIgnoredOrSubstitutedAttributes = true
is_success status = false

-- The request is answered, and the status is successful-ok or one of its kind.
abbrev pub says_ok : Outcome → Bool
says_ok Going = false
says_ok (Done status groups) = is_success status

-- Success is allowed: a document follows, or the service has accepted the job of each document.
abbrev pub may_succeed : Submitting → Bool
may_succeed s = not s.is_last || all_accepted s.job.submission

-- Validate-Job creates no job.
abbrev pub is_created : NewKind → Bool
is_created kinds.Validate = false
is_created kind = true

-- The request is a document for a job that takes none.
abbrev pub is_no_change : ChangeKind → Bool
is_no_change changes.Nothing = true
is_no_change kind = false

-- The request creates a job, sends a document, or closes a job.
abbrev pub prints_by : Work → Bool
prints_by (New new) = is_created new.kind
prints_by (Printing s) = true
prints_by (ChangeJob change) = is_no_change change.kind
prints_by work = false

abbrev pub prints : Task → Bool
prints task = prints_by task.work

abbrev pub may_succeed_by : Work → Bool
may_succeed_by (Printing s) = may_succeed s
may_succeed_by work = false

-- Each document of the request is accepted, or another one follows.
abbrev pub is_accepted : Task → Bool
is_accepted task = may_succeed_by task.work

-- Success is answered only then.
abbrev pub MayAnswer : Task → Outcome → Type 0
MayAnswer task outcome = says_ok outcome ≡ true → is_accepted task ≡ true
