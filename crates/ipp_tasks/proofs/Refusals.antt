-- No error of the service has a status of success.
use Rattle.std.proofs.Common.{◌≡◌, false, refl}
use Rattle.spool_types.specs.declared.refusal.Refusal.{Refusal}
use Rattle.spool_types.specs.declared.refusal.Refusal.TheVariants as refusals
use Rattle.ipp_requests.specs.declared.refusals.ServiceError.{ServiceError}
use Rattle.ipp_requests.specs.declared.refusals.ServiceError.TheVariants as errors
use Rattle.ipp_requests.specs.ServiceStatuses.{status_of, status_of_refusal}
use Rattle.ipp_tasks.specs.Answers.{is_success}

refusal_is_no_success : (refusal : Refusal) → is_success (status_of_refusal refusal) ≡ false
refusal_is_no_success refusals.NoQueue = refl
refusal_is_no_success refusals.QueueExists = refl
refusal_is_no_success refusals.TooManyQueues = refl
refusal_is_no_success refusals.NotAccepting = refl
refusal_is_no_success refusals.NoJob = refl
refusal_is_no_success refusals.NotIncoming = refl
refusal_is_no_success refusals.TooLong = refl
refusal_is_no_success refusals.OldNumber = refl
refusal_is_no_success refusals.NoNumberLeft = refl
refusal_is_no_success refusals.JobEnded = refl
refusal_is_no_success refusals.NotWaiting = refl
refusal_is_no_success refusals.NotNext = refl
refusal_is_no_success refusals.NotProcessing = refl
refusal_is_no_success refusals.WrongStage = refl
refusal_is_no_success refusals.NotHeld = refl
refusal_is_no_success refusals.NotEnded = refl
refusal_is_no_success refusals.NeedsCheckpoint = refl

pub error_is_no_success : (error : ServiceError) → is_success (status_of error) ≡ false
error_is_no_success (errors.Refused refusal) = refusal_is_no_success refusal
error_is_no_success errors.NoJob = refl
error_is_no_success errors.NoQueue = refl
error_is_no_success errors.Denied = refl
error_is_no_success errors.Options = refl
error_is_no_success errors.Unprintable = refl
error_is_no_success errors.Memory = refl
error_is_no_success errors.Full = refl
error_is_no_success errors.Busy = refl
error_is_no_success errors.Away = refl
error_is_no_success errors.Disk = refl
error_is_no_success errors.Dead = refl
error_is_no_success errors.EpochEnd = refl
error_is_no_success errors.Unclear = refl
