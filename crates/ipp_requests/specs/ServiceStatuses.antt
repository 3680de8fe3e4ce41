-- The statuses of requests that the service refuses (RFC 8011 appendix B).
use Rattle.spool_types.specs.declared.refusal.Refusal.{Refusal}
use Rattle.spool_types.specs.declared.refusal.Refusal.TheVariants as refusals
use Rattle.ipp_names.specs.declared.statuses.Status.{Status}
use Rattle.ipp_names.specs.declared.statuses.Status.TheVariants.{AttributesOrValuesNotSupported, DocumentFormatNotSupported, InternalError, NotAcceptingJobs, NotAuthorized, NotFound, NotPossible, RequestEntityTooLarge, TemporaryError}
use Rattle.ipp_requests.specs.declared.refusals.ServiceError.{ServiceError}
use Rattle.ipp_requests.specs.declared.refusals.ServiceError.TheVariants.{Refused, NoJob, NoQueue, Denied, Options, Unprintable, Memory, Full, Busy, Away, Disk, Dead, EpochEnd, Unclear}

abbrev pub status_of_refusal : Refusal → Status
status_of_refusal refusals.NoQueue = NotFound
status_of_refusal refusals.QueueExists = InternalError
status_of_refusal refusals.TooManyQueues = InternalError
status_of_refusal refusals.NotAccepting = NotAcceptingJobs
status_of_refusal refusals.NoJob = NotFound
status_of_refusal refusals.NotIncoming = NotPossible
status_of_refusal refusals.TooLong = RequestEntityTooLarge
status_of_refusal refusals.OldNumber = InternalError
status_of_refusal refusals.NoNumberLeft = InternalError
status_of_refusal refusals.JobEnded = NotPossible
status_of_refusal refusals.NotWaiting = NotPossible
status_of_refusal refusals.NotNext = InternalError
status_of_refusal refusals.NotProcessing = InternalError
status_of_refusal refusals.WrongStage = InternalError
status_of_refusal refusals.NotHeld = NotPossible
status_of_refusal refusals.NotEnded = NotPossible
status_of_refusal refusals.NeedsCheckpoint = InternalError

abbrev pub status_of : ServiceError → Status
status_of (Refused refusal) = status_of_refusal refusal
status_of NoJob = NotFound
status_of NoQueue = NotFound
status_of Denied = NotAuthorized
status_of Options = AttributesOrValuesNotSupported
status_of Unprintable = DocumentFormatNotSupported
status_of Memory = TemporaryError
status_of Full = TemporaryError
status_of Busy = TemporaryError
status_of Away = TemporaryError
status_of Disk = InternalError
status_of Dead = InternalError
status_of EpochEnd = InternalError
status_of Unclear = InternalError
