-- The numbers and names of refusals.
use Rattle.std.specs.Prelude.{ℕ, List, codes}
use Rattle.spool_types.specs.declared.refusal.Refusal.{Refusal}
use Rattle.spool_types.specs.declared.refusal.Refusal.TheVariants.{NoQueue, QueueExists, TooManyQueues, NotAccepting, NoJob, NotIncoming, TooLong, OldNumber, NoNumberLeft, JobEnded, NotWaiting, NotNext, NotProcessing, WrongStage, NotHeld, NotEnded, NeedsCheckpoint}

abbrev pub refusal_number : Refusal → ℕ
refusal_number NoQueue = 1
refusal_number QueueExists = 2
refusal_number TooManyQueues = 3
refusal_number NotAccepting = 4
refusal_number NoJob = 5
refusal_number NotIncoming = 6
refusal_number TooLong = 7
refusal_number OldNumber = 8
refusal_number NoNumberLeft = 9
refusal_number JobEnded = 10
refusal_number NotWaiting = 11
refusal_number NotNext = 12
refusal_number NotProcessing = 13
refusal_number WrongStage = 14
refusal_number NotHeld = 15
refusal_number NotEnded = 16
refusal_number NeedsCheckpoint = 17

abbrev pub refusal_name : Refusal → List ℕ
refusal_name NoQueue = codes "NoQueue"
refusal_name QueueExists = codes "QueueExists"
refusal_name TooManyQueues = codes "TooManyQueues"
refusal_name NotAccepting = codes "NotAccepting"
refusal_name NoJob = codes "NoJob"
refusal_name NotIncoming = codes "NotIncoming"
refusal_name TooLong = codes "TooLong"
refusal_name OldNumber = codes "OldNumber"
refusal_name NoNumberLeft = codes "NoNumberLeft"
refusal_name JobEnded = codes "JobEnded"
refusal_name NotWaiting = codes "NotWaiting"
refusal_name NotNext = codes "NotNext"
refusal_name NotProcessing = codes "NotProcessing"
refusal_name WrongStage = codes "WrongStage"
refusal_name NotHeld = codes "NotHeld"
refusal_name NotEnded = codes "NotEnded"
refusal_name NeedsCheckpoint = codes "NeedsCheckpoint"
