-- The entry of the queue is removed, and no other changes.
use Rattle.event_records.proofs.seen.Seen.forget_queue.Goals as goal

pub returns : goal.returns
returns c = λ q. c.remove.ensures.updates.0 q
