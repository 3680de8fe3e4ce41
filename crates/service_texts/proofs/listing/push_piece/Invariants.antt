-- The piece so far.
use Rattle.event_records.specs.SeenTimes.{job_times}
use Rattle.service_texts.proofs.PieceSteps.{IsSoFar}
use Rattle.service_texts.proofs.listing.push_piece.Given as goal

abbrev pub invariant-loop : goal.invariant-loop
invariant-loop l = IsSoFar l.client (job_times l.seen) l.selection l.table.state l.initial.text.items l.text.items l.count l.counter l.next
