-- The text so far: the folder, and the queues so far.
use Rattle.std.proofs.Common.{◌≡◌, ◌∷◌, map, string_bytes, take}
use Rattle.spool_admin.specs.Record.{lines_of}
use Rattle.spool_admin.proofs.record.words_of.Given as goal

abbrev pub invariant-loop-queue : goal.invariant-loop-queue
invariant-loop-queue l = string_bytes l.text ≡ lines_of (l.into ∷ map (λ queue. queue.now) (take l.queue-index l.queues))
