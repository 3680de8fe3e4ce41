-- No queue so far has the name.
use Rattle.std.proofs.Common.{◌≡◌, drop}
use Rattle.front_texts.specs.Page.{queue_state}
use Rattle.front_texts.proofs.web_page.queue_state.Given as goal

abbrev pub invariant-loop-queue : goal.invariant-loop-queue
invariant-loop-queue l = queue_state l.name (drop l.queue-index l.queues) ≡ queue_state l.name l.queues
