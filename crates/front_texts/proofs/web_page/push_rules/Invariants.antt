-- The rules of the queues so far.
use Rattle.std.proofs.Common.{◌≡◌, ◌++◌, take}
use Rattle.std.specs.List.{flat_map}
use Rattle.front_texts.specs.Page.{queue_rule}
use Rattle.front_texts.proofs.web_page.push_rules.Given as goal

abbrev pub invariant-loop-queue : goal.invariant-loop-queue
invariant-loop-queue l = l.page.items ≡ l.initial.page.items ++ flat_map queue_rule (take l.queue-index l.queues)
