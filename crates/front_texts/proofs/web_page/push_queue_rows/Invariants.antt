-- The rows of the queues so far.
use Rattle.std.proofs.Common.{◌≡◌, ◌++◌, take}
use Rattle.std.specs.List.{flat_map}
use Rattle.std.specs.Option.{option_map}
use Rattle.front_texts.specs.Page.{queue_if_shown}
use Rattle.front_texts.proofs.web_page.push_queue_rows.Given as goal

abbrev pub invariant-loop-queue : goal.invariant-loop-queue
invariant-loop-queue l = l.page.items ≡ l.initial.page.items ++ flat_map (queue_if_shown (option_map (λ name. name.now) l.only)) (take l.queue-index l.queues)
