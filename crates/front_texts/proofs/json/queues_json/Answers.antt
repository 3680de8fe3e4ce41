use Rattle.front_texts.specs.Json.{queue_data}
use Rattle.front_texts.proofs.JsonLaws.{one_more, all_seen}
use Rattle.front_texts.proofs.json.queues_json.Goals as goal

pub loop-queue-preserved : goal.loop-queue-preserved
loop-queue-preserved c = one_more queue_data c.args.queues.now c.loop-queue.queue-index c.queue-item.result c.loop-queue.array.items c.push.new.self.items _ c.queue-item.is c.loop-queue-test.true c.loop-queue.invariant c.in_ok-push.ensures.items c.in_ok-queue_json.ensures.value

pub returns : goal.returns
returns c = record { value = all_seen queue_data c.args.queues.now c.loop-queue.queue-index c.loop-queue.array c.loop-queue-test.false c.loop-queue.invariant }
