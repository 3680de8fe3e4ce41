use Rattle.std.proofs.Common.{ap, ◌∙◌}
use Rattle.front_texts.specs.Json.{text_item}
use Rattle.front_texts.proofs.JsonLaws.{one_more, all_seen}
use Rattle.front_texts.proofs.json.reasons_json.Goals as goal

pub loop-reason-preserved : goal.loop-reason-preserved
loop-reason-preserved c = one_more text_item c.args.reasons.now c.loop-reason.reason-index c.reason-item.result c.loop-reason.array.items c.push.new.self.items _ c.reason-item.is c.loop-reason-test.true c.loop-reason.invariant c.in_ok-push.ensures.items (c.in_ok-text_json.ensures ∙ ap text_item c.as_str.ensures.value)

pub returns : goal.returns
returns c = all_seen text_item c.args.reasons.now c.loop-reason.reason-index c.loop-reason.array c.loop-reason-test.false c.loop-reason.invariant
