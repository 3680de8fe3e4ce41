use Rattle.front_texts.proofs.JsonLaws.{one_more, all_seen}
use Rattle.spool_front.specs.JsonLines.{line_data}
use Rattle.spool_front.proofs.json_lines.lines_json.Goals as goal

pub loop-line-preserved : goal.loop-line-preserved
loop-line-preserved c = one_more line_data c.args.lines.now c.loop-line.line-index c.line-item.result c.loop-line.array.items c.push.new.self.items _ c.line-item.is c.loop-line-test.true c.loop-line.invariant c.in_ok-push.ensures.items c.in_ok-line_json.ensures

pub returns : goal.returns
returns c = all_seen line_data c.args.lines.now c.loop-line.line-index c.loop-line.array c.loop-line-test.false c.loop-line.invariant
