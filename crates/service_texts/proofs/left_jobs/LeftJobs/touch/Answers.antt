-- One more was touched.
use Rattle.std.proofs.Common.{◌≡◌, arith, ap, map, sym, ◌∙◌}
use Rattle.service_texts.specs.LeftJobs.{touched_one}
use Rattle.service_texts.proofs.Parts.{part, part-step, part-whole}
use Rattle.service_texts.proofs.left_jobs.LeftJobs.touch.Goals as goal

pub loop-left-preserved : goal.loop-left-preserved
loop-left-preserved c =
    part-step (touched_one c.args.job c.args.since) c.loop-left.left-index _ _ c.left-item.result c.touch_one.new.left c.loop-left.invariant (omega arith) c.left-item.is
    (c.touch_one.ensures ∙ ap (touched_one c.args.job c.args.since) (sym c.left-item.is))

pub returns : goal.returns
returns c =
    let change = touched_one c.args.job c.args.since in
    let items = c.self.inside.jobs.items in
    let same : c.args.self.now ≡ items = cc (c.self.view_is) in
    part-whole change c.loop-left.left-index _ _ items (c.loop-left.invariant ∙ ap (part change c.loop-left.left-index) same) (omega arith) (omega arith)
    ∙ ap (map change) (sym same)
