use Rattle.builtin_stages.specs.RequestFields.{printed}
use Rattle.builtin_stages.proofs.EndLaws.{reported}
use Rattle.builtin_stages.proofs.running.end_filter.Goals as goal

pub returns : goal.returns
returns g c =
    let ran = c.filter-ended.ensures in
    let told = c.report_end.ensures in
    reported c.args.tool (printed c.args.document) c.filter-ended.result _ _ (g.I.Source.known c.args.input.now) _ _ _ _ _ ran.status ran.ran ran.fault told.status told.ok told.fault c.name.ensures
