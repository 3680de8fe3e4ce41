use Rattle.std.proofs.Common.{sym, ◌∙◌}
use Rattle.spool_scripts.proofs.Cuts.{begins_with}
use Rattle.spool_scripts.proofs.cut.is_cut.Goals as goal

pub returns-then-begins_line-clause-cut : goal.returns-then-begins_line-clause-cut
returns-then-begins_line-clause-cut c =
    let begins = sym c.begins_line.ensures ∙ c.if-begins_line.true in
    let line = begins_with c.args.script.now c.args.line.now c.args.at c.starts_with.result c.starts_with.ensures.value in
    ((λ t. record { begins = begins; same = line.0 t }), λ cut. line.1 cut.same)
