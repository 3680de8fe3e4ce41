use Rattle.std.proofs.Common.{◌∙◌, List, None, map, refl, ap}
use Rattle.std.specs.Borrow.{Bor}
use Rattle.std.proofs.lemmas.Iterator.Consumers.{YieldsList-from_first, YieldsList-end}
use Rattle.spool_types.specs.declared.rows.JobRow.{JobRow}
use Rattle.split_rows.proofs.rows.borrowed.Goals as goal

pub returns : goal.returns
returns c =
    let end = YieldsList-end (YieldsList-from_first (λ x. x.now) (λ r. r) c.args.rows.now.items cc) c.loop-row.yielded c.loop-row.row-iterator c.loop-row.yielded_by None c.next.new.self refl c.in-None.ensures.steps in
    ap (λ (rows : List (Bor JobRow)). map (λ row. row.now) rows) c.loop-row.invariant ∙ end.0
