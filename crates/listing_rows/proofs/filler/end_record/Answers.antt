use Rattle.std.proofs.Common.{inr, take}
use Rattle.listing_rows.specs.RowFilling.{filling}
use Rattle.listing_rows.proofs.RowLaws.{err_on, fault_disk, lives_on, step_failed, step_on}
use Rattle.listing_rows.proofs.filler.end_record.Goals as goal

pub returns-in_err-filler-clause-on : goal.returns-in_err-filler-clause-on
returns-in_err-filler-clause-on g c =
    let v = g.D.Disk.device in
    let a = c.args.areas.now in
    let b = c.add_row.new.self in
    let gate = c.args.filler.now.gate in
    let block = take c.args.start c.args.filler.now.block.items in
    let left = c.add_row.new.block.items in
    let own = c.in_err-filler.ensures in
    let e = c.in_err-filler.field-0.0 in
    let disk = fault_disk e a.dead own.refused own.dead.0 c.requires.alive in
    err_on v (filling a gate block) (filling b gate left) e _ c.from_residual.result c.from_residual.ensures.1
    (step_failed v a b gate block c.add_row.ensures.same c.add_row.ensures.changes c.add_row.ensures.any_moment e gate left (own.dies.1 (inr disk)) (own.blames.failed disk))

pub returns-clause-on : goal.returns-clause-on
returns-clause-on g c =
    let a = c.args.areas.now in
    let b = c.add_row.new.self in
    let own = c.in_ok-filler.ensures in
    step_on g.D.Disk.device a b c.args.filler.now.gate (take c.args.start c.args.filler.now.block.items) c.add_row.ensures.same c.add_row.ensures.changes c.add_row.ensures.any_moment tt c.in_ok-filler.field-0 c.add_row.new.block.items
    own.behind own.few (lives_on b.dead a.dead _ c.requires.alive own.dies.0 (λ failed. cc failed)) (own.blames.counted (λ failed. cc failed))
