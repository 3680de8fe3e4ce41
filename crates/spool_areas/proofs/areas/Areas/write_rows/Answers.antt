use Rattle.std.proofs.Common.{sym, ap, subst, arith}
use Rattle.spool_disk.specs.Disk.{ChangesOnly}
use Rattle.spool_disk.proofs.Moments.{wider_change}
use Rattle.spool_areas.specs.Checkpoint.{area_len, other_base}
use Rattle.spool_areas.specs.AreaFields.{current_of}
use Rattle.spool_areas.specs.AreaFilling.{Fills}
use Rattle.spool_areas.proofs.Fillings.{fills_now}
use Rattle.spool_areas.proofs.areas.Areas.write_rows.Goals as goal

pub returns-then-self-clause-any_moment : goal.returns-then-self-clause-any_moment
returns-then-self-clause-any_moment g c x rows is_other is_len f = fills_now g.D.Disk.device g.met.D.Disk.lawful x c.args.self.now.disk c.args.gate _ rows f

pub returns-in-Ok-clause-changes : goal.returns-in-Ok-clause-changes
returns-in-Ok-clause-changes g c =
    let old = current_of c.self.inside in
    subst (λ a. ChangesOnly g.D.Disk.device a.disk c.write_block.new.disk (other_base a) (area_len a)) c.self.view_is
    (wider_change g.D.Disk.device c.self.inside.disk c.write_block.new.disk c.args.gate _ (other_base old) (area_len old) (omega (arith, c.requires.behind, ap other_base c.self.view_is))
    (omega (arith, c.requires.room, ap other_base c.self.view_is, ap area_len c.self.view_is)) c.write_block.ensures.changes)

pub returns-in-Ok-clause-any_moment : goal.returns-in-Ok-clause-any_moment
returns-in-Ok-clause-any_moment g c x rows is_other is_len f =
    c.write_block.ensures.any_moment x rows (omega (arith, c.requires.room, is_other, is_len)) (subst (λ a. Fills g.D.Disk.device x a.disk c.args.gate c.args.block.now.items rows) (sym c.self.view_is) f)

pub returns-in-Err-clause-changes : goal.returns-in-Err-clause-changes
returns-in-Err-clause-changes g c =
    let old = current_of c.self.inside in
    subst (λ a. ChangesOnly g.D.Disk.device a.disk c.write_block.new.disk (other_base a) (area_len a)) c.self.view_is
    (wider_change g.D.Disk.device c.self.inside.disk c.write_block.new.disk c.args.gate _ (other_base old) (area_len old) (omega (arith, c.requires.behind, ap other_base c.self.view_is))
    (omega (arith, c.requires.room, ap other_base c.self.view_is, ap area_len c.self.view_is)) c.write_block.ensures.changes)

pub returns-in-Err-clause-any_moment : goal.returns-in-Err-clause-any_moment
returns-in-Err-clause-any_moment g c x rows is_other is_len f =
    c.write_block.ensures.any_moment x rows (omega (arith, c.requires.room, is_other, is_len)) (subst (λ a. Fills g.D.Disk.device x a.disk c.args.gate c.args.block.now.items rows) (sym c.self.view_is) f)
