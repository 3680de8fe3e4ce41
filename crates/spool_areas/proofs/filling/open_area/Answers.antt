use Rattle.std.proofs.Common.{◌∷◌, [], ℕ, sym, subst}
use Rattle.spool_disk.specs.Disk.{ChangesOnly, IsWritten}
use Rattle.spool_disk.proofs.Ranges.{both_ok}
use Rattle.spool_areas.proofs.Fillings.{all_written, fills_still, not_opened, is_opened, stands_new}
use Rattle.spool_areas.proofs.filling.open_area.Goals as goal

pub returns-in_err-sync-clause-any_moment : goal.returns-in_err-sync-clause-any_moment
returns-in_err-sync-clause-any_moment g c x gate rows is within f =
    let v = g.D.Disk.device in
    let lawful = g.met.D.Disk.lawful in
    not_opened v lawful x c.sync.new.self gate rows (all_written v x c.sync.new.self gate rows (fills_still v lawful x c.args.disk.now c.sync.new.self gate [] rows c.sync.ensures.same f))

pub returns-clause-any_moment : goal.returns-clause-any_moment
returns-clause-any_moment g c x gate rows is within f =
    let v = g.D.Disk.device in
    let lawful = g.met.D.Disk.lawful in
    is_opened v lawful x c.sync.new.self gate rows (all_written v x c.sync.new.self gate rows (fills_still v lawful x c.args.disk.now c.sync.new.self gate [] rows c.sync.ensures.same f))
    c.in_ok-sync.ensures.durable within c.persist.new.disk
    (subst (λ (o : ℕ). ChangesOnly v c.sync.new.self c.persist.new.disk o 1) (sym is) c.persist.ensures.changes)

pub returns-clause-changed : goal.returns-clause-changed
returns-clause-changed g c =
    both_ok c.persist.result c.persist.ensures.written c.persist.ensures.durable (λ written synced x gate rows is within f.
    let v = g.D.Disk.device in
    let lawful = g.met.D.Disk.lawful in
    stands_new v lawful x c.sync.new.self gate rows (all_written v x c.sync.new.self gate rows (fills_still v lawful x c.args.disk.now c.sync.new.self gate [] rows c.sync.ensures.same f))
    c.in_ok-sync.ensures.durable within c.persist.new.disk
    (subst (λ (o : ℕ). ChangesOnly v c.sync.new.self c.persist.new.disk o 1) (sym is) c.persist.ensures.changes)
    (subst (λ (o : ℕ). IsWritten v c.sync.new.self c.persist.new.disk o (165 ∷ [])) (sym is) written) synced)
