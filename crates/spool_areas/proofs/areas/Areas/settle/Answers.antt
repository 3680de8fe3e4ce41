use Rattle.std.proofs.Common.{rules, subst}
use Rattle.std.specs.Prelude.{Ok, Err}
use Rattle.spool_areas.specs.AreaStages.{AreaSettles}
use Rattle.spool_areas.specs.AreaFields.{current_of}
use Rattle.spool_areas.proofs.StagedAreas.{settled_in, settle_refused}
use Rattle.spool_areas.proofs.areas.Areas.settle.Goals as goal

pub returns-then-self : goal.returns-then-self
returns-then-self g c = settle_refused g.D.Disk.device g.met.D.Disk.lawful c.args.self.now (search rules)

pub returns-in-Ok : goal.returns-in-Ok
returns-in-Ok g c =
    let v = g.D.Disk.device in
    let old = c.self.inside in
    let step = c.settle in
    subst (λ areas. AreaSettles v areas (current_of (record { disk = step.new.disk; base = old.base; len = old.len; epoch = old.epoch; version = old.version; journal = step.new.self; dead = old.dead; window = c.clear.new.self })) (Ok tt)) c.self.view_is
    (settled_in v g.met.D.Disk.lawful old c.self.invariant c.if-self.false step.new.disk step.new.self old.dead c.clear.new.self (Ok tt) c.in-Ok.ensures (search rules))

pub returns-in-Err : goal.returns-in-Err
returns-in-Err g c =
    let v = g.D.Disk.device in
    let old = c.self.inside in
    let step = c.settle in
    subst (λ areas. AreaSettles v areas (current_of (record { disk = step.new.disk; base = old.base; len = old.len; epoch = old.epoch; version = old.version; journal = step.new.self; dead = c.eq-self-inside.result; window = c.clear.new.self })) (Err c.in-Err.fault)) c.self.view_is
    (settled_in v g.met.D.Disk.lawful old c.self.invariant c.if-self.false step.new.disk step.new.self c.eq-self-inside.result c.clear.new.self (Err c.in-Err.fault) c.in-Err.ensures (search rules))
