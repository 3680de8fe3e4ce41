use Rattle.std.proofs.Common.{rules, subst}
use Rattle.spool_areas.specs.AreaStages.{AreaStages}
use Rattle.spool_areas.specs.AreaFields.{current_of}
use Rattle.spool_areas.proofs.StagedAreas.{staged_in, stage_refused}
use Rattle.spool_areas.proofs.areas.Areas.stage.Goals as goal

pub returns-then-self : goal.returns-then-self
returns-then-self g c = stage_refused g.D.Disk.device g.met.D.Disk.lawful c.args.self.now (search rules) 7 c.args.frame.now

pub returns : goal.returns
returns g c =
    let v = g.D.Disk.device in
    let old = c.self.inside in
    let step = c.stage-staged in
    subst (λ areas. AreaStages v 7 areas (current_of (record { disk = step.new.disk; base = old.base; len = old.len; epoch = old.epoch; version = old.version; journal = step.new.self; dead = c.eq-self-inside.result; window = c.clear.new.self })) c.args.frame.now step.new.frame step.result) c.self.view_is
    (staged_in v g.met.D.Disk.lawful old c.self.invariant c.if-self.false step.new.disk step.new.self c.eq-self-inside.result c.clear.new.self 7 c.args.frame.now step.new.frame step.result step.ensures (search rules))
