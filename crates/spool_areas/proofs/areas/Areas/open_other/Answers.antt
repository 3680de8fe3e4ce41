use Rattle.std.proofs.Common.{[], refl, ◌≡◌, ◌+◌, sym, ◌∙◌, ap, subst, arith}
use Rattle.spool_disk.specs.Disk.{ChangesOnly}
use Rattle.spool_disk.proofs.Moments.{wider_change}
use Rattle.spool_areas.specs.Checkpoint.{area_len, other_base}
use Rattle.spool_areas.specs.Header.{newest_version}
use Rattle.spool_areas.specs.AreaFields.{current_of}
use Rattle.spool_areas.specs.AreaFilling.{Fills}
use Rattle.spool_areas.proofs.Fillings.{all_written, not_opened}
use Rattle.spool_areas.proofs.Plans.{other_within, moved, keeps_new}
use Rattle.spool_areas.proofs.areas.Areas.open_other.Goals as goal

pub returns-then-self-clause-any_moment : goal.returns-then-self-clause-any_moment
returns-then-self-clause-any_moment g c x rows is_other is_len f = not_opened g.D.Disk.device g.met.D.Disk.lawful x c.args.self.now.disk c.args.gate rows (all_written g.D.Disk.device x c.args.self.now.disk c.args.gate rows f)

pub returns-in-Ok-clause-changes : goal.returns-in-Ok-clause-changes
returns-in-Ok-clause-changes g c =
    let old = current_of c.self.inside in
    let e : c.other_base-other.result ≡ other_base old = c.other_base-other.ensures ∙ ap other_base (sym c.self.view_is) in
    let within = other_within _ _ _ c.self.invariant.area in
    subst (λ a. ChangesOnly g.D.Disk.device a.disk c.open_area.new.disk (other_base a) (area_len a)) c.self.view_is
    (wider_change g.D.Disk.device c.self.inside.disk c.open_area.new.disk c.other_base-other.result 1 (other_base old) (area_len old) (omega (arith, e)) (omega (arith, e, within.1)) c.open_area.ensures.changes)

pub returns-in-Ok-clause-any_moment : goal.returns-in-Ok-clause-any_moment
returns-in-Ok-clause-any_moment g c x rows is_other is_len f =
    c.open_area.ensures.any_moment x c.args.gate rows (is_other ∙ sym c.other_base-other.ensures) (omega (arith, c.requires.room, is_other, is_len))
    (subst (λ a. Fills g.D.Disk.device x a.disk c.args.gate [] rows) (sym c.self.view_is) f)

pub returns-in-Err-clause-changes : goal.returns-in-Err-clause-changes
returns-in-Err-clause-changes g c =
    let old = current_of c.self.inside in
    let e : c.other_base-other.result ≡ other_base old = c.other_base-other.ensures ∙ ap other_base (sym c.self.view_is) in
    let within = other_within _ _ _ c.self.invariant.area in
    subst (λ a. ChangesOnly g.D.Disk.device a.disk c.open_area.new.disk (other_base a) (area_len a)) c.self.view_is
    (wider_change g.D.Disk.device c.self.inside.disk c.open_area.new.disk c.other_base-other.result 1 (other_base old) (area_len old) (omega (arith, e)) (omega (arith, e, within.1)) c.open_area.ensures.changes)

pub returns-in-Err-clause-any_moment : goal.returns-in-Err-clause-any_moment
returns-in-Err-clause-any_moment g c x rows is_other is_len f =
    c.open_area.ensures.any_moment x c.args.gate rows (is_other ∙ sym c.other_base-other.ensures) (omega (arith, c.requires.room, is_other, is_len))
    (subst (λ a. Fills g.D.Disk.device x a.disk c.args.gate [] rows) (sym c.self.view_is) f)

pub returns-in-Ok-clause-added : goal.returns-in-Ok-clause-added
returns-in-Ok-clause-added g c x rows is_other is_len is_epoch f =
    let v = g.D.Disk.device in
    let now = current_of (record { disk = c.open_area.new.disk; base = c.other_base-other.result; len = c.self.inside.len; epoch = c.self.inside.epoch + 1; version = newest_version; journal = c.resume-self-inside.result; dead = c.self.inside.dead; window = c.clear.new.self }) in
    let st = c.in-Ok.ensures.changed x c.args.gate rows (is_other ∙ sym c.other_base-other.ensures) (omega (arith, c.requires.room, is_other, is_len))
    (subst (λ a. Fills v x a.disk c.args.gate [] rows) (sym c.self.view_is) f) in
    keeps_new v now rows
    (moved v c.open_area.new.disk _ _ _ _ _ _ rows (is_other ∙ sym c.other_base-other.ensures) (is_epoch ∙ ap (λ a. a.epoch + 1) (sym c.self.view_is)) (sym c.resume-self-inside.ensures.place) st)
    refl c.in-Ok.ensures.durable
