use Rattle.std.proofs.Common.{◌≡◌, ◌+◌, ◌-◌, [], ℕ, Ok, sym, ◌∙◌, ap, subst, arith}
use Rattle.spool_disk.specs.Disk.{ChangesOnly, LeavesOnly}
use Rattle.spool_disk.proofs.Moments.{started, wider_change}
use Rattle.spool_areas.specs.Payloads.{HasVersionAndPayloads}
use Rattle.spool_areas.specs.Current.{KeepsPayloads}
use Rattle.spool_areas.specs.Checkpoint.{area_len, other_base, plan_of}
use Rattle.spool_areas.specs.AreaFields.{current_of}
use Rattle.spool_areas.specs.AreaFilling.{CanChange, Fills, change_of, change_at}
use Rattle.spool_areas.proofs.Plans.{plan_ok, plan_epoch, can_change, other_within}
use Rattle.spool_areas.proofs.areas.Areas.begin.Goals as goal

pub returns-in_err-first-clause-any_moment : goal.returns-in_err-first-clause-any_moment
returns-in_err-first-clause-any_moment g c payloads keeps =
    let disk = c.args.self.now.disk in
    started g.D.Disk.device disk (HasVersionAndPayloads c.args.self.now.base c.args.self.now.version payloads)
    (λ b left. let now = g.met.D.Disk.lawful.only_now disk b left in record { area = keeps.each b now; version_is = keeps.version b now })

pub returns-in-Ok-clause-begun : goal.returns-in-Ok-clause-begun
returns-in-Ok-clause-begun g c payloads keeps =
    let v = g.D.Disk.device in
    let old = current_of c.self.inside in
    let planned : plan_of old [] ≡ Ok c.in_ok-first.first = ap (λ a. plan_of a []) c.self.view_is ∙ (sym c.other_gate.ensures ∙ c.in_ok-first.was) in
    let first = plan_ok old [] c.in_ok-first.first planned in
    let other : c.in_ok-first.first - 16 ≡ other_base old = omega (arith, first) in
    let more = plan_epoch old [] c.in_ok-first.first planned (omega arith) in
    let can = subst (λ (o : ℕ). CanChange v (change_of old.disk (area_len old) old.base o old.epoch (old.epoch + 1) old.version payloads)) (sym other)
    (can_change v old payloads (subst (λ a. KeepsPayloads v a payloads) (sym c.self.view_is) keeps) c.self.invariant.area more) in
    subst (λ a. Fills v (change_at a payloads) c.begin_area.new.disk (other_base a + 16) [] []) c.self.view_is
    (subst (λ (o : ℕ). Fills v (change_of old.disk (area_len old) old.base o old.epoch (old.epoch + 1) old.version payloads) c.begin_area.new.disk (o + 16) [] []) other
    (c.in-Ok.ensures.begun (area_len old) old.base old.epoch old.version payloads can))

pub returns-in-Ok-clause-changes : goal.returns-in-Ok-clause-changes
returns-in-Ok-clause-changes g c =
    let v = g.D.Disk.device in
    let old = current_of c.self.inside in
    let planned : plan_of old [] ≡ Ok c.in_ok-first.first = ap (λ a. plan_of a []) c.self.view_is ∙ (sym c.other_gate.ensures ∙ c.in_ok-first.was) in
    let first = plan_ok old [] c.in_ok-first.first planned in
    let other : c.in_ok-first.first - 16 ≡ other_base old = omega (arith, first) in
    let more = plan_epoch old [] c.in_ok-first.first planned (omega arith) in
    let within = other_within _ _ _ c.self.invariant.area in
    subst (λ a. ChangesOnly v a.disk c.begin_area.new.disk (other_base a) (area_len a)) c.self.view_is
    (wider_change v c.self.inside.disk c.begin_area.new.disk _ 17 (other_base old) (area_len old) (omega (arith, other)) (omega (arith, other, within.1)) c.begin_area.ensures.changes)

pub returns-in-Ok-clause-any_moment : goal.returns-in-Ok-clause-any_moment
returns-in-Ok-clause-any_moment g c payloads keeps =
    let v = g.D.Disk.device in
    let old = current_of c.self.inside in
    let planned : plan_of old [] ≡ Ok c.in_ok-first.first = ap (λ a. plan_of a []) c.self.view_is ∙ (sym c.other_gate.ensures ∙ c.in_ok-first.was) in
    let first = plan_ok old [] c.in_ok-first.first planned in
    let other : c.in_ok-first.first - 16 ≡ other_base old = omega (arith, first) in
    let more = plan_epoch old [] c.in_ok-first.first planned (omega arith) in
    let can = subst (λ (o : ℕ). CanChange v (change_of old.disk (area_len old) old.base o old.epoch (old.epoch + 1) old.version payloads)) (sym other)
    (can_change v old payloads (subst (λ a. KeepsPayloads v a payloads) (sym c.self.view_is) keeps) c.self.invariant.area more) in
    subst (λ a. LeavesOnly v a.disk c.begin_area.new.disk (HasVersionAndPayloads a.base a.version payloads)) c.self.view_is
    (c.begin_area.ensures.any_moment (area_len old) old.base old.epoch old.version payloads can)

pub returns-in-Err-clause-changes : goal.returns-in-Err-clause-changes
returns-in-Err-clause-changes g c =
    let v = g.D.Disk.device in
    let old = current_of c.self.inside in
    let planned : plan_of old [] ≡ Ok c.in_ok-first.first = ap (λ a. plan_of a []) c.self.view_is ∙ (sym c.other_gate.ensures ∙ c.in_ok-first.was) in
    let first = plan_ok old [] c.in_ok-first.first planned in
    let other : c.in_ok-first.first - 16 ≡ other_base old = omega (arith, first) in
    let more = plan_epoch old [] c.in_ok-first.first planned (omega arith) in
    let within = other_within _ _ _ c.self.invariant.area in
    subst (λ a. ChangesOnly v a.disk c.begin_area.new.disk (other_base a) (area_len a)) c.self.view_is
    (wider_change v c.self.inside.disk c.begin_area.new.disk _ 17 (other_base old) (area_len old) (omega (arith, other)) (omega (arith, other, within.1)) c.begin_area.ensures.changes)

pub returns-in-Err-clause-any_moment : goal.returns-in-Err-clause-any_moment
returns-in-Err-clause-any_moment g c payloads keeps =
    let v = g.D.Disk.device in
    let old = current_of c.self.inside in
    let planned : plan_of old [] ≡ Ok c.in_ok-first.first = ap (λ a. plan_of a []) c.self.view_is ∙ (sym c.other_gate.ensures ∙ c.in_ok-first.was) in
    let first = plan_ok old [] c.in_ok-first.first planned in
    let other : c.in_ok-first.first - 16 ≡ other_base old = omega (arith, first) in
    let more = plan_epoch old [] c.in_ok-first.first planned (omega arith) in
    let can = subst (λ (o : ℕ). CanChange v (change_of old.disk (area_len old) old.base o old.epoch (old.epoch + 1) old.version payloads)) (sym other)
    (can_change v old payloads (subst (λ a. KeepsPayloads v a payloads) (sym c.self.view_is) keeps) c.self.invariant.area more) in
    subst (λ a. LeavesOnly v a.disk c.begin_area.new.disk (HasVersionAndPayloads a.base a.version payloads)) c.self.view_is
    (c.begin_area.ensures.any_moment (area_len old) old.base old.epoch old.version payloads can)
