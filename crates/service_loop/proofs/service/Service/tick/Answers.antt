-- The engine ticks, and nothing else changes it.
use Rattle.std.proofs.Common.{ap, refl}
use Rattle.service_loop.proofs.CallLaws.{within_kept}
use Rattle.service_loop.proofs.TurnLaws.{ticked_by}
use Rattle.service_loop.proofs.service.Service.tick.Goals as goal

pub returns-in-Err-clause-ticked : goal.returns-in-Err-clause-ticked
returns-in-Err-clause-ticked g c =
    let ticked = c.tick-counts.ensures in
    ticked_by g.D.Disk.device _ c.tick-counts.new.self.engine _ (record { limits = _; next = c.tick-counts.new.self.engine.run_state; result = c.tick-counts.result; tried = ticked.tick.0 })
    c.has_moved-moved.result ticked.calls.mime ticked.calls.place ticked.tick.1 refl c.has_moved-moved.ensures (ap (λ s. s.engine) c.note_times.ensures.shared)

pub returns-in_default-clause-ticked : goal.returns-in_default-clause-ticked
returns-in_default-clause-ticked g c =
    let ticked = c.tick-counts.ensures in
    ticked_by g.D.Disk.device _ c.tick-counts.new.self.engine _ (record { limits = _; next = c.tick-counts.new.self.engine.run_state; result = c.tick-counts.result; tried = ticked.tick.0 })
    c.has_moved-moved.result ticked.calls.mime ticked.calls.place ticked.tick.1 refl c.has_moved-moved.ensures (ap (λ s. s.engine) c.note_times.ensures.shared)

pub returns-in-Err-clause-calls : goal.returns-in-Err-clause-calls
returns-in-Err-clause-calls g c =
    within_kept g.D.Disk.device _ _ _ _ _ _ c.tick-counts.ensures.calls (ap (λ s. s.engine) c.note_times.ensures.shared) (ap (λ s. s.most) c.note_times.ensures.shared)

pub returns-in_default-clause-calls : goal.returns-in_default-clause-calls
returns-in_default-clause-calls g c =
    within_kept g.D.Disk.device _ _ _ _ _ _ c.tick-counts.ensures.calls (ap (λ s. s.engine) c.note_times.ensures.shared) (ap (λ s. s.most) c.note_times.ensures.shared)
