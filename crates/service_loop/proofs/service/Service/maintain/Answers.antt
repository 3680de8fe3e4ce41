-- The time, the purges and the checkpoint are calls.
use Rattle.std.proofs.Common.{◌≡◌, Ok, false, ap, subst, ◌∙◌}
use Rattle.service_loop.specs.ServiceTurns.{HasTriedAtMost}
use Rattle.service_loop.proofs.CallLaws.{calls_then, goes_of, within_then}
use Rattle.service_loop.proofs.TurnLaws.{keeps_time}
use Rattle.service_loop.proofs.service.Service.maintain.Goals as goal

pub returns-in_err-canceled-clause-calls : goal.returns-in_err-canceled-clause-calls
returns-in_err-canceled-clause-calls g c = within_then g.D.Disk.device _ _ _ _ _ _ c.purge.ensures.calls c.cancel_abandoned.ensures.calls

pub returns-in_err-told-clause-calls : goal.returns-in_err-told-clause-calls
returns-in_err-told-clause-calls g c = within_then g.D.Disk.device _ _ _ _ _ _ (within_then g.D.Disk.device _ _ _ _ _ _ c.purge.ensures.calls c.cancel_abandoned.ensures.calls) c.announce_time.ensures.calls

pub returns-in_err-made-clause-calls : goal.returns-in_err-made-clause-calls
returns-in_err-made-clause-calls g c =
    within_then g.D.Disk.device _ _ _ _ _ _ (within_then g.D.Disk.device _ _ _ _ _ _ (within_then g.D.Disk.device _ _ _ _ _ _ c.purge.ensures.calls c.cancel_abandoned.ensures.calls) c.announce_time.ensures.calls) c.make_checkpoint.ensures.calls

pub returns-then-made-clause-calls : goal.returns-then-made-clause-calls
returns-then-made-clause-calls g c =
    within_then g.D.Disk.device _ _ _ _ _ _ (within_then g.D.Disk.device _ _ _ _ _ _ (within_then g.D.Disk.device _ _ _ _ _ _ c.purge.ensures.calls c.cancel_abandoned.ensures.calls) c.announce_time.ensures.calls) c.make_checkpoint.ensures.calls

pub returns-then-made-clause-time : goal.returns-then-made-clause-time
returns-then-made-clause-time g c =
    keeps_time g.D.Disk.device _ c.announce_time.new.self.shared.engine _ c.announce_time.new.self.maintenance _ _ _ c.make_checkpoint.ensures.told
    (ap (λ h. h.told) c.make_checkpoint.ensures.maintenance)
    (ap (λ h. h.due) c.make_checkpoint.ensures.maintenance)
    (calls_then g.D.Disk.device _ _ _ (calls_then g.D.Disk.device _ _ _ (goes_of _ _ _ _ _ c.purge.ensures.calls) (goes_of _ _ _ _ _ c.cancel_abandoned.ensures.calls)) (goes_of _ _ _ _ _ c.announce_time.ensures.calls)) c.in_ok-told.ensures.timely (goes_of _ _ _ _ _ c.make_checkpoint.ensures.calls)

pub returns-else-made-clause-time : goal.returns-else-made-clause-time
returns-else-made-clause-time g c =
    keeps_time g.D.Disk.device _ c.announce_time.new.self.shared.engine _ c.announce_time.new.self.maintenance _ _ _ c.make_checkpoint.ensures.told
    (ap (λ h. h.told) c.make_checkpoint.ensures.maintenance)
    (ap (λ h. h.due) c.make_checkpoint.ensures.maintenance)
    (calls_then g.D.Disk.device _ _ _ (calls_then g.D.Disk.device _ _ _ (goes_of _ _ _ _ _ c.purge.ensures.calls) (goes_of _ _ _ _ _ c.cancel_abandoned.ensures.calls)) (goes_of _ _ _ _ _ c.announce_time.ensures.calls)) c.in_ok-told.ensures.timely (goes_of _ _ _ _ _ c.make_checkpoint.ensures.calls)

pub returns-else-made-clause-idle : goal.returns-else-made-clause-idle
returns-else-made-clause-idle g c = λ none.
    let (told, purged, canceled, made) = c.if-made.false in
    let left : c.has_some_to_purge-left.result ≡ false = cc in
    let same = c.announce_time.ensures.silent (c.in_ok-told.was ∙ ap Ok told) ∙ c.cancel_abandoned.ensures.silent (c.in_ok-canceled.was ∙ ap Ok canceled) ∙ (c.purge.ensures.none (c.in_ok-purged.was ∙ ap Ok purged)).1 in (
      c.has_some_to_purge-left.ensures.none left,
      subst (λ e. HasTriedAtMost g.D.Disk.device e c.make_checkpoint.new.self.shared.engine) same (c.make_checkpoint.ensures.tried (c.in_ok-made.was ∙ ap Ok made)),
    )
