-- The second half is listed from the same table, with the same bytes.
use Rattle.std.proofs.Common.{Option, List, ℕ, false, subst}
use Rattle.spool_types.specs.State.{State}
use Rattle.spool_disk.proofs.Moments.{twice_still}
use Rattle.spool_admin.specs.HalfImages.{LeavesHalf}
use Rattle.spool_admin.proofs.halves.list_halves.Goals as goal

pub returns-clause-part : goal.returns-clause-part
returns-clause-part g c = λ told image now.
    (c.in_ok-part.ensures.half told image now, λ r is. c.in_ok-part.ensures.documents r is told image now)

pub returns-clause-rest : goal.returns-clause-rest
returns-clause-rest g c =
    let v = g.T.Disk.device in
    let names = c.args.names.now in
    let made = c.in_ok-rest.rest in
    subst (λ (s : State). LeavesHalf v false names s (g.S.Disk.device.bytes c.args.whole.now.disk) made) c.list_half.ensures.state
    (subst (λ (bytes : Option (List ℕ)). LeavesHalf v false names c.list_half.new.whole.state bytes made) c.list_half.ensures.still.bytes
    (λ told image now. (c.in_ok-rest.ensures.half told image now, λ r is. c.in_ok-rest.ensures.documents r is told image now)))

pub returns-clause-still : goal.returns-clause-still
returns-clause-still g c =
    twice_still g.S.Disk.device c.args.whole.now.disk c.list_half.new.whole.disk c.list_half-2.new.whole.disk g.met.S.Disk.lawful c.list_half.ensures.still
    c.list_half-2.ensures.still
