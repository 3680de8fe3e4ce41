-- One more slot is counted.
use Rattle.std.proofs.Common.{ap, sym, ◌∙◌, arith}
use Rattle.service_loop.specs.ClientListening.{one_if}
use Rattle.service_loop.proofs.ListenerCounts.{none_like, one_like}
use Rattle.service_loop.proofs.listeners.own_listeners.Goals as goal
use Rattle.service_loop.proofs.listeners.own_listeners.Goals.{then-is_listened_by, else-is_listened_by}

pub loop-key-init : goal.loop-key-init
loop-key-init g c = record { counted = sym (none_like c.args.client.now.standing c.args.slots.now); few = omega arith }

pub loop-key-preserved : goal.loop-key-preserved
loop-key-preserved g c =
    let counted = c.loop-key.invariant.counted in
    let few = c.loop-key.invariant.few in
    let more = one_like c.args.client.now.standing c.args.slots.now c.loop-key.key in
    elim c.if-is_listened_by.branch [
      | then-is_listened_by w ↦
          let here = ap one_if (sym c.is_listened_by.ensures ∙ w.if-is_listened_by.true) in
          let grown = w.count-is in
          record { counted = omega arith; few = omega arith }
      | else-is_listened_by w ↦
          let here = ap one_if (sym c.is_listened_by.ensures ∙ w.if-is_listened_by.false) in
          let kept = w.count-is in
          record { counted = omega arith; few = omega arith }
    ]
