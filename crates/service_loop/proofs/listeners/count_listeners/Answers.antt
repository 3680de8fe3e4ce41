-- One more slot is counted.
use Rattle.std.proofs.Common.{ap, sym, ◌∙◌, arith}
use Rattle.service_loop.specs.ClientListening.{one_if}
use Rattle.service_loop.proofs.ListenerCounts.{none_counted, one_counted, rest_uncounted}
use Rattle.service_loop.proofs.listeners.count_listeners.Goals as goal
use Rattle.service_loop.proofs.listeners.count_listeners.Goals.{then-is_listened, else-is_listened}

pub loop-key-init : goal.loop-key-init
loop-key-init g c = record { counted = sym (none_counted c.args.slots.now); few = omega arith }

pub loop-key-preserved : goal.loop-key-preserved
loop-key-preserved g c =
    let counted = c.loop-key.invariant.counted in
    let few = c.loop-key.invariant.few in
    let more = one_counted c.args.slots.now c.loop-key.key in
    elim c.if-is_listened.branch [
      | then-is_listened w ↦
          let here = ap one_if (sym c.is_listened.ensures ∙ w.if-is_listened.true) in
          let grown = w.count-is in
          record { counted = omega arith; few = omega arith }
      | else-is_listened w ↦
          let here = ap one_if (sym c.is_listened.ensures ∙ w.if-is_listened.false) in
          let kept = w.count-is in
          record { counted = omega arith; few = omega arith }
    ]

pub returns : goal.returns
returns g c =
    let end = c.loop-key.key in
    let counted = c.loop-key.invariant.counted in
    let rest = rest_uncounted c.args.slots.now end 1000 (omega arith) (λ key from to. c.end_of_keys-end.ensures.none key (omega arith) to) in
    counted ∙ sym rest
