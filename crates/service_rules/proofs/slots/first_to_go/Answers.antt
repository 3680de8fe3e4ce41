use Rattle.std.proofs.Common.{◌+◌, false, get_or, take, Some, sym, subst, ◌∙◌}
use Rattle.service_rules.proofs.GoingFirst.{FirstOf, taken, awake, behind, onward}
use Rattle.service_rules.proofs.slots.first_to_go.Goals as goal
use Rattle.service_rules.proofs.slots.first_to_go.Goals.{then-is_idle+then-goes_before_first, else-is_idle, else-is_idle-via-then-is_idle+else-goes_before_first, else-is_idle-via-else-is_idle}

pub loop-client-preserved : goal.loop-client-preserved
loop-client-preserved c =
    let clients = c.args.clients.now in
    let now = c.args.now in
    let i = c.loop-client.client-index in
    let client = get_or clients i (record { key = 0; heard = 0; listens = false }) in
    let before = take i clients in
    let first = c.loop-client.first in
    elim c.if-is_idle.branch [
      | then-is_idle+then-goes_before_first w ↦
          subst (FirstOf now (take (i + 1) clients)) (sym w.first-is)
          (onward now clients i (record { key = 0; heard = 0; listens = false }) (Some client) c.loop-client-test.true
          (taken now before client first c.loop-client.invariant (sym c.is_idle.ensures ∙ w.if-is_idle.true) _ w.goes_before_first.ensures w.if-goes_before_first.true))
      | else-is_idle w ↦
          subst (FirstOf now (take (i + 1) clients)) (sym w.first-is)
          (onward now clients i (record { key = 0; heard = 0; listens = false }) first c.loop-client-test.true
          (elim w.else-is_idle.branch [
            | else-is_idle-via-then-is_idle+else-goes_before_first u ↦ behind now before client first c.loop-client.invariant _ u.goes_before_first.ensures u.if-goes_before_first.false
            | else-is_idle-via-else-is_idle u ↦ awake now before client first c.loop-client.invariant (sym c.is_idle.ensures ∙ u.if-is_idle.false)
          ]))
    ]
