use Rattle.std.proofs.Common.{rules, tests, ◌≡◌, ◌≤◌, ◌<◌, ◌+◌, not, true, false, cond, [], ◌∷◌, length, take, arith, sym, subst, ap, ◌∙◌}
use Rattle.std.specs.FinMap as finite
use Rattle.std.proofs.lemmas.List.{length-append, take_all}
use Rattle.job_table.specs.Attempts.{busy_of}
use Rattle.print_rounds.specs.Choice.{busy_jobs, with_busy}
use Rattle.print_rounds.specs.StageChecks.{idle_among}
use Rattle.print_rounds.proofs.BusyLaws.{waiting_further}
use Rattle.print_rounds.proofs.StartLaws.{name_at, queue_count}
use Rattle.print_rounds.proofs.start_room.count_waiting.Goals as goal
use Rattle.print_rounds.proofs.start_room.count_waiting.Goals.{in-Some+then-not-has_child, in-Some+else-not-has_child, in_default}

pub loop-queue-preserved : goal.loop-queue-preserved
loop-queue-preserved g c =
    let s = c.args.table.now.state in
    let slots = c.args.runner.now in
    let names = finite.keys s.queues in
    let rows = c.queues-queue-items.result.now in
    let i = c.loop-queue.queue-index in
    let name = c.queue-item.result.name in
    let at = name_at rows names c.queues-queue-items.ensures.names i c.queue-item.result c.queue-item.is in
    let lt : i < length names = subst (λ n. i < n) (queue_count rows names c.queues-queue-items.ensures.names) c.loop-queue-test.true in
    let so_far = idle_among slots (busy_jobs s (take i names)) in
    let own = idle_among slots (with_busy (busy_of s name) []) in
    let further : length (idle_among slots (busy_jobs s (take (i + 1) names))) ≡ length so_far + length own = ap length (waiting_further s slots names i name lt at) ∙ length-append so_far own in
    let before = c.loop-queue.invariant.waiting in
    let few = c.loop-queue.invariant.few in
    elim c.match-processing.branch [
      | in-Some+then-not-has_child w ↦
          let off : w.has_child.result ≡ false = search (rules, tests, w.if-not-has_child.true) in
          let one : length own ≡ 1 =
          ap (λ o. length (idle_among slots (with_busy o []))) (sym c.processing.ensures ∙ w.in-Some.is) ∙ ap (λ b. length (cond (not b) (w.in-Some.job ∷ []) [])) (sym w.has_child.ensures ∙ off) in
          let new = w.waiting-is in
          record { waiting = omega (arith, further, before, one, new); few = omega (arith, few, new) }
      | in-Some+else-not-has_child w ↦
          let on : w.has_child.result ≡ true = search (rules, tests, w.if-not-has_child.false) in
          let none : length own ≡ 0 =
          ap (λ o. length (idle_among slots (with_busy o []))) (sym c.processing.ensures ∙ w.in-Some.is) ∙ ap (λ b. length (cond (not b) (w.in-Some.job ∷ []) [])) (sym w.has_child.ensures ∙ on) in
          let new = w.waiting-is in
          record { waiting = omega (arith, further, before, none, new); few = omega (arith, few, new) }
      | in_default w ↦
          let none : length own ≡ 0 = ap (λ o. length (idle_among slots (with_busy o []))) (sym c.processing.ensures ∙ w.in_default.is) in
          let new = w.waiting-is in
          record { waiting = omega (arith, further, before, none, new); few = omega (arith, few, new) }
    ]

pub returns : goal.returns
returns g c =
    let s = c.args.table.now.state in
    let names = finite.keys s.queues in
    let rows = c.queues-queue-items.result.now in
    let all = take_all c.loop-queue.queue-index names (subst (λ n. n ≤ c.loop-queue.queue-index) (queue_count rows names c.queues-queue-items.ensures.names) c.loop-queue-test.false) in
    c.loop-queue.invariant.waiting ∙ ap (λ ns. length (idle_among c.args.runner.now (busy_jobs s ns))) all
