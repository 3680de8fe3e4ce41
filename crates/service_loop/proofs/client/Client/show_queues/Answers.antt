-- The listing of the queues over the table is added.
use Rattle.std.proofs.Common.{◌≡◌, ◌++◌, refl, ap, ◌∙◌}
use Rattle.std.proofs.lemmas.Result.{IfOk-weaker}
use Rattle.spool_types.specs.State.{State}
use Rattle.queue_sayings.specs.QueueSayings.{all_queues_shown}
use Rattle.service_loop.specs.ClientSteps.{IsAdded}
use Rattle.service_loop.proofs.client.Client.show_queues.Goals as goal

pub returns-clause-shown : goal.returns-clause-shown
returns-clause-shown g c =
    let old = c.args.self.now in
    let new = c.push_all_queues.new.text in
    let s = c.args.shared.now.engine.run_state.spool.state in
    IfOk-weaker c.push_all_queues.result (λ _. new.items ≡ old.replies.items ++ all_queues_shown old.standing c.table.result.now.state)
    (λ _. IsAdded old (all_queues_shown old.standing s) (record old { replies = new }))
    (λ x e. record { connection = refl; reader = refl; taken = refl; replies = e ∙ ap (λ (t : State). old.replies.items ++ all_queues_shown old.standing t) c.table.ensures }) c.push_all_queues.ensures
