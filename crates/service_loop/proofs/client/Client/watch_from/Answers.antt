-- The changes since this number are added.
use Rattle.std.proofs.Common.{◌≡◌, ◌++◌, true, refl}
use Rattle.std.proofs.lemmas.Result.{IfOk-weaker}
use Rattle.event_records.specs.NumberedChanges.{NumberedChanges}
use Rattle.service_texts.specs.Notices.{watch_text}
use Rattle.service_loop.specs.ClientSteps.{IsAdded}
use Rattle.service_loop.proofs.client.Client.watch_from.Goals as goal

pub returns-clause-added : goal.returns-clause-added
returns-clause-added g c =
    let old = c.args.self.now in
    let s = c.args.shared.now.engine.run_state.spool.state in
    let changes = c.args.shared.now.records.changes in
    let new = c.push_changes_since.new.text in
    IfOk-weaker c.push_changes_since.result (λ _. new.items ≡ old.replies.items ++ watch_text old.standing s changes c.args.number)
    (λ _. (xs : NumberedChanges) × IsAdded old (watch_text old.standing s xs c.args.number) (record old { replies = new; watches = true; counts = true }))
    (λ x e. (changes, record { connection = refl; reader = refl; taken = refl; replies = e })) c.push_changes_since.ensures
