-- A text of the queue over the table is added.
use Rattle.std.proofs.Common.{ℕ, List, Result, OnOk, Ok, Err, subst}
use Rattle.event_records.specs.SeenTimes.{queue_time}
use Rattle.spool_types.specs.State.{State}
use Rattle.service_texts.specs.QueueShown.{IsShownQueue}
use Rattle.service_loop.specs.ClientSteps.{IsAdded}
use Rattle.service_loop.proofs.client.Client.show_queue.Goals as goal

shown_text : {T E : Type 0} (r : Result T E) (Shown Added : List ℕ → Type 0) (text : List ℕ) → Shown text → OnOk r (Added text) → OnOk r ((x : List ℕ) × Shown x × Added x)
shown_text (Ok x) Shown Added text shown added = (text, shown, added)
shown_text (Err e) Shown Added text shown added = tt

pub returns-clause-shown : goal.returns-clause-shown
returns-clause-shown g c =
    let client = c.args.self.now in
    let changed = queue_time c.args.shared.now.records.seen c.args.name.now in
    let shown = subst (λ (s : State). IsShownQueue client.standing changed s c.args.name.now c.in_ok-text.text.items) c.table-table.ensures c.in_ok-text.ensures in
    shown_text c.add.result (IsShownQueue client.standing changed c.args.shared.now.engine.run_state.spool.state c.args.name.now) (λ text. IsAdded client text c.add.new.self) c.in_ok-text.text.items shown
    (subst (λ (text : List ℕ). OnOk c.add.result (IsAdded client text c.add.new.self)) c.deref.ensures.value c.add.ensures.added)
