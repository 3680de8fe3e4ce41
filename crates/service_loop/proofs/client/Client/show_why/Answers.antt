-- A reply about the job over the table is added.
use Rattle.std.proofs.Common.{ℕ, List, Result, OnOk, Ok, Err, subst}
use Rattle.spool_types.specs.State.{State}
use Rattle.wait_causes.specs.WaitCauses.{IsWhy}
use Rattle.wait_causes.specs.declared.cause.ServiceFacts.{ServiceFacts}
use Rattle.service_loop.specs.ClientSteps.{IsAdded}
use Rattle.service_loop.proofs.client.Client.show_why.Goals as goal

why_told : {T E : Type 0} (r : Result T E) (Is : ServiceFacts → List ℕ → Type 0) (Added : List ℕ → Type 0) (facts : ServiceFacts) (text : List ℕ) →
    Is facts text → OnOk r (Added text) → OnOk r ((f : ServiceFacts) × (x : List ℕ) × Is f x × Added x)
why_told (Ok x) Is Added facts text is added = (facts, text, is, added)
why_told (Err e) Is Added facts text is added = tt

pub returns-clause-shown : goal.returns-clause-shown
returns-clause-shown g c =
    let client = c.args.self.now in
    let facts = c.facts_of-facts.result in
    let is = subst (λ (s : State). IsWhy facts s c.args.job c.in_ok-text.text.items) c.table.ensures c.in_ok-text.ensures in
    why_told c.add.result (λ f x. IsWhy f c.args.shared.now.engine.run_state.spool.state c.args.job x) (λ x. IsAdded client x c.add.new.self) facts c.in_ok-text.text.items is
    (subst (λ (text : List ℕ). OnOk c.add.result (IsAdded client text c.add.new.self)) c.deref.ensures.value c.add.ensures.added)
