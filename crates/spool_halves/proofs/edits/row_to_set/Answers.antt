-- The row is at its own name.
use Rattle.std.proofs.Common.{◌≡◌, ◌∙◌, Option, List, ℕ, Some, ap, subst, sym}
use Rattle.std.specs.Prelude.{IsSome}
use Rattle.std.proofs.lemmas.Result.{IfOk-weaker}
use Rattle.spool_types.specs.State.{State, queue_at}
use Rattle.spool_types.specs.declared.rows.QueueRow.{QueueRow}
use Rattle.spool_halves.proofs.edits.row_to_set.Goals as goal

at_own : (s : State) (name : List ℕ) (q : QueueRow) → ((n : List ℕ) (x : QueueRow) → queue_at s n ≡ Some x → x.name ≡ n) → Some q ≡ queue_at s name → queue_at s q.name ≡ Some q
at_own s name q own at = ap (queue_at s) (own name q (sym at)) ∙ sym at

some_at : (o : Option QueueRow) (q : QueueRow) → o ≡ Some q → IsSome o
some_at o q is = cc

pub ordered_row-requires : goal.ordered_row-requires
ordered_row-requires c = record {
  there = at_own c.args.table.now.state c.args.name.now c.in-Some-queue.row.now c.queues-queues.ensures.legal.names c.in-Some-queue.ensures;
}

pub returns-in-Some-queue-clause-there : goal.returns-in-Some-queue-clause-there
returns-in-Some-queue-clause-there c =
    let s = c.args.table.now.state in
    let q = c.in-Some-queue.row.now in
    let at = at_own s c.args.name.now q c.queues-queues.ensures.legal.names c.in-Some-queue.ensures in
    IfOk-weaker c.ordered_row.result _ _ (λ row is. subst (λ (n : List ℕ). IsSome (queue_at s n)) (sym (ap (λ (x : QueueRow). x.name) is)) (some_at (queue_at s q.name) q at)) c.ordered_row.ensures.row
