-- The row is appended.
use Rattle.std.proofs.Common.{sym, ap, subst, ◌∙◌}
use Rattle.std.specs.Ordering.{nat_cmp}
use Rattle.std.specs.Cmp.Lexicographic.{slice_cmp}
use Rattle.std.specs.FinMap as finite
use Rattle.job_table.specs.Legal.{IsLegal}
use Rattle.job_table.specs.Loading.{IsAbove, with_queue}
use Rattle.job_table.proofs.Pushed.{push_queue_state, push_queue_ordered}
use Rattle.job_table.proofs.store.Store.push_queue.Goals as goal

pub invariant_of-self-2 : goal.invariant_of-self-2
invariant_of-self-2 c = push_queue_ordered c.self.inside c.self.invariant c.args.queue c.push.new.self
    (subst (λ v. IsAbove (slice_cmp nat_cmp) c.args.queue.name (finite.keys v.state.queues)) (sym c.self.view_is) c.requires.above)
    c.in_ok-push.ensures.items
    (subst (λ v. IsLegal (with_queue v.state c.args.queue)) (sym c.self.view_is) c.requires.legal)

pub returns-clause-added : goal.returns-clause-added
returns-clause-added c =
    push_queue_state c.self.inside c.self.invariant c.args.queue c.push.new.self
    (subst (λ v. IsAbove (slice_cmp nat_cmp) c.args.queue.name (finite.keys v.state.queues)) (sym c.self.view_is) c.requires.above)
    c.in_ok-push.ensures.items
    ∙ ap (λ v. with_queue v.state c.args.queue) c.self.view_is
