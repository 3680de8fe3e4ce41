-- The queue may come next.
use Rattle.std.proofs.Common.{refl, sym, subst}
use Rattle.job_table.specs.Loading.{IsNextQueue, Loaded}
use Rattle.job_table.specs.LoadingFields.{progress_of}
use Rattle.spool_types.specs.declared.listing.Row.TheVariants.{Queue}
use Rattle.job_table.proofs.Loaded.{legal_next_queue, progress_is, read_on}
use Rattle.job_table.proofs.loading.Loading.load_queue.Goals as goal

pub push_queue-requires-clause-legal : goal.push_queue-requires-clause-legal
push_queue-requires-clause-legal c =
    legal_next_queue (progress_of c.self.inside) c.args.queue (subst (λ (l : Loaded). IsNextQueue l.progress c.args.queue) (sym c.self.view_is) (c.if-not-takes_queue.ensures.yes refl)) c.self.invariant.reading.legal

pub invariant_of-self-2 : goal.invariant_of-self-2
invariant_of-self-2 c = record {
  reading = read_on (progress_of c.self.inside) _ (Queue c.args.queue) (subst (λ (l : Loaded). IsNextQueue l.progress c.args.queue) (sym c.self.view_is) (c.if-not-takes_queue.ensures.yes refl)) c.self.invariant.reading
      (progress_is _ _ c.in_ok-push_queue.ensures.added refl refl);
  measured = c.self.invariant.measured;
}
