-- A job is the next of its queue if its number was chosen.
use Rattle.std.proofs.Common.{refl, sym, ◌∙◌}
use Rattle.std.proofs.lemmas.Bool.{eqb-true, eqb-false}
use Rattle.job_table.proofs.Choice.{next_none, next_some}
use Rattle.job_table.proofs.table.Table.is_next.Goals as goal

pub returns-in-Some : goal.returns-in-Some
returns-in-Some c =
    let job = c.in-Some.ensures.chosen in
    next_some c.args.self.now.state c.in-Some.ensures.legal c.args.job.now (c.requires c.in-Some.ensures.legal) job.1 job.3
    (c.order_law.ensures.only _ _ _ _) (c.order_law.ensures.tested _ _ _ _ _)
    c.in-Some.next job.0 job.2 job.4 c.eq.result
    (λ is. eqb-true _ _ (sym c.eq.ensures ∙ is)) (λ is. eqb-false _ _ (sym c.eq.ensures ∙ is))

pub returns-in-None : goal.returns-in-None
returns-in-None c = next_none c.args.self.now.state c.in-None.ensures.legal c.args.job.now (c.requires c.in-None.ensures.legal) (c.in-None.ensures.none refl)
