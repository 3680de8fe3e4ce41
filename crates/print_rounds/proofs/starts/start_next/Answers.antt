use Rattle.std.proofs.Common.{◌<◌, length, None, Some, sym, ap, subst, ◌∙◌, refl}
use Rattle.std.specs.FinMap as finite
use Rattle.std.specs.Prelude.{vec_capacity}
use Rattle.spool_types.specs.declared.event.Event.TheVariants.{Start}
use Rattle.spool_types.specs.State.{State}
use Rattle.job_table.specs.Step.{refusal_of}
use Rattle.print_rounds.proofs.HappenedLaws.{none_happened}
use Rattle.print_rounds.proofs.StartLaws.{starting_at}
use Rattle.print_rounds.proofs.starts.start_next.Goals as goal

pub next_at-requires : goal.next_at-requires
next_at-requires g c = subst (λ (s : State). c.args.at < length (finite.keys s.queues)) (sym c.table.ensures.table) c.requires.within

pub returns-in-Some-clause-start : goal.returns-in-Some-clause-start
returns-in-Some-clause-start g c =
    let (name, there, next) = c.in-Some.ensures.next in
    let accepted = ap (λ s. refusal_of s (Start c.in-Some.job)) (sym c.table.ensures.table) ∙ c.in-Some.ensures.startable in
    starting_at g.D.Disk.device c.args.spool.now c.table.result.now.state c.table.ensures.table c.args.at name there (Some c.in-Some.job) next (Some c.start_job.result) c.start_job.new.spool (accepted, c.start_job.ensures.answer)
    (vec_capacity c.args.happened.now) c.args.happened.now.items c.start_job.new.happened.items c.start_job.ensures.noted

pub returns-in-None-clause-start : goal.returns-in-None-clause-start
returns-in-None-clause-start g c =
    let (name, there, next) = c.in-None.ensures.next in
    starting_at g.D.Disk.device c.args.spool.now c.table.result.now.state c.table.ensures.table c.args.at name there None next None c.args.spool.now (refl, refl)
    (vec_capacity c.args.happened.now) c.args.happened.now.items c.args.happened.now.items (none_happened (vec_capacity c.args.happened.now) 1 c.args.happened.now.items)
