-- The only date of the job is replaced.
use Rattle.std.proofs.Common.{refl, sym, ap, ◌∙◌, arith}
use Rattle.job_table.specs.Agendas.{date_found}
use Rattle.job_table.proofs.Redated.{few_dates, replaced, same_date}
use Rattle.job_table.proofs.agenda.replace.Goals as goal

pub prove-unreachable-requires : goal.prove-unreachable-requires
prove-unreachable-requires c =
    let few = few_dates c.requires.date c.requires.jobs c.args.list.now.items c.requires.dates c.len.ensures.order c.requires.count c.requires.few in
    omega (arith, few, c.requires.fits, c.if-prove.true, c.room.ensures, c.len.ensures.count)

pub insert-requires-clause-absent : goal.insert-requires-clause-absent
insert-requires-clause-absent c = λ d there same.
    let was = (c.remove.ensures.items d).0 there in
    was.1 (same_date d c.args.before (sym (c.requires.dates.only d was.0) ∙ ap (λ k. date_found c.requires.date (c.requires.jobs k)) (same ∙ c.requires.number c.args.after refl) ∙ c.requires.own))

pub returns-clause-items : goal.returns-clause-items
returns-clause-items c = replaced c.args.list.now.items c.args.before c.args.after c.remove.new.self.items c.insert.new.self.items c.remove.ensures.items c.insert.ensures.items
