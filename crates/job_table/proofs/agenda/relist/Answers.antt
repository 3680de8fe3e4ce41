-- The date of the job is replaced, removed or added.
use Rattle.std.proofs.Common.{Some, None, sym, ◌∙◌}
use Rattle.job_table.proofs.Redated.{relisted, with_less, with_more, with_other}
use Rattle.job_table.proofs.agenda.relist.Goals as goal

pub returns-then-ne-clause-dates : goal.returns-then-ne-clause-dates
returns-then-ne-clause-dates c = λ date old new is before after others.
    let both = c.in-Some-Some in
    relisted date old new c.args.job c.args.list.now.items is others (Some both.before) (Some both.after) (before ∙ both.is-0) (after ∙ both.is-1) (λ d same. c.requires.number d (both.is-1 ∙ same))
    c.replace.new.list.items (with_other c.args.list.now.items both.before both.after c.replace.new.list.items c.replace.ensures.items)

pub returns-in-Some-None-clause-dates : goal.returns-in-Some-None-clause-dates
returns-in-Some-None-clause-dates c = λ date old new is before after others.
    let gone = c.in-Some-None in
    relisted date old new c.args.job c.args.list.now.items is others (Some gone.before) None (before ∙ gone.is-0) (after ∙ gone.is-1) (λ d same. c.requires.number d (gone.is-1 ∙ same))
    c.remove.new.self.items (with_less c.args.list.now.items gone.before c.remove.new.self.items c.remove.ensures.items)

pub returns-in-None-Some-clause-dates : goal.returns-in-None-Some-clause-dates
returns-in-None-Some-clause-dates c = λ date old new is before after others.
    let come = c.in-None-Some in
    relisted date old new c.args.job c.args.list.now.items is others None (Some come.after) (before ∙ come.is-0) (after ∙ come.is-1) (λ d same. c.requires.number d (come.is-1 ∙ same))
    c.add.new.list.items (with_more c.args.list.now.items come.after c.add.new.list.items c.add.ensures.items)
