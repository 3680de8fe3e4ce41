-- Each list gets the date of the job, and the job is counted if it exists.
use Rattle.std.proofs.Common.{◌≡◌, ℕ, ◌+◌, ◌-◌, ◌<◌, true, Option, sym, ap, ◌∙◌, arith}
use Rattle.std.specs.Prelude.{is_some}
use Rattle.spool_types.specs.State.{Job}
use Rattle.job_table.specs.Agendas.{hold_date, retry_date, ended_date}
use Rattle.job_table.specs.declared.agenda.Dates.{Dates}
use Rattle.job_table.proofs.Gathered.{one_if}
use Rattle.job_table.proofs.Redated.{exists_there, few_kept, few_less, few_more, few_same, may_end, may_hold, may_retry, one_counted, redated_agenda}
use Rattle.job_table.proofs.agenda.Agenda.redate.Goals as goal

pub relist-requires : goal.relist-requires
relist-requires c = may_hold c.args.self.now c.args.job c.args.from c.args.to c.requires

pub relist-requires-2 : goal.relist-requires-2
relist-requires-2 c = may_retry c.args.self.now c.args.job c.args.from c.args.to c.requires

pub relist-requires-3 : goal.relist-requires-3
relist-requires-3 c = may_end c.args.self.now c.args.job c.args.from c.args.to c.requires

pub overflow_sub-self : goal.overflow_sub-self
overflow_sub-self c =
    let one = one_counted c.requires.jobs c.args.self.now c.requires.agenda c.args.job
    (exists_there (c.requires.jobs c.args.job) ∙ ap (λ (d : Dates). d.exists) c.requires.own ∙ c.in-true-false.is-0) in
    omega (arith, one)

pub returns-in-true-false-clause-jobs : goal.returns-in-true-false-clause-jobs
returns-in-true-false-clause-jobs c =
    let one = one_counted c.requires.jobs c.args.self.now c.requires.agenda c.args.job
    (exists_there (c.requires.jobs c.args.job) ∙ ap (λ (d : Dates). d.exists) c.requires.own ∙ c.in-true-false.is-0) in
    omega (arith, one, ap one_if c.in-true-false.is-0, ap one_if c.in-true-false.is-1)

pub returns-in-true-true-clause-agenda : goal.returns-in-true-true-clause-agenda
returns-in-true-true-clause-agenda c = λ old new is own redated.
    redated_agenda old new c.args.job c.args.self.now c.args.from c.args.to is own redated c.relist.new.list c.relist-2.new.list c.relist-3.new.list c.args.self.now.jobs
    (c.relist.ensures.dates hold_date old new) (c.relist-2.ensures.dates retry_date old new) (c.relist-3.ensures.dates ended_date old new) c.relist.ensures.room c.relist-2.ensures.room c.relist-3.ensures.room
    (few_kept old new c.args.job c.args.self.now.jobs is.few c.args.to redated (exists_there (old c.args.job) ∙ ap (λ (d : Dates). d.exists) own ∙ c.in-true-true.is-0))
    (is.fits)

pub returns-in-true-false-clause-agenda : goal.returns-in-true-false-clause-agenda
returns-in-true-false-clause-agenda c = λ old new is own redated.
    redated_agenda old new c.args.job c.args.self.now c.args.from c.args.to is own redated c.relist.new.list c.relist-2.new.list c.relist-3.new.list (c.args.self.now.jobs - 1)
    (c.relist.ensures.dates hold_date old new) (c.relist-2.ensures.dates retry_date old new) (c.relist-3.ensures.dates ended_date old new) c.relist.ensures.room c.relist-2.ensures.room c.relist-3.ensures.room
    (let one = one_counted old c.args.self.now is c.args.job (exists_there (old c.args.job) ∙ ap (λ (d : Dates). d.exists) own ∙ c.in-true-false.is-0) in few_less old new c.args.job c.args.self.now.jobs is.few c.args.to redated c.in-true-false.is-1 (exists_there (old c.args.job) ∙ ap (λ (d : Dates). d.exists) own ∙ c.in-true-false.is-0) (c.args.self.now.jobs - 1) (omega (arith, one)))
    (let fits = is.fits in omega (arith, fits))

pub returns-in-false-true-clause-agenda : goal.returns-in-false-true-clause-agenda
returns-in-false-true-clause-agenda c = λ old new is own redated.
    redated_agenda old new c.args.job c.args.self.now c.args.from c.args.to is own redated c.relist.new.list c.relist-2.new.list c.relist-3.new.list (c.args.self.now.jobs + 1)
    (c.relist.ensures.dates hold_date old new) (c.relist-2.ensures.dates retry_date old new) (c.relist-3.ensures.dates ended_date old new) c.relist.ensures.room c.relist-2.ensures.room c.relist-3.ensures.room
    (few_more old new c.args.job c.args.self.now.jobs is.few c.args.to redated)
    (let room = c.requires.room c.in-false-true.is-0 in omega (arith, room))

pub returns-in-false-false-clause-agenda : goal.returns-in-false-false-clause-agenda
returns-in-false-false-clause-agenda c = λ old new is own redated.
    redated_agenda old new c.args.job c.args.self.now c.args.from c.args.to is own redated c.relist.new.list c.relist-2.new.list c.relist-3.new.list c.args.self.now.jobs
    (c.relist.ensures.dates hold_date old new) (c.relist-2.ensures.dates retry_date old new) (c.relist-3.ensures.dates ended_date old new) c.relist.ensures.room c.relist-2.ensures.room c.relist-3.ensures.room
    (few_same old new c.args.job c.args.self.now.jobs is.few c.args.to redated c.in-false-false.is-1)
    (is.fits)
