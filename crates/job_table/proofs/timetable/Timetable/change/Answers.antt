-- The deadline is added, removed or unchanged.
use Rattle.std.proofs.Common.{sym, ap, subst, ◌∙◌}
use Rattle.std.specs.Prelude.{Some}
use Rattle.job_table.specs.Timely.{IsRetimed}
use Rattle.job_table.proofs.Timely.{retimed_same, retimed_less, retimed_more}
use Rattle.job_table.proofs.timetable.Timetable.change.Goals as goal

pub returns-in-Some-None-clause-timely : goal.returns-in-Some-None-clause-timely
returns-in-Some-None-clause-timely c = λ old new is was retimed.
    let gone = c.in-Some-None in
    retimed_less old new c.args.job c.args.self.now is gone.deadline (was ∙ gone.is-0) (subst (IsRetimed old new c.args.job) gone.is-1 retimed) c.remove.new.self c.remove.ensures.items c.remove.ensures.room

pub returns-in-None-Some-clause-timely : goal.returns-in-None-Some-clause-timely
returns-in-None-Some-clause-timely c = λ old new is was retimed.
    let come = c.in-None-Some in
    rw c.list.ensures.timed
    (retimed_more old new c.args.job c.args.self.now is come.deadline (c.requires.number come.deadline come.is-1).0 (was ∙ come.is-0) (subst (IsRetimed old new c.args.job) come.is-1 retimed) c.list.new.self.deadlines c.list.ensures.items c.list.ensures.room)

pub returns-in-Some-Some-clause-timely : goal.returns-in-Some-Some-clause-timely
returns-in-Some-Some-clause-timely c = λ old new is was retimed.
    let both = c.in-Some-Some in
    let same = c.requires.same both.field-0-0 both.field-0-1 both.is-0 both.is-1 in
    retimed_same old new c.args.job c.args.self.now is (subst (IsRetimed old new c.args.job) (both.is-1 ∙ ap Some (sym same) ∙ sym (was ∙ both.is-0)) retimed)

pub returns-in-None-None-clause-timely : goal.returns-in-None-None-clause-timely
returns-in-None-None-clause-timely c = λ old new is was retimed.
    retimed_same old new c.args.job c.args.self.now is (subst (IsRetimed old new c.args.job) (c.in-None-None.is-1 ∙ sym (was ∙ c.in-None-None.is-0)) retimed)
