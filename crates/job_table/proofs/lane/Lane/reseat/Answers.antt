-- The job is removed and added again, or its entry is replaced.
use Rattle.std.proofs.Common.{◌≡◌, sym, ap, ◌∙◌}
use Rattle.job_table.specs.declared.lane.LaneState.TheVariants.{Ended, Processing}
use Rattle.job_table.specs.Lanes.{IsLane}
use Rattle.job_table.proofs.Lanes.{changed_waiting, taken, taken_own, put_back, none_left}
use Rattle.job_table.proofs.lane.Lane.reseat.Goals as goal

pub enter-requires-clause-there : goal.enter-requires-clause-there
enter-requires-clause-there c =
    let seats = c.requires.there.seats in
    record {
      seats = taken seats c.args.job;
      lane = c.leave.ensures.lane seats (taken seats c.args.job) c.requires.there.lane c.requires.there.own (taken_own seats c.args.job);
      own = (taken_own seats c.args.job).own;
    }

pub enter-requires-clause-alone : goal.enter-requires-clause-alone
enter-requires-clause-alone c = λ busy.
    let seats = c.requires.there.seats in
    let left : IsLane (taken seats c.args.job) c.leave.new.self = c.leave.ensures.lane seats (taken seats c.args.job) c.requires.there.lane c.requires.there.own (taken_own seats c.args.job) in
    none_left c.leave.new.self.processing (λ k at.
    let own : k ≡ c.args.job = c.requires.alone busy k (c.leave.ensures.processing k at) in
    let no : Processing ≡ Ended = sym (left.processing k at) ∙ ap (taken seats c.args.job) own ∙ (taken_own seats c.args.job).own in
    absurd (cc))

pub returns-in-Waiting-Waiting-clause-lane : goal.returns-in-Waiting-Waiting-clause-lane
returns-in-Waiting-Waiting-clause-lane c = λ old new is was seated.
    let both = c.in-Waiting-Waiting in
    changed_waiting old new c.args.job c.args.self.now is both.before both.entry (was ∙ both.is-0) (record { own = seated.own ∙ both.is-1; others = seated.others })
    (c.requires.own both.entry both.is-1) c.replace.new.self c.replace.ensures.items c.replace.ensures.room

pub returns-in_default-clause-lane : goal.returns-in_default-clause-lane
returns-in_default-clause-lane c = λ old new is was seated.
    c.enter.ensures.lane (taken old c.args.job) new
    (c.leave.ensures.lane old (taken old c.args.job) is was (taken_own old c.args.job))
    (taken_own old c.args.job).own (put_back old new c.args.job c.args.to seated)
