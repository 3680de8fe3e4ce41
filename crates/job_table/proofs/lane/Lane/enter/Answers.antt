-- The job is added with its lane state.
use Rattle.std.proofs.Common.{refl, ap}
use Rattle.job_table.specs.Lanes.{is_live}
use Rattle.job_table.proofs.Lanes.{put_incoming, put_waiting, put_processing}
use Rattle.job_table.proofs.lane.Lane.enter.Goals as goal

pub returns-in-Incoming-clause-lane : goal.returns-in-Incoming-clause-lane
returns-in-Incoming-clause-lane c = λ old new is was seated.
    put_incoming old new c.args.job c.args.self.now is c.args.to seated was c.in-Incoming.is (c.requires.room (ap is_live c.in-Incoming.is)) _ refl

pub returns-in-Waiting-clause-lane : goal.returns-in-Waiting-clause-lane
returns-in-Waiting-clause-lane c = λ old new is was seated.
    rw (c.list.ensures.rest.0, c.list.ensures.rest.1, c.list.ensures.rest.2)
    (put_waiting old new c.args.job c.args.self.now is c.args.to seated was c.in-Waiting.entry c.in-Waiting.is (c.requires.own c.in-Waiting.entry c.in-Waiting.is)
    c.list.new.self.index c.list.ensures.items c.list.ensures.room (c.requires.room (ap is_live c.in-Waiting.is)) _ refl)

pub returns-in-Processing-clause-lane : goal.returns-in-Processing-clause-lane
returns-in-Processing-clause-lane c = λ old new is was seated.
    put_processing old new c.args.job c.args.self.now is c.args.to seated was c.in-Processing.is (c.requires.alone c.in-Processing.is) (c.requires.room (ap is_live c.in-Processing.is)) _ refl
