use Rattle.spool_engine.specs.EventSteps.{setting}
use Rattle.spool_engine.proofs.StageHistoryLaws.{round_turn, tick_turn, turns_turn}
use Rattle.spool_engine.proofs.laws.calls_are_steps.Goals as goal

pub returns-clause-round : goal.returns-clause-round
returns-clause-round g c = λ mime place s r t legal is tells has. round_turn
    (record {
      legal = c.legal_tables_stay_legal.ensures.stays;
      left = c.spent_stages_stay_spent.ensures.left;
      rises = c.versions_rise.ensures.all;
      raised_legal = c.versions_rise.ensures.legal;
      version = c.versions_rise.ensures.version;
      joined = c.calls_join.ensures;
    }) (setting g.D.Disk.device mime place) t s r legal (tells, has) is

pub returns-clause-tick : goal.returns-clause-tick
returns-clause-tick g c = λ mime place s k t legal is tells has. tick_turn
    (record {
      legal = c.legal_tables_stay_legal.ensures.stays;
      left = c.spent_stages_stay_spent.ensures.left;
      rises = c.versions_rise.ensures.all;
      raised_legal = c.versions_rise.ensures.legal;
      version = c.versions_rise.ensures.version;
      joined = c.calls_join.ensures;
    }) t (setting g.D.Disk.device mime place) s k legal (tells, has) is

pub returns-clause-run : goal.returns-clause-run
returns-clause-run g c = λ mime place s turns t legal are tells has quiet.
    let run = turns_turn
    (record {
      legal = c.legal_tables_stay_legal.ensures.stays;
      left = c.spent_stages_stay_spent.ensures.left;
      rises = c.versions_rise.ensures.all;
      raised_legal = c.versions_rise.ensures.legal;
      version = c.versions_rise.ensures.version;
      joined = c.calls_join.ensures;
    }) (setting g.D.Disk.device mime place) turns t s legal (tells, has) are in
    (run.0, run.1 quiet)

pub returns-clause-busy_run : goal.returns-clause-busy_run
returns-clause-busy_run g c = λ mime place s turns t legal are tells has. (turns_turn
    (record {
      legal = c.legal_tables_stay_legal.ensures.stays;
      left = c.spent_stages_stay_spent.ensures.left;
      rises = c.versions_rise.ensures.all;
      raised_legal = c.versions_rise.ensures.legal;
      version = c.versions_rise.ensures.version;
      joined = c.calls_join.ensures;
    }) (setting g.D.Disk.device mime place) turns t s legal (tells, has) are).0
