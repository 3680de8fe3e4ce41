use Rattle.spool_engine.specs.EventSteps.{setting}
use Rattle.spool_engine.proofs.HandedOnLaws.{calls_right, first_right}
use Rattle.spool_engine.proofs.InputLaws.{later_right}
use Rattle.spool_engine.proofs.laws.stages_have_right_input.Goals as goal

pub returns-clause-over_ticks : goal.returns-clause-over_ticks
returns-clause-over_ticks g c = λ mime place s calls t legal none tells quiet are. calls_right
    (record {
      legal = c.legal_tables_stay_legal.ensures.stays;
      left = c.spent_stages_stay_spent.ensures.left;
      rises = c.versions_rise.ensures.all;
      raised_legal = c.versions_rise.ensures.legal;
      version = c.versions_rise.ensures.version;
      joined = c.calls_join.ensures;
    }) (setting g.D.Disk.device mime place) g.met.D.Disk.lawful c.rounds_hand_on.ensures (record { one = c.ticks_hand_on.ensures.one; finishes = c.ticks_hand_on.ensures.finishes }) s calls t legal none tells quiet are

pub returns-clause-later : goal.returns-clause-later
returns-clause-later g c = λ mime place s calls t legal none tells quiet are no_ticks. later_right
    (record {
      legal = c.legal_tables_stay_legal.ensures.stays;
      left = c.spent_stages_stay_spent.ensures.left;
      rises = c.versions_rise.ensures.all;
      raised_legal = c.versions_rise.ensures.legal;
      version = c.versions_rise.ensures.version;
      joined = c.calls_join.ensures;
    }) (setting g.D.Disk.device mime place) c.rounds_hand_on.ensures s calls t no_ticks legal none tells quiet are

pub returns-clause-first : goal.returns-clause-first
returns-clause-first g c = λ mime place s documents calls t legal none tells quiet settled some leaves are. first_right
    (record {
      legal = c.legal_tables_stay_legal.ensures.stays;
      left = c.spent_stages_stay_spent.ensures.left;
      rises = c.versions_rise.ensures.all;
      raised_legal = c.versions_rise.ensures.legal;
      version = c.versions_rise.ensures.version;
      joined = c.calls_join.ensures;
    }) (setting g.D.Disk.device mime place) g.met.D.Disk.lawful c.rounds_hand_on.ensures (record { one = c.ticks_hand_on.ensures.one; finishes = c.ticks_hand_on.ensures.finishes }) s documents calls t legal none tells quiet settled some leaves are
