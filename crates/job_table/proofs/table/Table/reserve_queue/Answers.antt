-- No row and no lane changes.
use Rattle.std.proofs.Common.{sym, subst}
use Rattle.job_table.specs.Lanes.{AreLanes}
use Rattle.job_table.proofs.Held.{held_same}
use Rattle.job_table.proofs.table.Table.reserve_queue.Goals as goal

pub invariant_of-self : goal.invariant_of-self
invariant_of-self c = held_same c.self.inside c.reserve_queue.new.self c.reserve_queue.ensures.same c.self.invariant

pub invariant_of-self-2 : goal.invariant_of-self-2
invariant_of-self-2 c =
    let held = held_same c.self.inside c.reserve_queue.new.self c.reserve_queue.ensures.same c.self.invariant in
    record {
      legal = held.legal;
      lanes = subst (AreLanes c.reserve_queue.new.self.state c.self.inside.vacant) (sym c.reserve.ensures.items) held.lanes;
      timely = held.timely;
      spare = held.spare;
      agenda = held.agenda;
      vacancies = held.vacancies;
    }
