-- Another version changes no queue and no job.
use Rattle.std.proofs.Common.{refl, sym, subst}
use Rattle.job_table.specs.Legal.{IsLegal}
use Rattle.job_table.proofs.Held.{held_stays}
use Rattle.job_table.proofs.Moves.{Stays}
use Rattle.job_table.proofs.Raised.{legal_raised}
use Rattle.job_table.proofs.table.Table.raise.Goals as goal

pub invariant_of-self : goal.invariant_of-self
invariant_of-self c =
    let s = c.self.inside.store.state in
    held_stays c.self.inside c.raise.new.self
    (subst (Stays s) (sym c.raise.ensures.state) (record { names = refl; moment = refl; jobs = λ k. refl }))
    (subst IsLegal (sym c.raise.ensures.state) (legal_raised s c.self.invariant.legal)) c.self.invariant
