-- The rows are those of the table.
use Rattle.std.proofs.Common.{IsTrue, sym, ap, subst, ◌∙◌}
use Rattle.std.specs.Ordering.{nat_cmp}
use Rattle.std.specs.FinMap as finite
use Rattle.job_table.proofs.Relocated.{blank_found, entry_found}
use Rattle.job_table.proofs.Rows.{true_from}
use Rattle.job_table.proofs.table.Table.prepare_moves.Goals as goal

pub of_rows-requires : goal.of_rows-requires
of_rows-requires c = subst (λ es. IsTrue (finite.is_sorted nat_cmp es)) (sym c.jobs.ensures.entries) (true_from _ (finite.entries_sorted c.self.inside.store.state.jobs))

pub returns-clause-none : goal.returns-clause-none
returns-clause-none c = λ j r there.
    ap (finite.find nat_cmp j) c.in_ok-new_places.ensures.none
    ∙ blank_found c.jobs.result.now.items j r (entry_found c.self.inside.store.state c.jobs.result.now.items c.jobs.ensures.entries j r there)

pub returns-clause-room : goal.returns-clause-room
returns-clause-room c = λ j r there.
    c.in_ok-new_places.ensures.room j r (entry_found c.self.inside.store.state c.jobs.result.now.items c.jobs.ensures.entries j r there)
