-- The rows are the values of the map.
use Rattle.std.proofs.Common.{sym, ap, subst, ◌∙◌}
use Rattle.std.specs.FinMap as finite
use Rattle.std.specs.Ordering.{nat_cmp}
use Rattle.std.specs.Cmp.{nat_cmp_total}
use Rattle.spool_types.specs.State.{job_of}
use Rattle.spool_types.specs.declared.rows.JobRow.{JobRow}
use Rattle.job_table.specs.Contents.{AreSized, HasOwnPlaces, IsFreedWhenEnded}
use Rattle.job_table.specs.Legal.{IsLegal}
use Rattle.job_table.proofs.Choice.{there_value}
use Rattle.job_table.proofs.Rooms.{absent_place, freed_room, sized_place}
use Rattle.job_table.proofs.Rows.{entries_map}
use Rattle.job_table.proofs.Tables.{values_jobs, keys_jobs, find_job}
use Rattle.job_table.proofs.store.Store.jobs.Goals as goal

pub returns-clause-rows : goal.returns-clause-rows
returns-clause-rows c =
    sym (values_jobs c.self.inside.jobs.items c.self.invariant.jobs)
    ∙ ap (λ v. finite.values v.state.jobs) c.self.view_is

pub returns-clause-numbers : goal.returns-clause-numbers
returns-clause-numbers c =
    c.self.invariant.own
    ∙ sym (keys_jobs c.self.inside.jobs.items c.self.invariant.jobs)
    ∙ ap (λ v. finite.keys v.state.jobs) c.self.view_is

pub returns-clause-entries : goal.returns-clause-entries
returns-clause-entries c =
    sym (entries_map nat_cmp nat_cmp_total (λ (r : JobRow). r.job.id) job_of c.self.inside.jobs.items c.self.invariant.jobs)
    ∙ ap (λ v. finite.entries v.state.jobs) c.self.view_is

pub returns-clause-found : goal.returns-clause-found
returns-clause-found c = there_value c.args.self.now.state (subst (λ v. IsLegal v.state) c.self.view_is c.self.invariant.legal)

pub returns-clause-freed : goal.returns-clause-freed
returns-clause-freed c = subst IsFreedWhenEnded c.self.view_is (λ j r there over.
    freed_room c.self.inside.jobs.items c.self.invariant.documents j r (find_job c.self.inside.jobs.items c.self.invariant.jobs j ∙ there) over)

pub returns-clause-places : goal.returns-clause-places
returns-clause-places c = ap (λ v. v.places) c.self.view_is

pub returns-clause-own : goal.returns-clause-own
returns-clause-own c = subst HasOwnPlaces c.self.view_is (λ j none.
    absent_place c.self.inside.jobs.items j (find_job c.self.inside.jobs.items c.self.invariant.jobs j ∙ none))

pub returns-clause-sized : goal.returns-clause-sized
returns-clause-sized c = subst AreSized c.self.view_is (λ j r there.
    sized_place c.self.inside.jobs.items c.self.invariant.documents j r (find_job c.self.inside.jobs.items c.self.invariant.jobs j ∙ there))
