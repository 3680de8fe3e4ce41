-- The row is appended.
use Rattle.std.proofs.Common.{◌<◌, ◌∷◌, sym, ap, subst, ◌∙◌}
use Rattle.std.specs.Prelude.{All}
use Rattle.std.specs.Ordering.{nat_cmp}
use Rattle.std.specs.FinMap as finite
use Rattle.spool_types.specs.State.{job_of}
use Rattle.job_table.specs.Legal.{IsLegal}
use Rattle.job_table.specs.Loading.{IsAbove, with_job}
use Rattle.job_table.specs.Contents.{places_of}
use Rattle.job_table.specs.TableRows.{place_entry}
use Rattle.job_table.proofs.Tables.{keys_jobs}
use Rattle.job_table.proofs.Pushed.{all_above, push_job_state, push_job_ordered, push_job_places}
use Rattle.job_table.proofs.store.Store.push_job.Goals as goal

pub push-requires-clause-room : goal.push-requires-clause-room
push-requires-clause-room c = subst (λ v. 0 < v.room.jobs) (sym c.self.view_is) c.requires.room

pub push-requires-clause-above : goal.push-requires-clause-above
push-requires-clause-above c =
    let above = subst (IsAbove nat_cmp c.args.row.job.id) (keys_jobs c.self.inside.jobs.items c.self.invariant.jobs) (subst (λ v. IsAbove nat_cmp c.args.row.job.id (finite.keys v.state.jobs)) (sym c.self.view_is) c.requires.above) in
    subst (All (λ n. n < c.args.row.job.id)) (sym c.self.invariant.own) (all_above c.args.row.job.id c.self.inside.jobs.items above)

pub invariant_of-self : goal.invariant_of-self
invariant_of-self c = push_job_ordered c.self.inside c.self.invariant c.args.row c.push.new.self
    (subst (λ v. IsAbove nat_cmp c.args.row.job.id (finite.keys v.state.jobs)) (sym c.self.view_is) c.requires.above)
    c.push.ensures.items
    c.push.ensures.numbers
    c.requires.holds
    (subst (λ v. IsLegal (with_job v.state (job_of c.args.row))) (sym c.self.view_is) c.requires.legal)

pub returns-clause-state : goal.returns-clause-state
returns-clause-state c =
    push_job_state c.self.inside c.self.invariant c.args.row c.push.new.self
    (subst (λ v. IsAbove nat_cmp c.args.row.job.id (finite.keys v.state.jobs)) (sym c.self.view_is) c.requires.above)
    c.push.ensures.items
    ∙ ap (λ v. with_job v.state (job_of c.args.row)) c.self.view_is

pub returns-clause-places : goal.returns-clause-places
returns-clause-places c = λ j.
    push_job_places c.self.inside c.self.invariant c.args.row c.push.new.self
    (subst (λ v. IsAbove nat_cmp c.args.row.job.id (finite.keys v.state.jobs)) (sym c.self.view_is) c.requires.above)
    c.push.ensures.items j
    ∙ ap (λ v. places_of (place_entry c.args.row ∷ v.places) j) c.self.view_is
