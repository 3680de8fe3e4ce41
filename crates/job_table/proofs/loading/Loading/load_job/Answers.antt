-- The job may come next.
use Rattle.std.proofs.Common.{◌≡◌, [], ◌∷◌, refl, sym, ap, subst, ◌∙◌}
use Rattle.spool_types.specs.State.{Job}
use Rattle.spool_types.specs.declared.listing.Row.TheVariants.{Job as JobRow}
use Rattle.job_table.specs.Contents.{places_of}
use Rattle.job_table.specs.Loading.{IsNextJob, begun_part, Loaded}
use Rattle.job_table.specs.LoadingFields.{progress_of}
use Rattle.job_table.specs.TableRows.{place_entry}
use Rattle.job_table.proofs.Loaded.{settled, read_on}
use Rattle.job_table.proofs.Rooms.{places_first}
use Rattle.job_table.proofs.Settled.{last_none}
use Rattle.job_table.proofs.loading.Loading.load_job.Goals as goal

pub invariant_of-self-2 : goal.invariant_of-self-2
invariant_of-self-2 c = record {
  reading = read_on (progress_of c.self.inside) _ (JobRow c.args.job) (subst (λ (l : Loaded). IsNextJob l.progress c.args.job) (sym c.self.view_is) (c.if-not-takes_job.ensures.yes refl)) c.self.invariant.reading
      (settled (progress_of c.self.inside) _ (record { row = c.in_ok-row.row.job; read = 0 }) _ _ c.in_ok-reserve_job.ensures.same c.settle.ensures.state c.settle.ensures.rest (begun_part c.args.job)
      (ap (λ r. record { row = r; read = 0 }) c.in_ok-row.ensures.row));
  measured = c.settle.ensures.measured;
}

pub returns-clause-places : goal.returns-clause-places
returns-clause-places c = λ k.
    let row = c.in_ok-row.row in
    let places = c.self.inside.store.places in
    let next = subst (λ (l : Loaded). IsNextJob l.progress c.args.job) (sym c.self.view_is) (c.if-not-takes_job.ensures.yes refl) in
    let seen = sym (last_none c.self.inside.partial places next.whole) ∙ ap (λ (l : Loaded). l.places) c.self.view_is in
    let own : row.job.id ≡ c.args.job.id = ap (λ (x : Job). x.id) c.in_ok-row.ensures.row in
    let absent : places_of places row.job.id ≡ [] = ap (λ n. places_of places n) own ∙ ap (λ ps. places_of ps c.args.job.id) seen ∙ c.if-not-takes_job.ensures.absent refl in
    c.settle.ensures.places k
    ∙ ap (λ ps. places_of (place_entry row ∷ ps) k) c.in_ok-reserve_job.ensures.places
    ∙ places_first places row c.in_ok-row.ensures.none absent k
    ∙ ap (λ ps. places_of ps k) seen
