-- The next piece of the last job.
use Rattle.std.proofs.Common.{◌∷◌, length, Some, rules, refl, sym, ap, subst, ◌∙◌}
use Rattle.std.specs.Option.{option_map}
use Rattle.spool_types.specs.declared.listing.Row.TheVariants.{Piece}
use Rattle.spool_types.specs.Sent.{with_placed}
use Rattle.job_table.specs.Contents.{places_of}
use Rattle.job_table.specs.Loading.{IsPieceOf, with_next_piece, Loaded}
use Rattle.job_table.specs.LoadingFields.{progress_of, part_of, IsGrown}
use Rattle.job_table.specs.TableRows.{place_entry}
use Rattle.job_table.proofs.Loaded.{settled_piece, read_on, grown_parts}
use Rattle.job_table.proofs.Settled.{grown_places, grown_measured}
use Rattle.job_table.proofs.loading.Loading.load_piece.Goals as goal
use Rattle.job_table.proofs.loading.Loading.load_piece.Goals.{in-Some-1, in-None-2}

pub invariant_of-self-in-Some-2 : goal.invariant_of-self-in-Some-2
invariant_of-self-in-Some-2 c = record {
  reading = read_on (progress_of c.self.inside) _ (Piece c.args.job c.args.bytes.now) (subst (λ (l : Loaded). IsPieceOf l.progress.partial c.args.job c.args.bytes.now) (sym c.self.view_is) (c.if-not-takes_piece.ensures.yes refl)) c.self.invariant.reading
      (settled_piece (progress_of c.self.inside) _ (part_of c.in-Some.partial) _ _ c.in_ok-reserve_job.ensures.same c.settle.ensures.state c.settle.ensures.rest c.args.bytes.now (option_map part_of c.self.inside.partial)
      (ap (option_map part_of) c.in-Some.ensures.value ∙ grown_parts c.args.at c.args.bytes.now c.self.inside.partial _ c.in_ok-append_piece.ensures.added));
  measured = c.settle.ensures.measured;
}

pub returns-in-Some-clause-loaded : goal.returns-in-Some-clause-loaded
returns-in-Some-clause-loaded c =
    let next = (settled_piece (progress_of c.self.inside) _ (part_of c.in-Some.partial) _ _ c.in_ok-reserve_job.ensures.same c.settle.ensures.state c.settle.ensures.rest c.args.bytes.now (option_map part_of c.self.inside.partial)
    (ap (option_map part_of) c.in-Some.ensures.value ∙ grown_parts c.args.at c.args.bytes.now c.self.inside.partial _ c.in_ok-append_piece.ensures.added))
    ∙ ap (λ (l : Loaded). with_next_piece l.progress c.args.bytes.now l.progress.partial) c.self.view_is in
    search (rules, next)

pub settle-requires-clause-measured : goal.settle-requires-clause-measured
settle-requires-clause-measured c =
    let grown = subst (IsGrown c.args.at (length c.args.bytes.now) c.self.inside.partial) (sym c.in-Some.ensures.value) c.in_ok-append_piece.ensures.added in
    grown_measured c.args.at (length c.args.bytes.now) c.self.inside.partial c.in-Some.partial grown c.self.invariant.measured

pub returns-in-Some-clause-places : goal.returns-in-Some-clause-places
returns-in-Some-clause-places c = λ k.
    let next = subst (λ (l : Loaded). IsPieceOf l.progress.partial c.args.job c.args.bytes.now) (sym c.self.view_is) (c.if-not-takes_piece.ensures.yes refl) in
    let grown = subst (IsGrown c.args.at (length c.args.bytes.now) c.self.inside.partial) (sym c.in-Some.ensures.value) c.in_ok-append_piece.ensures.added in
    let rest =
    c.settle.ensures.places k
    ∙ ap (λ ps. places_of (place_entry c.in-Some.partial.row ∷ ps) k) c.in_ok-reserve_job.ensures.places
    ∙ grown_places c.args.at c.args.job c.args.bytes.now c.self.inside.partial c.in-Some.partial c.self.inside.store.places next grown k
    ∙ ap (λ (l : Loaded). with_placed (places_of l.places k) c.args.at k (Some (c.args.job, c.args.bytes.now))) c.self.view_is in
    elim c.match-self-settle.branch [
      | in-Some-1 w ↦ ap (λ (l : Loaded). places_of l.places k) w.self-is ∙ rest
      | in-None-2 w ↦ ap (λ (l : Loaded). places_of l.places k) w.self-is ∙ rest
    ]
