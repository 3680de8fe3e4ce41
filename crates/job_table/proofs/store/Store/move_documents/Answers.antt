-- Each row has its document at the new places.
use Rattle.std.proofs.Common.{refl, sym, ap, subst, ◌∙◌}
use Rattle.job_rows.specs.NumberedRows.{Listed}
use Rattle.job_table.specs.Contents.{Contents, HasMoves}
use Rattle.job_table.proofs.Relocated.{each_new, moved_state, moved_ordered, moved_all, rooms_all}
use Rattle.job_table.proofs.store.Store.move_documents.Goals as goal

pub move_rows-requires-clause-sorted : goal.move_rows-requires-clause-sorted
move_rows-requires-clause-sorted c = c.self.invariant.jobs

pub move_rows-requires-clause-there : goal.move_rows-requires-clause-there
move_rows-requires-clause-there c =
    (each_new c.self.inside c.self.invariant c.args.noted (subst (λ (v : Contents). HasMoves v.state c.args.noted) (sym c.self.view_is) c.requires))

pub invariant_of-self : goal.invariant_of-self
invariant_of-self c =
    let new = c.move_rows.new.rows in
    moved_ordered c.self.inside c.self.invariant c.args.noted (subst (λ (v : Contents). HasMoves v.state c.args.noted) (sym c.self.view_is) c.requires) new.items c.move_rows.ensures.count c.move_rows.ensures.each
    new (ap (λ (rows : Listed). rows.numbers) c.move_rows.ensures.rest) refl

pub returns-clause-state : goal.returns-clause-state
returns-clause-state c =
    let new = c.move_rows.new.rows in
    moved_state c.self.inside c.self.invariant c.args.noted (subst (λ (v : Contents). HasMoves v.state c.args.noted) (sym c.self.view_is) c.requires) new.items c.move_rows.ensures.count c.move_rows.ensures.each
    new (ap (λ (rows : Listed). rows.numbers) c.move_rows.ensures.rest) refl
    ∙ ap (λ (v : Contents). v.state) c.self.view_is

pub returns-clause-places : goal.returns-clause-places
returns-clause-places c =
    let new = c.move_rows.new.rows in
    moved_all c.self.inside c.self.invariant c.args.noted (subst (λ (v : Contents). HasMoves v.state c.args.noted) (sym c.self.view_is) c.requires) new.items c.move_rows.ensures.count c.move_rows.ensures.each
    new (ap (λ (rows : Listed). rows.numbers) c.move_rows.ensures.rest) refl

pub returns-clause-documents : goal.returns-clause-documents
returns-clause-documents c =
    let new = c.move_rows.new.rows in
    rooms_all c.self.inside c.self.invariant c.args.noted (subst (λ (v : Contents). HasMoves v.state c.args.noted) (sym c.self.view_is) c.requires) new.items c.move_rows.ensures.count c.move_rows.ensures.each
    new (ap (λ (rows : Listed). rows.numbers) c.move_rows.ensures.rest) refl
