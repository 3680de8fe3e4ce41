-- The lanes do not change, because the jobs and queues of the rows do not.
use Rattle.std.proofs.Common.{sym, ap, subst, ◌∙◌}
use Rattle.job_table.specs.Contents.{Contents, Noted, HasMoves, move_room, places_of}
use Rattle.job_table.proofs.Held.{held_same}
use Rattle.job_table.proofs.table.Table.commit_moves.Goals as goal

pub move_documents-requires : goal.move_documents-requires
move_documents-requires c =
    subst (HasMoves c.self.inside.store.state) (sym c.replace-noted.ensures.value)
    (subst (λ (v : Contents). HasMoves v.state v.moves) (sym c.self.view_is) c.requires)

pub invariant_of-self : goal.invariant_of-self
invariant_of-self c =
    let held = held_same c.self.inside c.move_documents.new.self c.move_documents.ensures.state c.self.invariant in
    record { legal = held.legal; lanes = held.lanes; timely = held.timely; spare = held.spare; agenda = held.agenda; vacancies = held.vacancies }

pub returns-clause-places : goal.returns-clause-places
returns-clause-places c = λ j r there lives.
    c.move_documents.ensures.places j r there lives
    ∙ ap (λ (m : Noted). places_of m.places j) c.replace-noted.ensures.value
    ∙ ap (λ (v : Contents). places_of v.moves.places j) c.self.view_is

pub returns-clause-documents : goal.returns-clause-documents
returns-clause-documents c = λ j r there lives.
    c.move_documents.ensures.documents j r there lives
    ∙ ap (λ (m : Noted). move_room m j) c.replace-noted.ensures.value
    ∙ ap (λ (v : Contents). move_room v.moves j) c.self.view_is
