-- The table and the documents that were compared are those of each image.
use Rattle.std.proofs.Common.{◌≡◌, ◌∙◌, ℕ, List, [], ◌∷◌, Option, Some, None, map, refl, sym, ap, subst}
use Rattle.std.specs.Prelude.{IsSome}
use Rattle.std.specs.FinMap as finite
use Rattle.std.specs.List.{AllByRecursion}
use Rattle.spool_types.specs.State.{State, Job, job_of}
use Rattle.spool_types.specs.declared.rows.JobRow.{JobRow}
use Rattle.job_table.specs.Legal.{IsLegal}
use Rattle.queue_edits.specs.QueueEdits.{with_row}
use Rattle.spool_core.specs.Image.{HasTable}
use Rattle.spool_halves.specs.Edited.{KeepsAllDocuments}
use Rattle.spool_halves.specs.Halves.{IsSameDocument}
use Rattle.spool_halves.proofs.Edited.{keeps_all}
use Rattle.spool_halves.proofs.with_row.look_back_with.Goals as goal

some_of : {T : Type 0} (o : Option T) → IsSome o → (x : T) × (o ≡ Some x)
some_of (Some x) some = (x, refl)
some_of None some = cc

numbers_in : (rows : List JobRow) → map (λ (row : JobRow). row.job.id) rows ≡ map (λ (r : Job). r.id) (map job_of rows)
numbers_in [] = refl
numbers_in (row ∷ rows) = ap (λ (ns : List ℕ). row.job.id ∷ ns) (numbers_in rows)

pub returns-clause-synced : goal.returns-clause-synced
returns-clause-synced g c = c.table-table.ensures.synced (sym c.is_dead.ensures ∙ c.if-is_dead.false) (c.are_same_documents.ensures.part_held ∙ c.requires.part_settled)

pub returns-clause-documents : goal.returns-clause-documents
returns-clause-documents g c = λ r tells told image now.
    let w = g.T.Disk.device in
    let s = c.args.whole.now.state in
    let p = c.args.part.now.state in
    let alive = sym c.is_dead.ensures ∙ c.if-is_dead.false in
    let disk = c.are_same_documents.new.part.disk in
    let there = some_of (w.bytes disk) told in
    let t = there.0 in
    let is_image : image ≡ t = c.table-table.ensures.synced alive (c.are_same_documents.ensures.part_held ∙ c.requires.part_settled) t there.1 image now in
    let changed : p ≡ with_row (Some c.args.row.now) s =
    sym c.table-part_table.ensures.table ∙ c.in_ok-has_rows.ensures c.if-not-has_rows.false ∙ ap (with_row (Some c.args.row.now)) c.table-whole_table.ensures.table in
    let legal_s = subst IsLegal c.table-whole_table.ensures.table c.jobs-whole_jobs.ensures.legal in
    let numbered = c.in_ok-numbers.ensures ∙ numbers_in c.jobs-part_jobs.result.now.items
    ∙ ap (map (λ (r : Job). r.id)) (c.jobs-part_jobs.ensures.rows ∙ ap (λ (x : State). finite.values x.jobs) c.table-part_table.ensures.table) in
    let same = subst (AllByRecursion (IsSameDocument s p r t)) c.deref.ensures.value
    (c.in_ok-has_documents.ensures.same c.if-not-has_documents.false r t tells (sym c.are_same_documents.ensures.part_still.bytes ∙ there.1)) in
    let table = subst (λ (x : State). HasTable x t) c.are_same_documents.ensures.part_state (c.table-table.ensures.kept alive (c.are_same_documents.ensures.part_held ∙ c.requires.part_settled) told t (g.met.T.Disk.lawful.reads_image disk t there.1)) in
    let has = c.one_reading.ensures.documents p t table in
    subst (λ (bytes : List ℕ). KeepsAllDocuments s r bytes) (sym is_image)
    (keeps_all s p legal_s (ap (λ (x : State). x.jobs) changed) (ap (λ (x : State). x.highest) changed) r t c.in_ok-numbers.numbers.items numbered same has.0 has.1)
