use Rattle.std.proofs.Common.{◌≡◌, ◌∙◌, ℕ, Bool, List, [], ◌∷◌, Option, Some, None, map, refl, sym, ap, subst}
use Rattle.std.specs.Prelude.{IsSome}
use Rattle.std.specs.FinMap as finite
use Rattle.std.specs.List.{AllByRecursion}
use Rattle.spool_types.specs.State.{State, Job, job_of}
use Rattle.spool_types.specs.declared.rows.JobRow.{JobRow}
use Rattle.job_table.specs.Legal.{IsLegal}
use Rattle.spool_core.specs.Image.{HasTable}
use Rattle.spool_halves.specs.Halves.{IsHalf, IsSameDocument, KeepsDocuments}
use Rattle.spool_halves.proofs.Halves.{keeps}
use Rattle.spool_halves.proofs.listing.look_back.Goals as goal

some_of : {T : Type 0} (o : Option T) → IsSome o → (x : T) × (o ≡ Some x)
some_of (Some x) some = (x, refl)
some_of None some = cc

numbers_in : (rows : List JobRow) → map (λ (row : JobRow). row.job.id) rows ≡ map (λ (r : Job). r.id) (map job_of rows)
numbers_in [] = refl
numbers_in (row ∷ rows) = ap (λ (ns : List ℕ). row.job.id ∷ ns) (numbers_in rows)

half_of : (named : Bool) (names : List (List ℕ)) (s p s' p' : State) → s' ≡ s → p' ≡ p → IsHalf named names s' p' → IsHalf named names s p
half_of named names s p s' p' of_s of_p half = subst (λ (x : State). IsHalf named names x p) of_s (subst (λ (y : State). IsHalf named names s' y) of_p half)

pub returns-clause-synced : goal.returns-clause-synced
returns-clause-synced g c = c.table-table.ensures.synced (sym c.is_dead.ensures ∙ c.if-is_dead.false) (c.are_same_documents.ensures.part_held ∙ c.requires.part_settled)

pub returns-clause-half : goal.returns-clause-half
returns-clause-half g c = λ told image now. record {
  half = c.args.part.now.state;
  found = subst (λ (x : State). HasTable x image) c.are_same_documents.ensures.part_state (c.table-table.ensures.kept (sym c.is_dead.ensures ∙ c.if-is_dead.false) (c.are_same_documents.ensures.part_held ∙ c.requires.part_settled) told image now);
  rows = half_of c.args.half.named c.args.half.names.now c.args.whole.now.state c.args.part.now.state c.table-whole_table.result.now.state c.table-part_table.result.now.state
      c.table-whole_table.ensures.table c.table-part_table.ensures.table (c.in_ok-has_rows.ensures c.if-not-has_rows.false);
}

pub returns-clause-documents : goal.returns-clause-documents
returns-clause-documents g c = λ r tells told image now.
    let w = g.T.Disk.device in
    let s = c.args.whole.now.state in
    let p = c.args.part.now.state in
    let named = c.args.half.named in
    let names = c.args.half.names.now in
    let alive = sym c.is_dead.ensures ∙ c.if-is_dead.false in
    let disk = c.are_same_documents.new.part.disk in
    let there = some_of (w.bytes disk) told in
    let t = there.0 in
    let is_image : image ≡ t = c.table-table.ensures.synced alive (c.are_same_documents.ensures.part_held ∙ c.requires.part_settled) t there.1 image now in
    let half = half_of named names s p c.table-whole_table.result.now.state c.table-part_table.result.now.state
    c.table-whole_table.ensures.table c.table-part_table.ensures.table (c.in_ok-has_rows.ensures c.if-not-has_rows.false) in
    let legal_s = subst IsLegal c.table-whole_table.ensures.table c.jobs-whole_jobs.ensures.legal in
    let legal_p = subst IsLegal c.table-part_table.ensures.table c.jobs-part_jobs.ensures.legal in
    let numbered = c.in_ok-numbers.ensures ∙ numbers_in c.jobs-part_jobs.result.now.items
    ∙ ap (map (λ (r : Job). r.id)) (c.jobs-part_jobs.ensures.rows ∙ ap (λ (x : State). finite.values x.jobs) c.table-part_table.ensures.table) in
    let same = subst (AllByRecursion (IsSameDocument s p r t)) c.deref.ensures.value
    (c.in_ok-has_documents.ensures.same c.if-not-has_documents.false r t tells (sym c.are_same_documents.ensures.part_still.bytes ∙ there.1)) in
    let table = subst (λ (x : State). HasTable x t) c.are_same_documents.ensures.part_state (c.table-table.ensures.kept alive (c.are_same_documents.ensures.part_held ∙ c.requires.part_settled) told t (g.met.T.Disk.lawful.reads_image disk t there.1)) in
    let has = c.one_reading.ensures.documents p t table in
    subst (λ (bytes : List ℕ). KeepsDocuments named names s r bytes) (sym is_image)
    (keeps named names s p legal_s legal_p half r t c.in_ok-numbers.numbers.items numbered same has.0 has.1)
