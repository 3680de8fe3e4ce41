-- The closure returns a document's job.
use Rattle.std.proofs.Common.{rules}
use Rattle.std.specs.Ordering.{nat_cmp}
use Rattle.std.specs.Cmp.{nat_cmp_total}
use Rattle.std.proofs.lemmas.List.Sorted.{answers_always}
use Rattle.job_table.specs.declared.new_places.NewDocument.{NewDocument}
use Rattle.job_table.proofs.Rows.{searched}
use Rattle.job_table.proofs.new_places.place.Goals as goal

pub returns-clause-found : goal.returns-clause-found
returns-clause-found c =
    let by_key = c.binary_search_by_key.ensures.position (λ d. d.job) (answers_always _ _ _ (λ f a r g called. search rules)) in
    (searched nat_cmp nat_cmp_total (λ (d : NewDocument). d.job) (λ (d : NewDocument). d.extents.items) c.args.documents.now c.requires c.args.job _ c.binary_search_by_key.ensures.bound by_key).found

pub returns-clause-absent : goal.returns-clause-absent
returns-clause-absent c =
    let by_key = c.binary_search_by_key.ensures.position (λ d. d.job) (answers_always _ _ _ (λ f a r g called. search rules)) in
    (searched nat_cmp nat_cmp_total (λ (d : NewDocument). d.job) (λ (d : NewDocument). d.extents.items) c.args.documents.now c.requires c.args.job _ c.binary_search_by_key.ensures.bound by_key).absent
