-- One more document.
use Rattle.std.proofs.Common.{◌++◌, ◌∷◌, [], List, IsTrue, map, sym, subst, ◌∙◌}
use Rattle.std.specs.Ordering.{nat_cmp}
use Rattle.std.specs.FinMap as finite
use Rattle.std.proofs.lemmas.List.{map_push}
use Rattle.spool_types.specs.State.{job_of}
use Rattle.spool_types.specs.declared.rows.JobRow.{JobRow}
use Rattle.job_table.specs.Lanes.{AreBeside}
use Rattle.job_table.specs.Noted.{IsNewOf}
use Rattle.job_table.proofs.Drafts.{beside_push}
use Rattle.job_table.proofs.Relocated.{noted_blank, room_blank}
use Rattle.job_table.proofs.Rows.{sorted_alike}
use Rattle.job_table.proofs.Walked.{ended}
use Rattle.job_table.proofs.new_places.NewPlaces.of_rows.Goals as goal

pub loop-row-preserved : goal.loop-row-preserved
loop-row-preserved c =
    let before = map (λ row. row.now) c.loop-row.yielded in
    subst (AreBeside IsNewOf (map (λ row. row.now) (c.loop-row.yielded ++ c.in-Some.row ∷ []))) (sym c.in_ok-push.ensures.items)
    (subst (λ (ks : List JobRow). AreBeside IsNewOf ks (c.loop-row.documents.items ++ c.in_ok-new_document.field-0 ∷ [])) (sym (map_push (λ row. row.now) c.loop-row.yielded c.in-Some.row))
    (beside_push IsNewOf before c.loop-row.documents.items c.in-Some.row.now c.in_ok-new_document.field-0 c.loop-row.invariant c.in_ok-new_document.ensures))

pub invariant_of-result : goal.invariant_of-result
invariant_of-result c =
    let rows = c.args.rows.now.items in
    let end = ended _ rows (cc) c.loop-row.yielded c.loop-row.row-iterator c.next.new.self c.loop-row.yielded_by c.in-None.ensures.steps in
    let all = subst (λ ks. AreBeside IsNewOf ks c.loop-row.documents.items) end.0 c.loop-row.invariant in
    subst (λ es. IsTrue (finite.is_sorted nat_cmp es)) (sym (noted_blank rows c.loop-row.documents.items all))
    (sorted_alike nat_cmp (λ (r : JobRow). r.job.id) (λ r. []) job_of rows ∙ c.requires)

pub returns-clause-none : goal.returns-clause-none
returns-clause-none c =
    let rows = c.args.rows.now.items in
    let end = ended _ rows (cc) c.loop-row.yielded c.loop-row.row-iterator c.next.new.self c.loop-row.yielded_by c.in-None.ensures.steps in
    noted_blank rows c.loop-row.documents.items (subst (λ ks. AreBeside IsNewOf ks c.loop-row.documents.items) end.0 c.loop-row.invariant)

pub returns-clause-room : goal.returns-clause-room
returns-clause-room c =
    let rows = c.args.rows.now.items in
    let end = ended _ rows (cc) c.loop-row.yielded c.loop-row.row-iterator c.next.new.self c.loop-row.yielded_by c.in-None.ensures.steps in
    room_blank rows c.loop-row.documents.items (subst (λ ks. AreBeside IsNewOf ks c.loop-row.documents.items) end.0 c.loop-row.invariant)
