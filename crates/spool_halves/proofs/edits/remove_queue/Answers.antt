-- The other half is the whole spool without the queue.
use Rattle.std.proofs.Common.{◌≡◌, ◌∙◌, ◌++◌, ◌∷◌, [], List, ℕ, None, ap, false, refl, subst, sym}
use Rattle.std.proofs.lemmas.Result.{IfOk-weaker}
use Rattle.spool_types.specs.Busy.{is_of}
use Rattle.spool_types.specs.State.{State}
use Rattle.job_table.specs.Legal.{IsLegal}
use Rattle.queue_edits.specs.EditRefusals.{removal_refusal}
use Rattle.spool_core.specs.Image.{HasTable}
use Rattle.spool_core.proofs.LifeLaws.{legal_found}
use Rattle.spool_halves.specs.Halves.{IsHalf, KeepsDocuments}
use Rattle.spool_halves.proofs.Edited.{is_removed, moved, others_only, taken_of}
use Rattle.spool_halves.proofs.edits.remove_queue.Goals as goal

pub returns-clause-removed : goal.returns-clause-removed
returns-clause-removed g c =
    let s = c.args.whole.now.state in
    let name = c.args.name.now in
    let names : c.deref.result.now ≡ name ∷ [] = c.deref.ensures.value ∙ c.in_ok-push_name.ensures ∙ ap (λ (l : List (List ℕ)). l ++ name ∷ []) c.new-names.ensures.items in
    let legal_s = subst IsLegal c.table-table.ensures.table c.queues-queues.ensures.legal in
    moved c.list_half-made.result c.unrefused.result _ c.unrefused.ensures.disk
    (IfOk-weaker c.list_half-made.result _ _ (λ made is told image now.
    let half = is told image now in
    let legal_t = legal_found c.legal_tables_stay_legal.ensures.begins c.legal_tables_stay_legal.ensures.stays half.half image half.found in
    subst (λ (x : State). HasTable x image) (is_removed name s half.half legal_s legal_t (subst (λ (ns : List (List ℕ)). IsHalf false ns s half.half) names half.rows)) half.found) c.list_half-made.ensures.half)

pub returns-clause-documents : goal.returns-clause-documents
returns-clause-documents g c =
    let s = c.args.whole.now.state in
    let name = c.args.name.now in
    let names : c.deref.result.now ≡ name ∷ [] = c.deref.ensures.value ∙ c.in_ok-push_name.ensures ∙ ap (λ (l : List (List ℕ)). l ++ name ∷ []) c.new-names.ensures.items in
    let refused : removal_refusal name c.args.purge s ≡ None = ap (removal_refusal name c.args.purge) (sym c.table-table.ensures.table) ∙ sym c.refusal_of_removal.ensures ∙ c.in-None.is in
    moved c.list_half-made.result c.unrefused.result _ c.unrefused.ensures.disk
    (IfOk-weaker c.list_half-made.result _ _ (λ made is r tells told image now.
    let kept = subst (λ (ns : List (List ℕ)). KeepsDocuments false ns s r image) names (is r tells told image now) in
    λ j row document at goes there. kept j row document at (taken_of name row (others_only name c.args.purge s refused j row at goes (is_of name row) refl)) goes there) c.list_half-made.ensures.documents)
