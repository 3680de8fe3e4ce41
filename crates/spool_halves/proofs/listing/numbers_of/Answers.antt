use Rattle.std.proofs.Common.{◌≡◌, ◌∙◌, ◌++◌, ◌∷◌, [], ℕ, List, None, map, refl, sym, ap}
use Rattle.std.specs.Borrow.{Bor}
use Rattle.std.proofs.lemmas.Iterator.Consumers.{YieldsList-from_first, YieldsList-end}
use Rattle.std.proofs.lemmas.List.{map_push}
use Rattle.spool_types.specs.declared.rows.JobRow.{JobRow}
use Rattle.spool_halves.proofs.listing.numbers_of.Goals as goal

pub loop-row-preserved : goal.loop-row-preserved
loop-row-preserved c =
    let number : Bor JobRow → ℕ = λ row. row.now.job.id in
    c.in_ok-push.ensures.items ∙ ap (λ (ns : List ℕ). ns ++ number c.in-Some.row ∷ []) c.loop-row.invariant ∙ sym (map_push number c.loop-row.yielded c.in-Some.row)

-- The numbers of borrowed rows.
of_rows : (rows : List (Bor JobRow)) → map (λ row. row.now.job.id) rows ≡ map (λ (row : JobRow). row.job.id) (map (λ row. row.now) rows)
of_rows [] = refl
of_rows (row ∷ rows) = ap (λ (ns : List ℕ). row.now.job.id ∷ ns) (of_rows rows)

pub returns : goal.returns
returns c =
    let end = YieldsList-end (YieldsList-from_first (λ x. x.now) (λ r. r) c.args.jobs.now.items cc) c.loop-row.yielded c.loop-row.row-iterator c.loop-row.yielded_by None c.next.new.self refl c.in-None.ensures.steps in
    c.loop-row.invariant ∙ of_rows c.loop-row.yielded ∙ ap (map (λ (row : JobRow). row.job.id)) end.0
