use Rattle.std.proofs.Common.{◌≡◌, ◌∙◌, Bool, List, [], ◌∷◌, map, refl, sym, ap, subst}
use Rattle.std.specs.Borrow.{Bor}
use Rattle.std.specs.List.{AllByRecursion, filter}
use Rattle.std.proofs.lemmas.Result.{IfOk-weaker}
use Rattle.spool_types.specs.State.{Job as JobOf, job_of}
use Rattle.spool_types.specs.declared.rows.JobRow.{JobRow}
use Rattle.split_rows.specs.Half.{takes}
use Rattle.split_rows.specs.Tellable.{IsTellable, jobs_in}
use Rattle.split_rows.proofs.rows.are_jobs.Goals as goal

jobs_of : (rows : List (Bor JobRow)) → jobs_in rows ≡ map job_of (map (λ row. row.now) rows)
jobs_of [] = refl
jobs_of (row ∷ rows) = ap (λ (jobs : List JobOf). job_of row.now ∷ jobs) (jobs_of rows)

all_jobs : (rows list : List (Bor JobRow)) (items : List JobRow) → rows ≡ list → map (λ row. row.now) list ≡ items → jobs_in rows ≡ map job_of items
all_jobs rows list items same are = ap jobs_in same ∙ jobs_of list ∙ ap (map job_of) are

pub are_jobs_in-requires-clause-whole : goal.are_jobs_in-requires-clause-whole
are_jobs_in-requires-clause-whole c =
    subst (AllByRecursion IsTellable) (sym (all_jobs c.deref.result.now c.in_ok-whole.whole.items c.args.whole.now.items c.deref.ensures.value c.in_ok-whole.ensures)) c.requires.whole

pub are_jobs_in-requires-clause-part : goal.are_jobs_in-requires-clause-part
are_jobs_in-requires-clause-part c =
    subst (AllByRecursion IsTellable) (sym (all_jobs c.deref-2.result.now c.in_ok-part.part.items c.args.part.now.items c.deref-2.ensures.value c.in_ok-part.ensures)) c.requires.part

pub returns : goal.returns
returns c =
    let p : JobOf → Bool = λ r. takes c.args.half.named c.args.half.names.now r.queue in
    let whole = all_jobs c.deref.result.now c.in_ok-whole.whole.items c.args.whole.now.items c.deref.ensures.value c.in_ok-whole.ensures in
    let part = all_jobs c.deref-2.result.now c.in_ok-part.part.items c.args.part.now.items c.deref-2.ensures.value c.in_ok-part.ensures in
    IfOk-weaker c.are_jobs_in.result _ _ (λ are given is. sym part ∙ given is ∙ ap (filter p) whole) c.are_jobs_in.ensures
