-- The last row has the greatest key.
use Rattle.std.proofs.Common.{◌≡◌, ◌-◌, ◌<◌, ◌≤◌, List, [], ◌∷◌, length, get_or, None, Some, sym, ap, subst, ◌∙◌, arith}
use Rattle.std.specs.Prelude.{slice_get}
use Rattle.std.proofs.lemmas.Option.{slice_get-get_or, get_or_from_slice_get}
use Rattle.std.specs.Ordering.{nat_cmp}
use Rattle.std.specs.Cmp.{nat_cmp_total}
use Rattle.spool_types.specs.State.{job_of}
use Rattle.spool_types.specs.declared.rows.JobRow.{JobRow}
use Rattle.std.specs.FinMap as finite
use Rattle.job_table.specs.Contents.{places_at}
use Rattle.job_table.specs.Loading.{IsAbove}
use Rattle.job_table.proofs.Above.{above_yes, above_no, above_none}
use Rattle.job_table.proofs.Pushed.{above_places}
use Rattle.job_table.proofs.Tables.{keys_jobs}
use Rattle.job_table.proofs.store.Store.is_above_jobs.Goals as goal

last_there : (ys : List JobRow) (row : JobRow) → Some row ≡ slice_get ys (length ys - 1) → (0 < length ys) × (row ≡ get_or ys (length ys - 1) row)
last_there [] row is = absurd (cc)
last_there (y ∷ ys) row is = (omega arith, sym (get_or_from_slice_get (y ∷ ys) (length (y ∷ ys) - 1) row row (sym is)))

none_last : (ys : List JobRow) → None ≡ slice_get ys (length ys - 1) → length ys ≤ 0
none_last [] is = omega arith
none_last (y ∷ ys) is = let some = slice_get-get_or (y ∷ ys) (length (y ∷ ys) - 1) y (omega arith) in absurd (cc)

pub returns-in-Some-clause-yes : goal.returns-in-Some-clause-yes
returns-in-Some-clause-yes c = λ lt.
    let keys = ap (λ v. finite.keys v.state.jobs) (sym c.self.view_is) ∙ keys_jobs c.self.inside.jobs.items c.self.invariant.jobs in
    let item = last_there c.self.inside.jobs.items c.in-Some.last.now c.in-Some.ensures in
    subst (IsAbove nat_cmp c.args.id) (sym keys) (above_yes nat_cmp nat_cmp_total (λ r. r.job.id) job_of c.args.id c.self.inside.jobs.items c.self.invariant.jobs c.in-Some.last.now item.0 item.1 (sym c.lt.ensures ∙ lt))

pub returns-in-Some-clause-no : goal.returns-in-Some-clause-no
returns-in-Some-clause-no c = λ lt above.
    let keys = ap (λ v. finite.keys v.state.jobs) (sym c.self.view_is) ∙ keys_jobs c.self.inside.jobs.items c.self.invariant.jobs in
    let item = last_there c.self.inside.jobs.items c.in-Some.last.now c.in-Some.ensures in
    above_no nat_cmp nat_cmp_total (λ r. r.job.id) job_of c.args.id c.self.inside.jobs.items c.in-Some.last.now item.0 item.1 (sym c.lt.ensures ∙ lt) (subst (IsAbove nat_cmp c.args.id) keys above)

pub returns-in-None-clause-yes : goal.returns-in-None-clause-yes
returns-in-None-clause-yes c = λ _.
    let keys = ap (λ v. finite.keys v.state.jobs) (sym c.self.view_is) ∙ keys_jobs c.self.inside.jobs.items c.self.invariant.jobs in
    let item = none_last c.self.inside.jobs.items c.in-None.ensures in
    subst (IsAbove nat_cmp c.args.id) (sym keys) (above_none nat_cmp nat_cmp_total (λ r. r.job.id) job_of c.args.id c.self.inside.jobs.items item)

pub returns-in-Some-clause-absent : goal.returns-in-Some-clause-absent
returns-in-Some-clause-absent c = λ lt.
    let item = last_there c.self.inside.jobs.items c.in-Some.last.now c.in-Some.ensures in
    ap (λ v. places_at v c.args.id) (sym c.self.view_is)
    ∙ above_places c.self.inside c.self.invariant c.args.id (subst (IsAbove nat_cmp c.args.id) (sym (keys_jobs c.self.inside.jobs.items c.self.invariant.jobs))
    (above_yes nat_cmp nat_cmp_total (λ r. r.job.id) job_of c.args.id c.self.inside.jobs.items c.self.invariant.jobs c.in-Some.last.now item.0 item.1 (sym c.lt.ensures ∙ lt)))

pub returns-in-None-clause-absent : goal.returns-in-None-clause-absent
returns-in-None-clause-absent c = λ _.
    let item = none_last c.self.inside.jobs.items c.in-None.ensures in
    ap (λ v. places_at v c.args.id) (sym c.self.view_is)
    ∙ above_places c.self.inside c.self.invariant c.args.id (subst (IsAbove nat_cmp c.args.id) (sym (keys_jobs c.self.inside.jobs.items c.self.invariant.jobs))
    (above_none nat_cmp nat_cmp_total (λ r. r.job.id) job_of c.args.id c.self.inside.jobs.items item))
