use Rattle.std.proofs.Common.{◌≡◌, ◌∙◌, ◌<◌, ◌+◌, ℕ, List, Ok, Err, Some, length, get_or, refl, sym, subst, ap, arith}
use Rattle.std.proofs.lemmas.List.{length-map, get_or-map}
use Rattle.std.specs.Prelude.{slice_get}
use Rattle.std.specs.FinMap as finite
use Rattle.extents.specs.declared.extent.Extent.{Extent}
use Rattle.spool_types.specs.State.{State, job_of, job_at}
use Rattle.spool_types.specs.declared.rows.JobRow.{JobRow}
use Rattle.job_table.specs.Contents.{places_of}
use Rattle.spool_core.specs.Checkpointing.{blank_rows}
use Rattle.std.specs.List.{flat_map}
use Rattle.listing_rows.specs.RowFilling.{filling_at}
use Rattle.spool_core.specs.ListingFilling.{IsDue, IsDocumentAdded}
use Rattle.listing_rows.proofs.RowLaws.{err_on}
use Rattle.spool_core.proofs.AddLaws.{lie_on, none_on, then_on}
use Rattle.spool_core.proofs.AllLaws.{some_begun, next_due, next_there, some_next, all_added, all_noted}
use Rattle.spool_core.proofs.Numbers.{jobs_found, jobs_apart}
use Rattle.spool_core.proofs.Walks.{row_at, past_end, not_some, sized_alike}
use Rattle.spool_core.proofs.spool.filling.add_jobs.Goals as goal

pub loop-next-init : goal.loop-next-init
loop-next-init g c =
    let v = g.D.Disk.device in
    let lawful = g.met.D.Disk.lawful in
    let table = c.args.table.now in
    let f = filling_at c.args.areas.now c.args.filler.now in (
      0,
      record {
        next = c.first-next.ensures ∙ ap (λ ns. slice_get ns 0) c.jobs.ensures.numbers;
        on = none_on v lawful (flat_map blank_rows (finite.values table.state.jobs)) f c.requires.may;
        spare = omega arith;
        same = refl;
        places = refl;
        some = some_begun v lawful table f (jobs_found table.state c.jobs.ensures.legal) c.requires.moves;
      },
    )

pub add_job-requires-clause-due : goal.add_job-requires-clause-due
add_job-requires-clause-due g c =
    let v = g.D.Disk.device in
    let lawful = g.met.D.Disk.lawful in
    let table = c.args.table.now in
    let f = filling_at c.args.areas.now c.args.filler.now in
    let now = filling_at c.loop-next.areas c.loop-next.filler in
    let inv = c.loop-next.invariant.1 in
    let at = c.loop-next.invariant.0 in
    let rows = c.jobs.result.now.items in
    let reached : slice_get (finite.keys table.state.jobs) at ≡ Some c.in-Some.job = sym inv.next ∙ c.in-Some.is in
    let x = row_at rows at c.in-Some.job (ap (λ ns. slice_get ns at) (sym c.jobs.ensures.each ∙ c.jobs.ensures.numbers) ∙ reached) in
    let q = job_of x.row in
    let here : at < length (finite.values table.state.jobs) = omega (arith, x.within, ap length c.jobs.ensures.rows, length-map rows job_of) in
    let is = ap (λ l. get_or l at q) (sym c.jobs.ensures.rows) ∙ get_or-map job_of rows at x.row q x.within ∙ ap job_of x.is in
    let found = jobs_found table.state c.jobs.ensures.legal in
    subst (λ k. IsDue v c.loop-next.table k now) x.own
    (next_due v lawful table at f table.moves now c.loop-next.table.moves inv.on inv.some q here is found c.loop-next.table inv.same refl c.requires.may c.requires.listed
    (lie_on (c.args.areas.now.base + 16) c.args.areas.now.end (c.loop-next.areas.base + 16) c.loop-next.areas.end table c.loop-next.table (ap (λ (b : ℕ). b + 16) inv.on.base) inv.on.end inv.same inv.places c.requires.lie)
    (sized_alike table c.loop-next.table inv.same inv.places c.jobs.ensures.sized))

pub returns-in_err-add_job-clause-on : goal.returns-in_err-add_job-clause-on
returns-in_err-add_job-clause-on g c =
    let v = g.D.Disk.device in
    let f = filling_at c.args.areas.now c.args.filler.now in
    let now = filling_at c.loop-next.areas c.loop-next.filler in
    let inv = c.loop-next.invariant.1 in
    let end = filling_at c.add_job.new.areas c.add_job.new.filler in
    let e = c.in_err-add_job.field-0.0 in
    err_on v f end e _ c.from_residual.result c.from_residual.ensures.1 (then_on v g.met.D.Disk.lawful f now inv.on inv.some.rows inv.some.adds end (Err e) c.in_err-add_job.ensures.on)

pub loop-next-preserved : goal.loop-next-preserved
loop-next-preserved g c =
    let v = g.D.Disk.device in
    let lawful = g.met.D.Disk.lawful in
    let table = c.args.table.now in
    let f = filling_at c.args.areas.now c.args.filler.now in
    let now = filling_at c.loop-next.areas c.loop-next.filler in
    let inv = c.loop-next.invariant.1 in
    let at = c.loop-next.invariant.0 in
    let rows = c.jobs.result.now.items in
    let reached : slice_get (finite.keys table.state.jobs) at ≡ Some c.in-Some.job = sym inv.next ∙ c.in-Some.is in
    let x = row_at rows at c.in-Some.job (ap (λ ns. slice_get ns at) (sym c.jobs.ensures.each ∙ c.jobs.ensures.numbers) ∙ reached) in
    let q = job_of x.row in
    let here : at < length (finite.values table.state.jobs) = omega (arith, x.within, ap length c.jobs.ensures.rows, length-map rows job_of) in
    let is = ap (λ l. get_or l at q) (sym c.jobs.ensures.rows) ∙ get_or-map job_of rows at x.row q x.within ∙ ap job_of x.is in
    let found = jobs_found table.state c.jobs.ensures.legal in
    let end = filling_at c.add_job.new.areas c.add_job.new.filler in
    let there = next_there v lawful table at f table.moves now c.loop-next.table.moves inv.on inv.some q here is found c.loop-next.table inv.same in
    let there_too : job_at c.loop-next.table.state c.in-Some.job ≡ Some q = subst (λ k. job_at c.loop-next.table.state k ≡ Some q) x.own there in
    let same : c.add_job.new.table.state ≡ table.state = c.add_job.ensures.same ∙ inv.same in
    let numbers = c.jobs-in-Some.ensures.numbers ∙ ap (λ (s : State). finite.keys s.jobs) same in (
      at + 1,
      record {
        next =
            c.next_above-next.ensures.behind at (ap (λ ns. slice_get ns at) numbers ∙ reached ∙ ap Some (sym c.get.ensures.value))
            ∙ ap (λ ns. slice_get ns (at + 1)) numbers;
        on = then_on v lawful f now inv.on inv.some.rows inv.some.adds end (Ok tt) c.in_ok-add_job.ensures.on;
        spare = omega (arith, inv.spare, c.add_job.ensures.spare);
        same = same;
        places = c.add_job.ensures.places ∙ inv.places;
        some = some_next v lawful table at f table.moves now c.loop-next.table.moves inv.on inv.some q here is found (jobs_apart table.state c.jobs.ensures.legal) end c.add_job.new.table.moves
            (subst (λ (xs : List Extent). IsDocumentAdded v xs q now end) (ap (λ ps. places_of ps c.in-Some.job) inv.places ∙ ap (λ k. places_of table.places k) (sym x.own)) (c.in_ok-add_job.ensures.added q there_too))
            (c.in_ok-add_job.ensures.noted q there_too);
      },
    )

pub returns-clause-added : goal.returns-clause-added
returns-clause-added g c =
    let table = c.args.table.now in
    let inv = c.loop-next.invariant.1 in
    let past = past_end (finite.keys table.state.jobs) c.loop-next.invariant.0 (sym inv.next ∙ not_some c.loop-next.next c.in_default.not-Some) in
    all_added g.D.Disk.device table c.loop-next.invariant.0 (filling_at c.args.areas.now c.args.filler.now) table.moves (filling_at c.loop-next.areas c.loop-next.filler) c.loop-next.table.moves inv.some
    (omega (arith, past, ap length c.jobs.ensures.numbers, ap length c.jobs.ensures.each, ap length c.jobs.ensures.rows, length-map c.jobs.result.now.items job_of, length-map c.jobs.result.now.items (λ (r : JobRow). r.job.id)))

pub returns-clause-noted : goal.returns-clause-noted
returns-clause-noted g c =
    let table = c.args.table.now in
    let inv = c.loop-next.invariant.1 in
    let past = past_end (finite.keys table.state.jobs) c.loop-next.invariant.0 (sym inv.next ∙ not_some c.loop-next.next c.in_default.not-Some) in
    all_noted g.D.Disk.device table c.loop-next.invariant.0 (filling_at c.args.areas.now c.args.filler.now) table.moves (filling_at c.loop-next.areas c.loop-next.filler) c.loop-next.table.moves inv.some
    (omega (arith, past, ap length c.jobs.ensures.numbers, ap length c.jobs.ensures.each, ap length c.jobs.ensures.rows, length-map c.jobs.result.now.items job_of, length-map c.jobs.result.now.items (λ (r : JobRow). r.job.id)))
