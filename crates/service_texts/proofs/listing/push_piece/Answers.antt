-- The piece after one more job, and the whole piece.
use Rattle.std.proofs.Common.{◌≡◌, ℕ, ◌-◌, ◌+◌, List, [], ◌∷◌, Option, map, refl, sym, ap, subst, ◌∙◌, arith}
use Rattle.std.specs.FinMap as finite
use Rattle.event_records.specs.SeenTimes.{job_times}
use Rattle.job_rows.specs.NumberedRows.{first_above}
use Rattle.spool_types.specs.State.{Job, job_of}
use Rattle.spool_types.specs.declared.rows.JobRow.{JobRow}
use Rattle.service_texts.proofs.PieceSteps.{IsSoFar, begins, counted, ends_full, ends_none, ends_spent, goes}
use Rattle.service_texts.proofs.RowsFrom.{number_of, rows_rise}
use Rattle.service_texts.proofs.listing.push_piece.Goals as goal

number_twice : (items : List JobRow) → map number_of (map job_of items) ≡ map (λ row. row.job.id) items
number_twice [] = refl
number_twice (row ∷ rows) = ap (λ (ns : List ℕ). row.job.id ∷ ns) (number_twice rows)

-- The rows of a table have the numbers of their keys.
numbered : (items : List JobRow) (rows : List Job) (numbers : List ℕ) → map job_of items ≡ rows → numbers ≡ map (λ row. row.job.id) items → map number_of rows ≡ numbers
numbered items rows numbers is each = ap (map number_of) (sym is) ∙ number_twice items ∙ sym each

pub loop-init : goal.loop-init
loop-init c =
    let rows = c.jobs-rows.ensures in
    let s = c.args.table.now.state in
    let each = numbered c.jobs-rows.result.now.items (finite.values s.jobs) c.jobs-rows.result.now.numbers rows.rows rows.each in
    let from = c.from.ensures in
    begins c.args.client.now (job_times c.args.seen.now) c.args.selection.now s (c.from.result - 1) c.args.text.now.items c.next_above-next.result (omega (arith, from.value, from.at_least))
    (rows_rise s c.jobs-rows.result.now.numbers rows.numbers each) (c.next_above-next.ensures.value ∙ ap (first_above (c.from.result - 1)) (sym each))

pub loop-preserved : goal.loop-preserved
loop-preserved c =
    let rows = c.jobs-rows.ensures in
    let s = c.args.table.now.state in
    let each = numbered c.jobs-rows.result.now.items (finite.values s.jobs) c.jobs-rows.result.now.numbers rows.rows rows.each in
    let client = c.args.client.now in
    let times = job_times c.args.seen.now in
    let selection = c.args.selection.now in
    let first = c.args.text.now.items in
    let id = c.in-Some.id in
    let so_far = subst (λ (o : Option ℕ). IsSoFar client times selection s first c.loop.text.items c.loop.count c.loop.counter o) c.in-Some.is c.loop.invariant in
    goes client times selection s first c.loop.text.items c.push_selected.new.text.items c.loop.count (c.loop.count + c.count_of-count.result) c.loop.counter (c.loop.counter + 1) id c.next_above-next-in-loop.result
    (rows_rise s c.jobs-rows.result.now.numbers rows.numbers each) rows.found so_far
    (let lt = c.if-most-count.false in let most = c.most-most.ensures in omega (arith, lt, most)) c.loop-test.true refl
    c.in_ok-selected.ensures.fields
    (ap (λ n. c.loop.count + n) (c.count_of-count.ensures.value ∙ ap counted c.in_ok-selected.ensures.selected))
    (c.next_above-next-in-loop.ensures.value ∙ ap (λ n. first_above n c.jobs-rows.result.now.numbers) c.get.ensures.value ∙ ap (first_above id) (sym each))

pub returns-in_default-clause-jobs : goal.returns-in_default-clause-jobs
returns-in_default-clause-jobs c =
    (ends_none c.args.client.now (job_times c.args.seen.now) c.args.selection.now c.args.table.now.state c.args.text.now.items c.loop.text.items c.loop.count c.loop.counter
    (subst (λ (o : Option ℕ). IsSoFar c.args.client.now (job_times c.args.seen.now) c.args.selection.now c.args.table.now.state c.args.text.now.items c.loop.text.items c.loop.count c.loop.counter o) c.in_default.is c.loop.invariant)).told

pub returns-in_default-clause-count : goal.returns-in_default-clause-count
returns-in_default-clause-count c =
    (ends_none c.args.client.now (job_times c.args.seen.now) c.args.selection.now c.args.table.now.state c.args.text.now.items c.loop.text.items c.loop.count c.loop.counter
    (subst (λ (o : Option ℕ). IsSoFar c.args.client.now (job_times c.args.seen.now) c.args.selection.now c.args.table.now.state c.args.text.now.items c.loop.text.items c.loop.count c.loop.counter o) c.in_default.is c.loop.invariant)).counted

pub returns-in_default-clause-next : goal.returns-in_default-clause-next
returns-in_default-clause-next c =
    c.in_default.is ∙ (ends_none c.args.client.now (job_times c.args.seen.now) c.args.selection.now c.args.table.now.state c.args.text.now.items c.loop.text.items c.loop.count c.loop.counter
    (subst (λ (o : Option ℕ). IsSoFar c.args.client.now (job_times c.args.seen.now) c.args.selection.now c.args.table.now.state c.args.text.now.items c.loop.text.items c.loop.count c.loop.counter o) c.in_default.is c.loop.invariant)).goes_on

pub returns-then-most-count-clause-jobs : goal.returns-then-most-count-clause-jobs
returns-then-most-count-clause-jobs c =
    let most = c.most-most.ensures in
    let le = c.if-most-count.true in
    (ends_full c.args.client.now (job_times c.args.seen.now) c.args.selection.now c.args.table.now.state c.args.text.now.items c.loop.text.items c.loop.count c.loop.counter c.loop.next c.loop.invariant (omega (arith, most, le))).told

pub returns-then-most-count-clause-count : goal.returns-then-most-count-clause-count
returns-then-most-count-clause-count c =
    let most = c.most-most.ensures in
    let le = c.if-most-count.true in
    (ends_full c.args.client.now (job_times c.args.seen.now) c.args.selection.now c.args.table.now.state c.args.text.now.items c.loop.text.items c.loop.count c.loop.counter c.loop.next c.loop.invariant (omega (arith, most, le))).counted

pub returns-then-most-count-clause-next : goal.returns-then-most-count-clause-next
returns-then-most-count-clause-next c =
    let most = c.most-most.ensures in
    let le = c.if-most-count.true in
    sym c.in-Some.is ∙ (ends_full c.args.client.now (job_times c.args.seen.now) c.args.selection.now c.args.table.now.state c.args.text.now.items c.loop.text.items c.loop.count c.loop.counter c.loop.next c.loop.invariant (omega (arith, most, le))).goes_on

pub returns-clause-jobs : goal.returns-clause-jobs
returns-clause-jobs c =
    let all : c.loop.counter ≡ 1000 = omega (arith, c.loop-test.false, c.loop.auto.counter-end) in
    (ends_spent c.args.client.now (job_times c.args.seen.now) c.args.selection.now c.args.table.now.state c.args.text.now.items c.loop.text.items c.loop.count c.loop.next
    (subst (λ n. IsSoFar c.args.client.now (job_times c.args.seen.now) c.args.selection.now c.args.table.now.state c.args.text.now.items c.loop.text.items c.loop.count n c.loop.next) all c.loop.invariant)).told

pub returns-clause-count : goal.returns-clause-count
returns-clause-count c =
    let all : c.loop.counter ≡ 1000 = omega (arith, c.loop-test.false, c.loop.auto.counter-end) in
    (ends_spent c.args.client.now (job_times c.args.seen.now) c.args.selection.now c.args.table.now.state c.args.text.now.items c.loop.text.items c.loop.count c.loop.next
    (subst (λ n. IsSoFar c.args.client.now (job_times c.args.seen.now) c.args.selection.now c.args.table.now.state c.args.text.now.items c.loop.text.items c.loop.count n c.loop.next) all c.loop.invariant)).counted

pub returns-clause-next : goal.returns-clause-next
returns-clause-next c =
    let all : c.loop.counter ≡ 1000 = omega (arith, c.loop-test.false, c.loop.auto.counter-end) in
    (ends_spent c.args.client.now (job_times c.args.seen.now) c.args.selection.now c.args.table.now.state c.args.text.now.items c.loop.text.items c.loop.count c.loop.next
    (subst (λ n. IsSoFar c.args.client.now (job_times c.args.seen.now) c.args.selection.now c.args.table.now.state c.args.text.now.items c.loop.text.items c.loop.count n c.loop.next) all c.loop.invariant)).goes_on
