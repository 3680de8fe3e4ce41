-- One more job is in the draft of its queue.
use Rattle.std.proofs.Common.{◌+◌, ◌≤◌, [], ◌∷◌, length, set, sym, ap, subst, ◌∙◌, arith}
use Rattle.std.proofs.lemmas.List.{length-append, length-map}
use Rattle.spool_types.specs.State.{job_of}
use Rattle.job_table.specs.LaneDrafts.{IsDraft}
use Rattle.job_table.specs.Lanes.{IsReseated}
use Rattle.job_table.proofs.Walked.{turned, ended}
use Rattle.job_table.proofs.Begun.{AreBegun, row_stands, begun_blank, begun_all, begun_more, own_draft, this_alone, this_queue}
use Rattle.job_table.proofs.table.build.drafts_of.Goals as goal

pub loop-row-init : goal.loop-row-init
loop-row-init c = begun_blank c.args.store.now.state c.in_ok-drafts.drafts.items (c.in_ok-drafts.ensures.count ∙ c.queue_count.ensures) c.in_ok-drafts.ensures.each

pub unreachable-requires : goal.unreachable-requires
unreachable-requires c =
    let turn = turned _ c.jobs-rows.result.now.items (cc) c.loop-row.yielded c.loop-row.row-iterator c.next.new.self c.loop-row.yielded_by c.in-Some.row c.in-Some.ensures.steps in
    let this = row_stands c.args.store.now.state c.jobs-rows.result.now.items c.jobs-rows.ensures.rows (length c.loop-row.yielded) c.in-Some.row.now turn.0 turn.1 in
    this_queue c.args.store.now.state c.jobs-rows.ensures.legal (length c.loop-row.yielded) (job_of c.in-Some.row.now) this c.in_default.ensures.absent.absent

pub add-requires-clause-alone : goal.add-requires-clause-alone
add-requires-clause-alone c = λ busy.
    let turn = turned _ c.jobs-rows.result.now.items (cc) c.loop-row.yielded c.loop-row.row-iterator c.next.new.self c.loop-row.yielded_by c.in-Some.row c.in-Some.ensures.steps in
    let this = row_stands c.args.store.now.state c.jobs-rows.result.now.items c.jobs-rows.ensures.rows (length c.loop-row.yielded) c.in-Some.row.now turn.0 turn.1 in
    ap (λ d. d.processing) c.index_mut.ensures.value
    ∙ this_alone c.args.store.now.state c.jobs-rows.ensures.legal (length c.loop-row.yielded) c.loop-row.drafts.items c.loop-row.invariant (job_of c.in-Some.row.now) this
    c.in-Ok.place c.in-Ok.ensures.found c.index_mut.result.now (sym c.lane_state_of.ensures ∙ busy)

pub add-requires-clause-few : goal.add-requires-clause-few
add-requires-clause-few c =
    let turn = turned _ c.jobs-rows.result.now.items (cc) c.loop-row.yielded c.loop-row.row-iterator c.next.new.self c.loop-row.yielded_by c.in-Some.row c.in-Some.ensures.steps in
    let this = row_stands c.args.store.now.state c.jobs-rows.result.now.items c.jobs-rows.ensures.rows (length c.loop-row.yielded) c.in-Some.row.now turn.0 turn.1 in
    let own = own_draft c.args.store.now.state c.jobs-rows.ensures.legal (length c.loop-row.yielded) c.loop-row.drafts.items c.loop-row.invariant (job_of c.in-Some.row.now) this
    c.in-Ok.place c.in-Ok.ensures.found c.index_mut.result.now in
    omega (arith, own.few, ap (λ d. d.live) c.index_mut.ensures.value, turn.0, c.iter-row-items.ensures.fits, ap length c.iter-row-items.ensures.rows)

pub loop-row-preserved : goal.loop-row-preserved
loop-row-preserved c =
    let turn = turned _ c.jobs-rows.result.now.items (cc) c.loop-row.yielded c.loop-row.row-iterator c.next.new.self c.loop-row.yielded_by c.in-Some.row c.in-Some.ensures.steps in
    let this = row_stands c.args.store.now.state c.jobs-rows.result.now.items c.jobs-rows.ensures.rows (length c.loop-row.yielded) c.in-Some.row.now turn.0 turn.1 in
    subst (λ n. AreBegun c.args.store.now.state n (set c.loop-row.drafts.items c.in-Ok.place c.add.new.self)) (sym (length-append c.loop-row.yielded (c.in-Some.row ∷ [])))
    (begun_more c.args.store.now.state c.jobs-rows.ensures.legal (length c.loop-row.yielded) c.loop-row.drafts.items c.loop-row.invariant (job_of c.in-Some.row.now) this
    c.in-Ok.place c.in-Ok.ensures.found c.index_mut.result.now c.add.new.self
    (λ before after is ended seated. c.in_ok-add.ensures.draft before after (subst (IsDraft before) (sym c.index_mut.ensures.value) is) ended
    (subst (IsReseated before after c.in-Some.row.now.job.id) (sym c.lane_state_of.ensures) seated))
    (subst (λ d. c.add.new.self.live ≤ d.live + 1) c.index_mut.ensures.value c.in_ok-add.ensures.live))

pub returns-clause-drafts : goal.returns-clause-drafts
returns-clause-drafts c =
    let all = ended _ c.jobs-rows.result.now.items (cc) c.loop-row.yielded c.loop-row.row-iterator c.next.new.self c.loop-row.yielded_by c.in-None.ensures.steps in
    begun_all c.args.store.now.state c.jobs-rows.ensures.legal (length c.loop-row.yielded) c.loop-row.drafts.items c.loop-row.invariant
    (let many = sym (length-map c.jobs-rows.result.now.items job_of) ∙ ap length c.jobs-rows.ensures.rows in omega (arith, all.1, many))
