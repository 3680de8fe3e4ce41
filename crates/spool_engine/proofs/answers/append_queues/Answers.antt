use Rattle.std.proofs.Common.{◌≡◌, ◌++◌, ap, sym, ◌∙◌, ◌&&◌, append-nil}
use Rattle.std.specs.Prelude.{is_some}
use Rattle.std.specs.FinMap as finite
use Rattle.spool_types.specs.Busy.{is_busy, is_of}
use Rattle.spool_types.specs.Phases.{is_processing}
use Rattle.spool_types.specs.State.{Job}
use Rattle.command_lines.specs.Replies.{queue_text}
use Rattle.spool_engine.proofs.QueueLaws.{found_any, lines_more, lines_all}
use Rattle.spool_engine.proofs.answers.append_queues.Goals as goal

pub loop-row-init : goal.loop-row-init
loop-row-init c = sym (append-nil c.args.text.now.items)

pub loop-row-preserved : goal.loop-row-preserved
loop-row-preserved c =
    let jobs = finite.values c.args.table.now.state.jobs in
    let row = c.row-item.result in
    let busy : c.is_some-busy.result ≡ is_busy jobs row.name =
    c.is_some-busy.ensures ∙ ap is_some c.processing.ensures ∙ found_any (λ (r : Job). r.id) (λ r. is_of row.name r && is_processing r.phase) jobs in
    lines_more jobs c.queues-rows.result.now c.loop-row.row-index row c.args.text.now.items c.loop-row.text.items c.push_queue.new.text.items
    c.loop-row-test.true c.row-item.is c.loop-row.invariant (c.in_ok-push_queue.ensures ∙ ap (λ b. c.loop-row.text.items ++ queue_text b row) busy)

pub returns : goal.returns
returns c =
    lines_all (finite.values c.args.table.now.state.jobs) c.queues-rows.result.now (finite.values c.args.table.now.state.queues) c.loop-row.row-index c.args.text.now.items c.loop-row.text.items
    c.loop-row-test.false c.queues-rows.ensures.rows c.loop-row.invariant
