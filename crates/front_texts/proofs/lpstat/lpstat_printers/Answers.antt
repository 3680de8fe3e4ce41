use Rattle.command_lines.proofs.Pieces.{next_piece}
use Rattle.std.proofs.Common.{[], ◌++◌, ap, ◌∙◌}
use Rattle.front_texts.specs.Lpstat.{printer_entry, printing_job}
use Rattle.front_texts.specs.declared.queue_line.QueueLine.{QueueLine}
use Rattle.front_texts.proofs.lpstat.lpstat_printers.Goals as goal

pub loop-queue-preserved : goal.loop-queue-preserved
loop-queue-preserved c = next_piece (λ (q : QueueLine). printer_entry c.args.more q (printing_job q.name c.args.jobs.now)) c.args.queues.now c.loop-queue.queue-index c.queue-item.result [] c.loop-queue.text.items c.push_entry.new.text.items c.queue-item.is c.loop-queue-test.true c.loop-queue.invariant (c.in_ok-push_entry.ensures ∙ ap (λ job. c.loop-queue.text.items ++ printer_entry c.args.more c.queue-item.result job) c.printing_job.ensures)
