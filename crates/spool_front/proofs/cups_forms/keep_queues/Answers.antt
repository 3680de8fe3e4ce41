use Rattle.std.proofs.Common.{rules}
use Rattle.std.proofs.lemmas.Fn.{filter_same}
use Rattle.front_texts.specs.declared.queue_line.QueueLine.{QueueLine}
use Rattle.spool_front.specs.CupsForms.{has_name}
use Rattle.spool_front.proofs.cups_forms.keep_queues.Goals as goal

pub returns : goal.returns
returns c =
    filter_same _ (λ (queue : QueueLine). has_name c.args.names.now queue.name) _ (λ x b f' k. search rules) _ _ c.retain.ensures.filtered
