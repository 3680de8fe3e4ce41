-- The queue exists.
use Rattle.std.proofs.Common.{ℕ, Bool, Option, ap, sym, ◌∙◌}
use Rattle.std.specs.Option.{option_copied}
use Rattle.event_records.specs.SeenTimes.{queue_time}
use Rattle.job_table.specs.Attempts.{busy_of}
use Rattle.queue_sayings.specs.QueueSayings.{shown_row}
use Rattle.service_texts.specs.QueueShown.{queue_fields}
use Rattle.service_texts.proofs.QueueAnswers.{shown}
use Rattle.service_texts.proofs.queue_texts.shown_queue.Goals as goal

pub returns : goal.returns
returns c =
    let client = c.args.client.now in
    let s = c.args.table.now.state in
    let name = c.args.name.now in
    let row = c.in-Some.row.now in
    let counts = c.counts_of-counts.result in
    shown client (queue_time c.args.seen.now name) s name row counts c.in_ok-text.text.items (sym c.queue.ensures ∙ ap option_copied c.in-Some.is) c.counts_of-counts.ensures
    (c.in_ok-text.ensures
    ∙ ap (λ (printing : Option ℕ). queue_fields client counts printing c.queue-2.result (shown_row client c.has_spoken-spoken.result row)) c.processing-printing.ensures
    ∙ ap (λ (changed : Option ℕ). queue_fields client counts (busy_of s name) changed (shown_row client c.has_spoken-spoken.result row)) c.queue-2.ensures
    ∙ ap (λ (spoken : Bool). queue_fields client counts (busy_of s name) (queue_time c.args.seen.now name) (shown_row client spoken row)) c.has_spoken-spoken.ensures)
