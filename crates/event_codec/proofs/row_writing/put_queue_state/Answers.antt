use Rattle.std.proofs.Common.{ℕ, List}
use Rattle.event_codec.specs.Spelling.{text_code, counted_code, flag_code}
use Rattle.event_codec.specs.RowSpelling.{attributes_code}
use Rattle.event_codec.proofs.Added.{Put, ◌▷◌, put_as}
use Rattle.event_codec.proofs.row_writing.put_queue_state.Goals as goal

pub returns-clause-written : goal.returns-clause-written
returns-clause-written c =
    let q = c.args.queue.now in
    let info : Put c.args.out.now.items (text_code q.info) c.put_text.new.out.items = record { is = c.put_text.ensures.written } in
    let location : Put c.put_text.new.out.items (text_code q.location) c.put_text-2.new.out.items = record { is = c.put_text-2.ensures.written } in
    let accepting : Put c.put_text-2.new.out.items (flag_code q.accepting) c.put_flag.new.out.items = record { is = c.put_flag.ensures.written } in
    let stopped : Put c.put_flag.new.out.items (flag_code q.stopped) c.put_flag-2.new.out.items = record { is = c.put_flag-2.ensures.written } in
    let message : Put c.put_flag-2.new.out.items (text_code q.message) c.put_text-3.new.out.items = record { is = c.put_text-3.ensures.written } in
    let reasons = put_as c.put_text-3.new.out.items c.put_counted.new.out.items (λ (texts : List (List ℕ)). counted_code texts) c.as_slice.result.now q.reasons (cc) c.put_counted.ensures.written in
    let attributes : Put c.put_counted.new.out.items (attributes_code q.attributes) c.put_attributes.new.out.items = record { is = c.put_attributes.ensures.written } in
    (info ▷ location ▷ accepting ▷ stopped ▷ message ▷ reasons ▷ attributes).is
