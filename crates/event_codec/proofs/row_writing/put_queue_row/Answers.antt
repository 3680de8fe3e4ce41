use Rattle.event_codec.specs.Spelling.{queue_code}
use Rattle.event_codec.specs.RowSpelling.{new_queue_of, queue_state_code}
use Rattle.event_codec.proofs.Added.{put_both, both_long, first_fits, then_fits}
use Rattle.event_codec.proofs.row_writing.put_queue_row.Goals as goal

pub put_added-requires : goal.put_added-requires
put_added-requires c = record { room = first_fits (queue_code (new_queue_of c.args.queue.now)) (queue_state_code c.args.queue.now) c.args.out.now c.requires.room }

pub put_queue_state-requires : goal.put_queue_state-requires
put_queue_state-requires c = record { room = then_fits (queue_code (new_queue_of c.args.queue.now)) (queue_state_code c.args.queue.now) c.args.out.now c.put_added.new.out c.put_added.ensures.len c.put_added.ensures.grown c.requires.room }

pub returns-clause-written : goal.returns-clause-written
returns-clause-written c = put_both (queue_code (new_queue_of c.args.queue.now)) (queue_state_code c.args.queue.now) c.args.out.now c.put_added.new.out c.put_queue_state.new.out c.put_added.ensures.written c.put_queue_state.ensures.written

pub returns-clause-len : goal.returns-clause-len
returns-clause-len c = both_long (queue_code (new_queue_of c.args.queue.now)) (queue_state_code c.args.queue.now) c.args.out.now c.put_added.new.out c.put_queue_state.new.out c.put_added.ensures.len c.put_queue_state.ensures.len
