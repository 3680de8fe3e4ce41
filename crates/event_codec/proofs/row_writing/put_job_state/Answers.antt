use Rattle.std.proofs.Common.{ℕ, List}
use Rattle.event_codec.specs.Spelling.{counted_code}
use Rattle.event_codec.specs.RowSpelling.{phase_code, typed_code}
use Rattle.event_codec.proofs.Added.{Put, ◌▷◌, put_is, put_as}
use Rattle.event_codec.proofs.row_writing.put_job_state.Goals as goal

pub returns-clause-written : goal.returns-clause-written
returns-clause-written c =
    let j = c.args.job.now in
    let media : Put c.args.out.now.items (typed_code j.media) c.put_typed.new.out.items = record { is = c.put_typed.ensures.written } in
    let filters = put_as c.put_typed.new.out.items c.put_counted.new.out.items (λ (texts : List (List ℕ)). counted_code texts) c.as_slice.result.now j.filters (cc) c.put_counted.ensures.written in
    let first = put_is c.put_counted.new.out.items _ c.put_u32.new.out.items c.put_u32.ensures.written in
    let second = put_is c.put_u32.new.out.items _ c.put_u32-2.new.out.items c.put_u32-2.ensures.written in
    let third = put_is c.put_u32-2.new.out.items _ c.put_u32-3.new.out.items c.put_u32-3.ensures.written in
    let phase : Put c.put_u32-3.new.out.items (phase_code j.phase) c.put_phase.new.out.items = record { is = c.put_phase.ensures.written } in
    (media ▷ filters ▷ first ▷ second ▷ third ▷ phase).is
