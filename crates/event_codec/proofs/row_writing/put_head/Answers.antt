use Rattle.std.proofs.Common.{ℕ}
use Rattle.std.specs.Int.{w32, w64, to_be_bytes}
use Rattle.event_codec.proofs.Added.{Put, ◌▷◌, put_as}
use Rattle.event_codec.proofs.row_writing.put_head.Goals as goal

pub returns-clause-written : goal.returns-clause-written
returns-clause-written c =
    let h = c.args.head.now in
    let highest : Put c.args.out.now.items (to_be_bytes w32 h.highest) c.put_u32.new.out.items = record { is = c.put_u32.ensures.written } in
    let moment = put_as c.put_u32.new.out.items c.put_u64.new.out.items (λ (n : ℕ). to_be_bytes w64 n) c.get.result h.moment c.get.ensures.value c.put_u64.ensures.written in
    (highest ▷ moment).is
