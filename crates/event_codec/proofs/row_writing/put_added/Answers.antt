use Rattle.std.proofs.Common.{ℕ}
use Rattle.std.specs.Int.{w8, w16, w32, to_be_bytes}
use Rattle.event_codec.specs.Spelling.{text_code, policy_number}
use Rattle.event_codec.proofs.Added.{Put, ◌▷◌, put_as}
use Rattle.event_codec.proofs.row_writing.put_added.Goals as goal

pub returns-clause-written : goal.returns-clause-written
returns-clause-written c =
    let q = c.args.queue.now in
    let name : Put c.args.out.now.items (text_code q.name) c.put_text.new.out.items = record { is = c.put_text.ensures.written } in
    let uri : Put c.put_text.new.out.items (text_code q.uri) c.put_text-2.new.out.items = record { is = c.put_text-2.ensures.written } in
    let target : Put c.put_text-2.new.out.items (text_code q.target) c.put_media.new.out.items = record { is = c.put_media.ensures.written } in
    let policy = put_as c.put_media.new.out.items c.put_u8.new.out.items (λ (n : ℕ). to_be_bytes w8 n) c.policy_byte.result (policy_number q.policy) c.policy_byte.ensures c.put_u8.ensures.written in
    let interval = put_as c.put_u8.new.out.items c.put_u32.new.out.items (λ (n : ℕ). to_be_bytes w32 n) c.get.result q.interval c.get.ensures.value c.put_u32.ensures.written in
    let limit : Put c.put_u32.new.out.items (to_be_bytes w16 q.limit) c.put_u16.new.out.items = record { is = c.put_u16.ensures.written } in
    (name ▷ uri ▷ target ▷ policy ▷ interval ▷ limit).is
