use Rattle.std.proofs.Common.{ℕ}
use Rattle.std.specs.Int.{w8, w16, w32, to_be_bytes}
use Rattle.event_codec.specs.Spelling.{text_code}
use Rattle.event_codec.proofs.Added.{Put, ◌▷◌, put_as}
use Rattle.event_codec.proofs.row_writing.put_created.Goals as goal

pub returns-clause-written : goal.returns-clause-written
returns-clause-written c =
    let j = c.args.job.now in
    let number = put_as c.args.out.now.items c.put_u32.new.out.items (λ (n : ℕ). to_be_bytes w32 n) c.get.result j.id c.get.ensures.value c.put_u32.ensures.written in
    let queue : Put c.put_u32.new.out.items (text_code j.queue) c.put_text.new.out.items = record { is = c.put_text.ensures.written } in
    let user : Put c.put_text.new.out.items (text_code j.user) c.put_text-2.new.out.items = record { is = c.put_text-2.ensures.written } in
    let title : Put c.put_text-2.new.out.items (text_code j.title) c.put_text-3.new.out.items = record { is = c.put_text-3.ensures.written } in
    let copies = put_as c.put_text-3.new.out.items c.put_u16.new.out.items (λ (n : ℕ). to_be_bytes w16 n) c.get-2.result j.copies c.get-2.ensures.value c.put_u16.ensures.written in
    let priority = put_as c.put_u16.new.out.items c.put_u8.new.out.items (λ (n : ℕ). to_be_bytes w8 n) c.get-3.result j.priority c.get-3.ensures.value c.put_u8.ensures.written in
    let options : Put c.put_u8.new.out.items (text_code j.options) c.put_text-4.new.out.items = record { is = c.put_text-4.ensures.written } in
    (number ▷ queue ▷ (user ▷ title ▷ copies ▷ priority ▷ options)).is
