use Rattle.std.proofs.Common.{ℕ, [], ◌∷◌}
use Rattle.std.specs.Int.{w32, to_be_bytes}
use Rattle.event_codec.specs.Spelling.{text_code, filters_code}
use Rattle.event_codec.proofs.Added.{Put, ◌▷◌, put_as}
use Rattle.event_codec.proofs.writing.put_closing.Goals as goal

pub returns-clause-written : goal.returns-clause-written
returns-clause-written c =
    let d = c.args.closing.now in
    let kind : Put c.args.out.now.items (c.args.kind ∷ []) c.put_kind.new.out.items = record { is = c.put_kind.ensures.written } in
    let job = put_as c.put_kind.new.out.items c.put_u32.new.out.items (λ (n : ℕ). to_be_bytes w32 n) c.get.result d.job c.get.ensures.value c.put_u32.ensures.written in
    let media : Put c.put_u32.new.out.items (text_code d.media) c.put_media.new.out.items = record { is = c.put_media.ensures.written } in
    let filters : Put c.put_media.new.out.items (filters_code d.filters) c.put_filters.new.out.items = record { is = c.put_filters.ensures.written } in
    (kind ▷ job ▷ media ▷ filters).is
