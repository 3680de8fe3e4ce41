use Rattle.std.proofs.Common.{ℕ, [], ◌∷◌}
use Rattle.std.specs.Int.{w8, w32, to_be_bytes}
use Rattle.event_codec.specs.Spelling.{exit_code, effects_code}
use Rattle.event_codec.proofs.Added.{Put, ◌▷◌, put_as}
use Rattle.event_codec.proofs.writing.put_stage.Goals as goal

pub returns-clause-written : goal.returns-clause-written
returns-clause-written c =
    let e = c.args.end.now in
    let kind : Put c.args.out.now.items (c.args.kind ∷ []) c.put_kind.new.out.items = record { is = c.put_kind.ensures.written } in
    let job = put_as c.put_kind.new.out.items c.put_u32.new.out.items (λ (n : ℕ). to_be_bytes w32 n) c.get.result e.job c.get.ensures.value c.put_u32.ensures.written in
    let attempt = put_as c.put_u32.new.out.items c.put_u32-2.new.out.items (λ (n : ℕ). to_be_bytes w32 n) c.get-2.result e.attempt c.get-2.ensures.value c.put_u32-2.ensures.written in
    let stage = put_as c.put_u32-2.new.out.items c.put_u8.new.out.items (λ (n : ℕ). to_be_bytes w8 n) c.get-3.result e.stage c.get-3.ensures.value c.put_u8.ensures.written in
    let exit : Put c.put_u8.new.out.items (exit_code e.exit) c.put_exit.new.out.items = record { is = c.put_exit.ensures.written } in
    let dropped : Put c.put_exit.new.out.items (to_be_bytes w32 e.dropped) c.put_u32-3.new.out.items = record { is = c.put_u32-3.ensures.written } in
    let effects : Put c.put_u32-3.new.out.items (effects_code e.effects) c.put_effects.new.out.items = record { is = c.put_effects.ensures.written } in
    (kind ▷ job ▷ attempt ▷ stage ▷ exit ▷ dropped ▷ effects).is
