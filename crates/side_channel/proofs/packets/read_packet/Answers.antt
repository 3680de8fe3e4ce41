use Rattle.std.proofs.Common.{◌≡◌, length, take, subst, rules, arith, length-take-le, take_all}
use Rattle.std.proofs.lemmas.Result.{err_from_is_err_and}
use Rattle.std.specs.Io.KnownBytes.{Consumes}
use Rattle.side_channel.proofs.PacketLaws.{front_of-some, head_and_data, head_alone}
use Rattle.side_channel.proofs.packets.read_packet.Goals as goal

pub returns-then-count-lt4-clause-packet : goal.returns-then-count-lt4-clause-packet
returns-then-count-lt4-clause-packet g c =
    let n = c.in_ok-count.count in
    let some = c.if-count-eq0.false in
    let few = c.if-count-lt4.true in
    let size = length-take-le n c.fill.new.buf c.in_ok-count.ensures.bound in
    record {
      bytes = take n c.fill.new.buf;
      read = c.in_ok-count.ensures.bytes;
      is = front_of-some (take n c.fill.new.buf) (omega (arith, size, some)) (omega (arith, size, few));
      end = c.in_ok-count.ensures.end few;
    }

pub returns-in_err-body-clause-packet : goal.returns-in_err-body-clause-packet
returns-in_err-body-clause-packet g c =
    let p = err_from_is_err_and c.from_residual-in_err-body.result c.from_residual-in_err-body.ensures.1 in
    let four : length c.fill.new.buf ≡ 4 = search rules in
    let all = take_all c.in_ok-count.count c.fill.new.buf (omega (arith, four, c.if-count-lt4.false)) in
    rw (p.1, p.2) (head_alone _ _ _ c.fill.new.buf c.from_be_bytes-length.result c.in_err-body.field-0.0 four c.from_be_bytes-length.ensures (subst (Consumes _ _) all c.in_ok-count.ensures.bytes) c.in_err-body.ensures.err)

pub returns-clause-packet : goal.returns-clause-packet
returns-clause-packet g c =
    let four : length c.fill.new.buf ≡ 4 = search rules in
    let all = take_all c.in_ok-count.count c.fill.new.buf (omega (arith, four, c.if-count-lt4.false)) in
    head_and_data _ _ _ c.fill.new.buf c.in_ok-body.body.items c.from_be_bytes-length.result four c.from_be_bytes-length.ensures (subst (Consumes _ _) all c.in_ok-count.ensures.bytes) c.in_ok-body.ensures.ok
