use Rattle.std.proofs.Common.{◌≡◌, [], ◌++◌, take, length, subst, sym, arith, ap, ◌∙◌, refl}
use Rattle.std.specs.Io.KnownBytes.{Consumes, IsAtEnd}
use Rattle.spool_core.specs.OpenSpools.{IsSettled as NoneStaged}
use Rattle.std.proofs.KnownBytes.{Keeps-refl}
use Rattle.spool_engine.proofs.RunLaws.{nothing_yet, still, stops, stops_in, goes_on, ends, renamed}
use Rattle.spool_engine.proofs.printer.Printer.serve.Goals as goal
use Rattle.spool_engine.proofs.printer.Printer.serve.Goals.{in-Ok+in-Ok-take_piece, in-Err+else-ne}

pub reads-init : goal.reads-init
reads-init g c = (refl, c.requires.settled, [], [], nothing_yet _ _ _ _ _ c.new-commands.ensures)

pub returns-in-Ok-eq0 : goal.returns-in-Ok-eq0
returns-in-Ok-eq0 g c =
    let (long, settled, seen, ts, far) = c.reads.invariant in
    let (us, rest, h, none) = c.serve_end.ensures.ends in
    let R = g.R.Read.remaining in
    let zero = c.in-Ok-eq0.field-0-test in
    let bytes = c.in-Ok-eq0.ensures.bytes in
    let takes : Consumes (R c.reads.reader) (R c.read.new.self) [] = subst (λ n. Consumes (R c.reads.reader) (R c.read.new.self) (take n c.read.new.buf)) zero bytes.0 in
    let end : IsAtEnd (R c.read.new.self) = bytes.1 zero (let l : length c.read.new.buf ≡ 16384 = c.read.auto.buf ∙ long in omega arith) in
    record { settled = c.serve_end.ensures.settled; run = ends c.versions_rise.ensures.version c.tickets_stay.ensures.finishes _ g.met.D.Disk.lawful c.serve_end.result _ _ _ _ _ _ _ seen rest ts us _ _ _ far takes end h none (c.met_fault-plain.ensures.plain.kept c.requires.settled) }

pub returns-in-Err-take_piece : goal.returns-in-Err-take_piece
returns-in-Err-take_piece g c =
    let (long, settled, seen, ts, far) = c.reads.invariant in
    let (us, h) = c.in-Err-take_piece.ensures.drains in
    record { settled = c.in-Err-take_piece.ensures.settled; run = stops_in _ c.in-Err-take_piece.fault _ _ _ _ _ _ _ _ seen _ ts us _ _ _ far c.in-Ok.ensures.bytes.0 h (c.met_fault-plain.ensures.plain.kept c.requires.settled) }

pub returns-then-ne : goal.returns-then-ne
returns-then-ne g c =
    let (long, settled, seen, ts, far) = c.reads.invariant in
    record { settled = settled; run = stops _ _ _ _ _ _ _ seen ts _ _ far c.in-Err.ensures.bytes (c.met_fault-plain.ensures.plain.kept c.requires.settled) }

pub returns : goal.returns
returns g c =
    let (long, settled, seen, ts, far) = c.reads.invariant in
    record { settled = settled; run = stops _ _ _ _ _ _ _ seen ts _ _ far (Keeps-refl (g.R.Read.remaining c.reads.reader)) (c.met_fault-plain.ensures.plain.kept c.requires.settled) }

pub reads-preserved : goal.reads-preserved
reads-preserved g c =
    let (long, settled, seen, ts, far) = c.reads.invariant in
    elim c.match-read.branch [
      | in-Ok+in-Ok-take_piece w ↦
          let (us, h) = w.in-Ok-take_piece.ensures.drains in
          let far' = goes_on _ _ _ _ _ _ _ _ _ seen (take w.in-Ok.count c.read.new.buf) ts us _ _ _ far w.in-Ok.ensures.bytes.0 h in
          (c.read.auto.buf ∙ long, subst (λ s. NoneStaged s.spool) (sym w.self-is) w.in-Ok-take_piece.ensures.settled, seen ++ take w.in-Ok.count c.read.new.buf, ts ++ us, renamed _ _ _ _ _ _ _ _ _ _ _ _ _ w.self-is w.commands-is (ap g.W.Write.contents w.writer-is) far')
      | in-Err+else-ne w ↦
          let far' = still _ _ _ _ _ _ _ seen ts _ _ far w.in-Err.ensures.bytes in
          (c.read.auto.buf ∙ long, subst (λ s. NoneStaged s.spool) (sym w.self-is) settled, seen, ts, renamed _ _ _ _ _ _ _ _ _ _ _ _ _ w.self-is w.commands-is (ap g.W.Write.contents w.writer-is) far')
    ]
