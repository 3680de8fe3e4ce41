use Rattle.std.proofs.Common.{◌≡◌, [], ◌++◌, take, length, subst, arith, ap, ◌∙◌, refl}
use Rattle.std.specs.Io.KnownBytes.{Consumes, IsAtEnd}
use Rattle.std.proofs.KnownBytes.{Keeps-refl}
use Rattle.engine_reserve.proofs.ServingLaws.{end_at, ends, goes_on, nothing_yet, piece_at, renamed, still, stops, stops_in}
use Rattle.engine_reserve.proofs.serving.serve_text.Goals as goal
use Rattle.engine_reserve.proofs.serving.serve_text.Goals.{in-Ok+in-Ok-take_piece, in-Err+else-ne}

pub reads-init : goal.reads-init
reads-init g c = record { long = refl; mime = refl; place = refl; far = ([], [], nothing_yet _ _ _ _ _ _ c.new-commands.ensures) }

pub returns-in-Ok-eq0-clause-run : goal.returns-in-Ok-eq0-clause-run
returns-in-Ok-eq0-clause-run g c =
    let (seen, ts, far) = c.reads.invariant.far in
    let (us, rest, h, none) = c.serve_end.ensures.served in
    let R = g.R.Read.remaining in
    let zero = c.in-Ok-eq0.field-0-test in
    let bytes = c.in-Ok-eq0.ensures.bytes in
    let takes : Consumes (R c.reads.reader) (R c.read.new.self) [] = subst (λ n. Consumes (R c.reads.reader) (R c.read.new.self) (take n c.read.new.buf)) zero bytes.0 in
    let end : IsAtEnd (R c.read.new.self) = bytes.1 zero (let l : length c.read.new.buf ≡ 16384 = c.read.auto.buf ∙ c.reads.invariant.long in omega arith) in
    ends _ _ c.serve_end.result _ _ _ _ _ _ _ seen rest ts us _ _ _ far takes end (end_at _ _ _ _ _ _ _ _ _ _ _ _ _ _ c.reads.invariant.mime c.reads.invariant.place h) none c.met_fault-kept.ensures.kept

pub returns-in-Err-take_piece-clause-run : goal.returns-in-Err-take_piece-clause-run
returns-in-Err-take_piece-clause-run g c =
    let (seen, ts, far) = c.reads.invariant.far in
    let (us, h) = c.in-Err-take_piece.ensures.served in
    stops_in _ _ c.in-Err-take_piece.fault _ _ _ _ _ _ _ _ seen _ ts us _ _ _ far c.in-Ok.ensures.bytes.0
    (piece_at _ _ _ _ _ _ _ _ _ _ _ _ _ _ _ c.reads.invariant.mime c.reads.invariant.place h) c.met_fault-kept.ensures.kept

pub returns-then-ne-clause-run : goal.returns-then-ne-clause-run
returns-then-ne-clause-run g c =
    let (seen, ts, far) = c.reads.invariant.far in
    stops _ _ _ _ _ _ _ _ seen ts _ _ far c.in-Err.ensures.bytes c.met_fault-kept.ensures.kept

pub returns-clause-run : goal.returns-clause-run
returns-clause-run g c =
    let (seen, ts, far) = c.reads.invariant.far in
    stops _ _ _ _ _ _ _ _ seen ts _ _ far (Keeps-refl (g.R.Read.remaining c.reads.reader)) c.met_fault-kept.ensures.kept

pub reads-preserved : goal.reads-preserved
reads-preserved g c =
    let (seen, ts, far) = c.reads.invariant.far in
    elim c.match-read.branch [
      | in-Ok+in-Ok-take_piece w ↦
          let (us, h) = w.in-Ok-take_piece.ensures.served in
          let far' = goes_on _ _ _ _ _ _ _ _ _ _ seen (take w.in-Ok.count c.read.new.buf) ts us _ _ _ far w.in-Ok.ensures.bytes.0
          (piece_at _ _ _ _ _ _ _ _ _ _ _ _ _ _ _ c.reads.invariant.mime c.reads.invariant.place h) in
          record {
            long = c.read.auto.buf ∙ c.reads.invariant.long;
            mime = ap (λ e. e.mime) w.engine-is ∙ w.in-Ok-take_piece.ensures.mime ∙ c.reads.invariant.mime;
            place = ap (λ e. e.place) w.engine-is ∙ w.in-Ok-take_piece.ensures.place ∙ c.reads.invariant.place;
            far = (seen ++ take w.in-Ok.count c.read.new.buf, ts ++ us, renamed _ _ _ _ _ _ _ _ _ _ _ _ _ _ (ap (λ e. e.run_state) w.engine-is) w.commands-is (ap g.W.Write.contents w.writer-is) far');
          }
      | in-Err+else-ne w ↦
          let far' = still _ _ _ _ _ _ _ _ seen ts _ _ far w.in-Err.ensures.bytes in
          record {
            long = c.read.auto.buf ∙ c.reads.invariant.long;
            mime = ap (λ e. e.mime) w.engine-is ∙ c.reads.invariant.mime;
            place = ap (λ e. e.place) w.engine-is ∙ c.reads.invariant.place;
            far = (seen, ts, renamed _ _ _ _ _ _ _ _ _ _ _ _ _ _ (ap (λ e. e.run_state) w.engine-is) w.commands-is (ap g.W.Write.contents w.writer-is) far');
          }
    ]
