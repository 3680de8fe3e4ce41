use Rattle.std.proofs.Common.{rules, arith, ap, sym, ◌∙◌, ◌++◌, ◌∷◌, [], List, ℕ, append_assoc, get_or, take}
use Rattle.std.proofs.lemmas.List.{take_more}
use Rattle.service_client.specs.Lines.{lines_text}
use Rattle.service_client.proofs.lines.LineReader.take_all.Goals as goal

pub loop-byte-preserved : goal.loop-byte-preserved
loop-byte-preserved c =
    let start = lines_text c.args.lines.now.items ++ c.args.self.now.part.items in
    let i = c.loop-byte.byte-index in
    let piece = c.args.piece.now in
    record {
      stream = c.in_ok-take_into.ensures.stream ∙ ap (λ (l : List ℕ). l ++ get_or piece i 0 ∷ []) c.loop-byte.invariant.stream
          ∙ append_assoc start (take i piece) (get_or piece i 0 ∷ []) ∙ ap (λ (l : List ℕ). start ++ l) (sym (take_more piece i 0 c.loop-byte-test.true));
      whole = λ before. c.take_into.ensures.whole (c.loop-byte.invariant.whole before);
    }
