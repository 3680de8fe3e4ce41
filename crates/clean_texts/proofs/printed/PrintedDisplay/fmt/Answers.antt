use Rattle.std.proofs.Common.{◌≡◌, ℕ, List, [], ◌∷◌, ◌++◌, map, encode_utf8, encode_utf8_all, sym, ap, ◌∙◌, map-id, append-nil, rules}
use Rattle.std.proofs.Output.{has_written_append, has_written_of_eq}
use Rattle.std.proofs.lemmas.Iterator.{YieldsList-from_chars}
use Rattle.std.proofs.lemmas.Iterator.Consumers.{YieldsList-end}
use Rattle.std.proofs.lemmas.List.{map-append}
use Rattle.std.proofs.lemmas.Str.{encodes-append}
use Rattle.clean_texts.specs.CleanTexts.{clean_char}
use Rattle.clean_texts.proofs.printed.PrintedDisplay.fmt.Goals as goal

-- One more character.
more : (cs : List ℕ) (c d : ℕ) → d ≡ clean_char c → encode_utf8_all (map clean_char cs) ++ encode_utf8 d ≡ encode_utf8_all (map clean_char (cs ++ c ∷ []))
more cs c d e =
    ap (λ (k : ℕ). encode_utf8_all (map clean_char cs) ++ encode_utf8 k) e
    ∙ ap (λ (l : List ℕ). encode_utf8_all (map clean_char cs) ++ l) (sym (append-nil (encode_utf8 (clean_char c))))
    ∙ sym (encodes-append (map clean_char cs) (clean_char c ∷ []))
    ∙ ap encode_utf8_all (sym (map-append clean_char cs (c ∷ [])))

pub loop-c-preserved : goal.loop-c-preserved
loop-c-preserved g c = λ plain.
    let so_far = c.loop-c.invariant plain in
    has_written_of_eq _ _ _ _ _ (more c.loop-c.yielded _ _ c.clean_char.ensures.value) (has_written_append _ _ _ _ _ _ so_far (search rules))

pub returns-clause-writes : goal.returns-clause-writes
returns-clause-writes g c = λ plain _.
    let end = YieldsList-end (YieldsList-from_chars c.args.self.now.text.now (search rules) (search rules)) c.loop-c.yielded _ c.loop-c.yielded_by _ _ c.in-None.is c.next.ensures.steps in
    has_written_of_eq _ _ _ _ _ (ap (λ (l : List ℕ). encode_utf8_all (map clean_char l)) (sym (map-id c.loop-c.yielded) ∙ end.0)) (c.loop-c.invariant plain)
