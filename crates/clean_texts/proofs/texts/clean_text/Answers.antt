use Rattle.std.proofs.Common.{◌≡◌, false, string_bytes, rules, ap, ◌∙◌}
use Rattle.std.proofs.lemmas.Iterator.{text_from_collect, YieldsList-from_map, YieldsList-from_chars}
use Rattle.std.proofs.lemmas.Result.{IfOk-weaker}
use Rattle.std.specs.Str.Iter.{chars_rest}
use Rattle.clean_texts.specs.CleanTexts.{clean_char, clean_text, is_steered}
use Rattle.clean_texts.proofs.CleanLemmas.{clean_is_calm}
use Rattle.clean_texts.proofs.texts.clean_text.Goals as goal

pub returns-clause-value : goal.returns-clause-value
returns-clause-value c =
    text_from_collect _ c.collect.ensures.ran
    (YieldsList-from_map _ clean_char (YieldsList-from_chars c.args.text.now c.utf8.text (ap chars_rest c.map.ensures.source ∙ c.chars.ensures.rest)) c.map.ensures.closure (λ x r q k. search rules))

pub returns-clause-clean : goal.returns-clause-clean
returns-clause-clean c =
    let text = c.args.text.now in
    IfOk-weaker c.collect.result (λ s. string_bytes s ≡ clean_text text) (λ s. is_steered (string_bytes s) ≡ false) (λ s e. ap is_steered e ∙ clean_is_calm text c.utf8.text) (returns-clause-value c)
