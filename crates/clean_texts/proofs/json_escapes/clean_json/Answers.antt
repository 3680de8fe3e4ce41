use Rattle.std.proofs.Common.{◌≡◌, string_bytes, flat_map, sym, ap, ◌∙◌, map-id}
use Rattle.std.proofs.lemmas.Iterator.{YieldsList-from_chars}
use Rattle.std.proofs.lemmas.Iterator.Consumers.{YieldsList-end}
use Rattle.clean_texts.specs.CleanTexts.{is_steered}
use Rattle.clean_texts.specs.JsonEscapes.{clean_json, json_bytes}
use Rattle.clean_texts.proofs.JsonLemmas.{json_is_calm}
use Rattle.clean_texts.proofs.json_escapes.clean_json.Goals as goal

pub returns-clause-value : goal.returns-clause-value
returns-clause-value c =
    let end = YieldsList-end (YieldsList-from_chars c.args.json.now c.utf8.json cc) c.loop-c.yielded _ c.loop-c.yielded_by _ _ c.in-None.is c.next.ensures.steps in
    c.loop-c.invariant ∙ ap (flat_map json_bytes) (sym (map-id c.loop-c.yielded) ∙ end.0)

pub returns-clause-clean : goal.returns-clause-clean
returns-clause-clean c =
    let same : string_bytes c.loop-c.cleaned ≡ clean_json c.args.json.now = returns-clause-value c in ap is_steered same ∙ json_is_calm c.args.json.now c.utf8.json
