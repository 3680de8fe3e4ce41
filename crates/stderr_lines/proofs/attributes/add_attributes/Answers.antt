use Rattle.std.proofs.Common.{ap, sym, ◌∙◌, subst}
use Rattle.std.specs.Prelude.{IfSome}
use Rattle.std.specs.List.{filter_map}
use Rattle.std.specs.Option.{option_copied, option_to_list}
use Rattle.stderr_lines.specs.AttributeLines.{attribute_of}
use Rattle.stderr_lines.specs.EffectDrafts.{IsLineText}
use Rattle.stderr_lines.specs.Rests.{words_behind}
use Rattle.stderr_lines.specs.Tallies.{keep_all}
use Rattle.stderr_lines.proofs.TallyLaws.{keep_option}
use Rattle.stderr_lines.proofs.attributes.add_attributes.Goals as goal

pub split_word-requires : goal.split_word-requires
split_word-requires c = subst (λ r. IfSome (option_copied r) (λ t. IsLineText t)) c.in-Some.is c.loop-rest.invariant.text

pub loop-rest-preserved : goal.loop-rest-preserved
loop-rest-preserved c =
    let t = c.loop-rest.tally in
    let ws = filter_map attribute_of (words_behind (option_copied c.split_word.result.1)) in
    record {
      same =
          ap (λ s. keep_all s ws) (c.in_ok-add_any.ensures ∙ ap (λ o. keep_all t (option_to_list o)) c.attribute_draft.ensures.effect)
          ∙ sym (keep_option t (attribute_of c.split_word.result.0.now) ws)
          ∙ ap (λ l. keep_all t (filter_map attribute_of l)) (sym c.split_word.ensures.words)
          ∙ ap (λ r. keep_all t (filter_map attribute_of (words_behind (option_copied r)))) (sym c.in-Some.is)
          ∙ c.loop-rest.invariant.same;
      text = c.split_word.ensures.rest;
    }
