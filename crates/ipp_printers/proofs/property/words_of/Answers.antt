use Rattle.std.proofs.Common.{rules, tests, ap, not, ◌∙◌}
use Rattle.std.specs.Slice.Iter.{split_rest, split_done, split_callee}
use Rattle.std.proofs.lemmas.Iterator.Consumers.{map_from_collect, YieldsList-from_filter}
use Rattle.std.proofs.lemmas.Iterator.Splits.{YieldsList-from_slice_split}
use Rattle.line_words.specs.Blanks.{is_blank}
use Rattle.ipp_printers.specs.PropertyValues.{is_empty}
use Rattle.ipp_printers.proofs.property.words_of.Goals as goal

pub returns : goal.returns
returns c =
    let cut = c.filter.ensures.source in
    map_from_collect _ c.collect.ensures.ran
    (YieldsList-from_filter _ (λ word. not (is_empty word))
    (YieldsList-from_slice_split _ is_blank c.args.value.now (ap split_rest cut ∙ c.split.ensures.rest) (ap split_done cut ∙ c.split.ensures.done) (ap split_callee cut ∙ c.split.ensures.closure) (λ x r q k. search (rules, tests)))
    c.filter.ensures.closure (λ x r q k. search (rules, tests)))
