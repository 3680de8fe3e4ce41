use Rattle.std.proofs.Common.{rules, tests, ap, not, ◌∙◌}
use Rattle.std.specs.Iterator.Adapters.{filter_source, filter_callee}
use Rattle.std.specs.Slice.Iter.{split_rest, split_done, split_callee}
use Rattle.std.proofs.lemmas.Iterator.Consumers.{map_from_collect, YieldsList-from_filter}
use Rattle.std.proofs.lemmas.Iterator.Search.{YieldsList-from_take_while}
use Rattle.std.proofs.lemmas.Iterator.Splits.{YieldsList-from_slice_split}
use Rattle.line_words.specs.Blanks.{is_blank}
use Rattle.program_lists.specs.ProgramLines.{is_empty, begins_remark}
use Rattle.program_lists.proofs.line.words_of.Goals as goal

pub returns : goal.returns
returns c =
    let filtered = c.take_while.ensures.source in
    let cut = ap filter_source filtered ∙ c.filter.ensures.source in
    map_from_collect _ c.collect.ensures.ran
    (YieldsList-from_take_while _ (λ word. not (begins_remark word))
    (YieldsList-from_filter _ (λ word. not (is_empty word))
    (YieldsList-from_slice_split _ is_blank c.args.line.now (ap split_rest cut ∙ c.split.ensures.rest) (ap split_done cut ∙ c.split.ensures.done) (ap split_callee cut ∙ c.split.ensures.closure) (λ x r q k. search (rules, tests)))
    (ap filter_callee filtered ∙ c.filter.ensures.closure) (λ x r q k. search (rules, tests)))
    c.take_while.ensures.closure c.take_while.ensures.done (λ x r q k. search (rules, tests)))
