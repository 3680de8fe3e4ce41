use Rattle.std.proofs.Common.{rules, tests}
use Rattle.std.proofs.lemmas.Iterator.Search.{any_from_yields_List}
use Rattle.std.proofs.lemmas.Iterator.Splits.{YieldsList-from_slice_split}
use Rattle.spool_front.specs.CupsForms.{is_between, is_unknown}
use Rattle.spool_front.proofs.cups_forms.is_any_unknown.Goals as goal

pub returns : goal.returns
returns c =
    any_from_yields_List (is_unknown c.args.queues.now) _ _ _ c.any.ensures.ran
    (YieldsList-from_slice_split _ is_between c.args.names.now c.split.ensures.rest c.split.ensures.done c.split.ensures.closure (λ x r q k. search (rules, tests)))
    (λ x b q k. search (rules, tests))
