-- The test of the lines is the test of their bytes.
use Rattle.std.proofs.Common.{rules, tests, sym, ◌∙◌}
use Rattle.std.proofs.lemmas.Iterator.{YieldsList-from_slice}
use Rattle.std.proofs.lemmas.Iterator.Search.{any_from_yields_List}
use Rattle.spool_types.proofs.Lists.{list_any-map}
use Rattle.spool_runtime.specs.Begun.{reports_ignored}
use Rattle.spool_runtime.proofs.begun.any_ignored.Goals as goal

pub returns : goal.returns
returns c =
    any_from_yields_List (λ line. reports_ignored line.now) _ _ _ c.any.ensures.ran
    (YieldsList-from_slice c.args.lines.now cc) (λ x b q k. search (rules, tests))
    ∙ sym (list_any-map reports_ignored (λ line. line.now) c.args.lines.now)
