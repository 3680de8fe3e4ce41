use Rattle.std.proofs.Common.{rules, tests}
use Rattle.std.proofs.lemmas.Iterator.Search.{any_from_yields_List}
use Rattle.std.proofs.lemmas.Iterator.Splits.{YieldsList-from_slice_split}
use Rattle.user_proofs.specs.UserLines.{is_gap, is_id}
use Rattle.user_proofs.proofs.lines.is_member.Goals as goal

pub returns : goal.returns
returns c = record {
  value =
      any_from_yields_List (is_id c.args.gid) _ _ _ c.any.ensures.ran
      (YieldsList-from_slice_split _ is_gap c.args.groups.now c.split.ensures.rest c.split.ensures.done c.split.ensures.closure (λ x r q k. search (rules, tests)))
      (λ x b q k. search (rules, tests));
}
