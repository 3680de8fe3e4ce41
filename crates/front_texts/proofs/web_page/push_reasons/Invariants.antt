-- The reasons so far.
use Rattle.std.proofs.Common.{◌≡◌, ◌++◌, take}
use Rattle.std.specs.List.{flat_map}
use Rattle.front_texts.specs.Page.{reason_part}
use Rattle.front_texts.proofs.web_page.push_reasons.Given as goal

abbrev pub invariant-loop-reason : goal.invariant-loop-reason
invariant-loop-reason l = l.page.items ≡ l.initial.page.items ++ flat_map reason_part (take l.reason-index l.reasons)
