use Rattle.std.proofs.Common.{◌≡◌, drop}
use Rattle.std.specs.List.{list_any}
use Rattle.ipp_requests.specs.IppChecks.{repeats_a_name}
use Rattle.ipp_requests.proofs.repeats.any_group_repeats.Given as goal

abbrev pub invariant-loop-group : goal.invariant-loop-group
invariant-loop-group l = list_any repeats_a_name l.groups ≡ list_any repeats_a_name (drop l.group-index l.groups)
