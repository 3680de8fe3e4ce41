-- None of the types so far can be converted to the target.
use Rattle.std.proofs.Common.{◌≡◌, false, take}
use Rattle.std.specs.List.{list_any}
use Rattle.spool_front.specs.ReachableTypes.{leads}
use Rattle.spool_front.proofs.chains.Chains.lead_to.Given as goal

abbrev pub invariant-loop-kind : goal.invariant-loop-kind
invariant-loop-kind l = list_any (leads l.self.convs l.target) (take l.kind-index l.self.kinds.items) ≡ false
