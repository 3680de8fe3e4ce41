use Rattle.std.proofs.Common.{◌≡◌, ℕ, List, [], drop, Bor}
use Rattle.std.specs.List.{list_any}
use Rattle.std.specs.Ordering.{nat_cmp}
use Rattle.std.specs.Cmp.Lexicographic.{slice_cmp}
use Rattle.std.specs.BTreeSet.{contains}
use Rattle.ipp_requests.specs.IppChecks.{is_same, repeats}
use Rattle.ipp_requests.proofs.repeats.repeats.Given as goal

abbrev pub invariant-loop-attribute : goal.invariant-loop-attribute
invariant-loop-attribute l =
    (names : List (List ℕ))
    × (repeats [] l.attributes ≡ repeats names (drop l.attribute-index l.attributes))
    × ((q : Bor (List ℕ)) → contains (λ x y. slice_cmp nat_cmp x.now y.now) l.seen q ≡ list_any (is_same q.now) names)
