use Rattle.std.proofs.Common.{◌≡◌, drop}
use Rattle.ipp_codec.specs.declared.place.Place.TheVariants.{Outside}
use Rattle.ipp_codec.specs.Collections.{place_after}
use Rattle.ipp_codec.proofs.writing.are_whole.Given as goal

abbrev pub invariant-loop-value : goal.invariant-loop-value
invariant-loop-value l = place_after l.place (drop l.value-index l.values) ≡ place_after Outside l.values
