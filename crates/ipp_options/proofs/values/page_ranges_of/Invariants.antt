-- The text of the ranges so far, and the ranges of the other values.
use Rattle.std.proofs.Common.{◌≡◌, drop, string_bytes}
use Rattle.ipp_options.specs.OptionValues.{before, ranges_after}
use Rattle.ipp_options.proofs.values.page_ranges_of.Given as goal

abbrev pub invariant-loop-value : goal.invariant-loop-value
invariant-loop-value l = before (string_bytes l.text) (ranges_after l.last (drop l.value-index l.values)) ≡ ranges_after 0 l.values
