-- The ranges so far, and those of the other texts.
use Rattle.std.proofs.Common.{◌≡◌, [], map, drop}
use Rattle.ipp_options.specs.StatedAttributes.{ranges_of}
use Rattle.ipp_options.proofs.stated.ranges_of.Given as goal

abbrev pub invariant-loop-text : goal.invariant-loop-text
invariant-loop-text l = ranges_of l.values (map (λ text. text.now) (drop l.text-index l.texts)) ≡ ranges_of [] (map (λ text. text.now) l.texts)
