-- The attributes of the choices so far.
use Rattle.std.proofs.Common.{◌≡◌, map, take}
use Rattle.requested_attributes.specs.AttributeGroups.{answered}
use Rattle.ipp_options.specs.StatedAttributes.{stated_row}
use Rattle.ipp_options.proofs.stated.attributes_of.Given as goal

abbrev pub invariant-loop-choice : goal.invariant-loop-choice
invariant-loop-choice l = l.attributes ≡ answered l.asked (map (stated_row l.options) (take l.choice-index l.choices))
