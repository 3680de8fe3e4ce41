use Rattle.std.proofs.Common.{◌≡◌, List, map, subst, IfOk}
use Rattle.requested_attributes.specs.AttributeGroups.{answered}
use Rattle.ipp_options.specs.StatedAttributes.{stated_row}
use Rattle.ipp_options.specs.declared.choice.Choice.{Choice}
use Rattle.ipp_options.proofs.stated.stated_attributes.Goals as goal

pub returns : goal.returns
returns c =
    subst (λ (choices : List Choice). IfOk c.attributes_of.result (λ attributes. attributes ≡ answered c.args.asked (map (stated_row c.args.options.now) choices))) c.all_choices.ensures
    c.attributes_of.ensures
