use Rattle.std.proofs.Common.{◌∙◌}
use Rattle.mime_costs.proofs.convs.Convs.filter.Goals as goal

pub returns : goal.returns
returns c = record { value = λ v there same. c.as_str.ensures.value ∙ c.filter_name.ensures.value v there same }
