use Rattle.service_client.proofs.Orders.{outcomes_from, cut_of}
use Rattle.service_client.specs.PipelineRuns.{nothing}
use Rattle.service_client.proofs.laws.in_order.Goals as goal

pub returns : goal.returns
returns g c = record { outcomes = λ calls end r. outcomes_from nothing calls end r; replies = cut_of }
