-- The rows are the values of the map.
use Rattle.std.proofs.Common.{map, sym, ap, subst, ◌∙◌}
use Rattle.std.specs.FinMap as finite
use Rattle.job_table.specs.Legal.{IsLegal}
use Rattle.job_table.proofs.Tables.{values_queues, keys_queues, map-same}
use Rattle.job_table.proofs.store.Store.queues.Goals as goal

pub returns-clause-rows : goal.returns-clause-rows
returns-clause-rows c =
    c.deref.ensures.value
    ∙ sym (map-same c.self.inside.queues.items)
    ∙ sym (values_queues c.self.inside.queues.items c.self.invariant.queues)
    ∙ ap (λ v. finite.values v.state.queues) c.self.view_is

pub returns-clause-names : goal.returns-clause-names
returns-clause-names c =
    ap (map (λ row. row.name)) c.deref.ensures.value
    ∙ sym (keys_queues c.self.inside.queues.items c.self.invariant.queues)
    ∙ ap (λ v. finite.keys v.state.queues) c.self.view_is

pub returns-clause-legal : goal.returns-clause-legal
returns-clause-legal c = subst (λ v. IsLegal v.state) c.self.view_is c.self.invariant.legal
