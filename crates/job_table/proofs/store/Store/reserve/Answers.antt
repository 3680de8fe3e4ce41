-- Bytes are only sent to a job that has not ended.
use Rattle.std.proofs.Common.{◌≡◌, None, refl, subst}
use Rattle.spool_types.specs.Phases.{is_incoming}
use Rattle.spool_types.specs.declared.event.Event.TheVariants.{Send}
use Rattle.spool_types.specs.State.{Job}
use Rattle.job_table.specs.Step.{refusal_of}
use Rattle.job_table.proofs.Accepted.{job_must}
use Rattle.job_table.proofs.Legal.{not_ended}
use Rattle.job_table.proofs.store.Store.reserve.Goals as goal

pub reserve_extent-requires-clause-live : goal.reserve_extent-requires-clause-live
reserve_extent-requires-clause-live c = λ r there.
    not_ended r.phase (job_must c.args.self.now.state (Send c.in-Send.job c.in-Send.bytes) c.in-Send.job (λ (x : Job). is_incoming x.phase) _ _ r refl there
    (subst (λ e. refusal_of c.args.self.now.state e ≡ None) c.in-Send.is c.requires))
