-- The next job was purged, and the rest follows.
use Rattle.std.proofs.Common.{ap, nat_lt, rules, ◌∙◌}
use Rattle.std.proofs.lemmas.Fn.{filter_same}
use Rattle.service_rules.specs.declared.purges.Candidate.{Candidate}
use Rattle.service_rules.specs.Purges.{above, swept_to}
use Rattle.service_loop.proofs.CallLaws.{purged_next, within_then}
use Rattle.service_loop.proofs.TurnLaws.{counts_next}
use Rattle.service_loop.proofs.maintenance.Maintenance.purge.Goals as goal

pub loop-job-preserved : goal.loop-job-preserved
loop-job-preserved g c = record {
  calls = within_then g.D.Disk.device _ _ _ _ _ _ c.loop-job.invariant.calls c.say.ensures.calls;
  rest = λ e others. c.loop-job.invariant.rest e (purged_next g.D.Disk.device _ _ e c.loop-job.job-iterator c.in-Some.job _ c.in-Some.ensures.steps c.in_ok-say.ensures.answered others);
  counted = counts_next c.loop-job.ended _ _ c.loop-job.job-iterator _ c.in-Some.job c.saturating_sub-ended.ensures c.in-Some.ensures.steps c.loop-job.invariant.counted;
}

pub returns-in_err-say-clause-calls : goal.returns-in_err-say-clause-calls
returns-in_err-say-clause-calls g c = within_then g.D.Disk.device _ _ _ _ _ _ c.loop-job.invariant.calls c.say.ensures.calls

pub returns-clause-crossed : goal.returns-clause-crossed
returns-clause-crossed g c =
    λ beyond.
    filter_same _ (λ (job : Candidate). nat_lt c.swept_to-swept.result job.id) _ (λ x b f' k. search rules) _ _ c.retain.ensures.filtered
    ∙ ap (λ cursor. above cursor c.args.self.now.listed.items)
    (c.swept_to-swept.ensures
    ∙ ap (λ listed. swept_to 0 c.purge_count-count.result listed) c.deref.ensures.value
    ∙ ap (λ count. swept_to 0 count c.args.self.now.listed.items) c.purge_count-count.ensures.value)
