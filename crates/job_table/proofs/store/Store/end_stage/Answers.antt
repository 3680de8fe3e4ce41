-- The effects are folded in first, and the verdict is that of the job's queue.
use Rattle.std.proofs.Common.{◌≡◌, refl, sym, ap, subst, ◌∙◌}
use Rattle.job_table.specs.Attempts.{is_processing_at, rule_at, stage_verdict, with_effects}
use Rattle.job_table.specs.Legal.{IsLegal}
use Rattle.job_table.specs.Step.{phase_found}
use Rattle.spool_types.specs.declared.event.Event.TheVariants.{Stage}
use Rattle.spool_types.specs.declared.event.Reply.TheVariants.{Phase}
use Rattle.spool_types.specs.State.{State, job_at}
use Rattle.job_table.proofs.Accepted.{has_job, busy_stage}
use Rattle.job_table.proofs.Legal.{legal_verdict}
use Rattle.job_table.proofs.Rooms.{no_more_then}
use Rattle.job_table.proofs.Rules.{busy_effects}
use Rattle.job_table.proofs.Steps.{rule_same}
use Rattle.job_table.proofs.store.Store.end_stage.Goals as goal

pub fold_effects-requires-clause-there : goal.fold_effects-requires-clause-there
fold_effects-requires-clause-there c = has_job c.args.self.now.state (Stage c.args.end) c.args.end.job _ refl c.requires.accepted

pub stage_verdict-verdict-requires : goal.stage_verdict-verdict-requires
stage_verdict-verdict-requires c = c.fold_effects.ensures.there

pub rule-requires-clause-there : goal.rule-requires-clause-there
rule-requires-clause-there c = c.fold_effects.ensures.there

pub rule-requires-clause-busy : goal.rule-requires-clause-busy
rule-requires-clause-busy c =
    let folded : c.fold_effects.new.self.state ≡ with_effects c.args.self.now.state c.args.end.job c.args.end.effects =
    c.fold_effects.ensures.state ∙ ap (with_effects c.args.self.now.state c.args.end.job) c.into_vec.ensures.value in
    ap (λ (s : State). is_processing_at (job_at s c.args.end.job)) folded
    ∙ busy_effects c.args.self.now.state c.args.end.job c.args.end.effects
    ∙ busy_stage c.args.self.now.state c.args.end c.requires.accepted

pub rule-requires-clause-legal : goal.rule-requires-clause-legal
rule-requires-clause-legal c = λ legal.
    let folded : c.fold_effects.new.self.state ≡ with_effects c.args.self.now.state c.args.end.job c.args.end.effects =
    c.fold_effects.ensures.state ∙ ap (with_effects c.args.self.now.state c.args.end.job) c.into_vec.ensures.value in
    subst IsLegal (sym (
    rule_same c.fold_effects.new.self.state c.args.end.job c.stage_verdict-verdict.result (stage_verdict c.args.end.exit) c.stage_verdict-verdict.ensures
    ∙ ap (λ (s : State). rule_at s c.args.end.job (stage_verdict c.args.end.exit)) folded))
    (legal_verdict c.args.self.now.state c.args.end c.requires.accepted (subst IsLegal folded legal))

pub returns-clause-state : goal.returns-clause-state
returns-clause-state c =
    c.rule.ensures.state
    ∙ rule_same c.fold_effects.new.self.state c.args.end.job c.stage_verdict-verdict.result (stage_verdict c.args.end.exit) c.stage_verdict-verdict.ensures
    ∙ ap (λ (s : State). rule_at s c.args.end.job (stage_verdict c.args.end.exit))
    (c.fold_effects.ensures.state ∙ ap (with_effects c.args.self.now.state c.args.end.job) c.into_vec.ensures.value)

pub returns-clause-reply : goal.returns-clause-reply
returns-clause-reply c = ap Phase (c.rule.ensures.phase ∙ ap (λ (s : State). phase_found (job_at s c.args.end.job)) (
    c.rule.ensures.state
    ∙ rule_same c.fold_effects.new.self.state c.args.end.job c.stage_verdict-verdict.result (stage_verdict c.args.end.exit) c.stage_verdict-verdict.ensures
    ∙ ap (λ (s : State). rule_at s c.args.end.job (stage_verdict c.args.end.exit))
    (c.fold_effects.ensures.state ∙ ap (with_effects c.args.self.now.state c.args.end.job) c.into_vec.ensures.value)))

pub returns-clause-room : goal.returns-clause-room
returns-clause-room c = no_more_then _ _ _ c.fold_effects.ensures.room c.rule.ensures.room

pub returns-clause-places : goal.returns-clause-places
returns-clause-places c = λ j lives. c.rule.ensures.places j lives ∙ c.fold_effects.ensures.places j
