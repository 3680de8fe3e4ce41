-- One action: the end that was reported.
use Rattle.std.proofs.Common.{refl, ap, sym, ◌∙◌}
use Rattle.service_texts.specs.Shown.{has_settled, told_job}
use Rattle.service_loop.specs.ClientActions.{ClientStatus}
use Rattle.service_loop.proofs.ClientStepLaws.{goes_none, step_ended, step_none}
use Rattle.service_loop.proofs.client.Client.has_reported_end.Goals as goal

pub returns-clause-client_step : goal.returns-clause-client_step
returns-clause-client_step g c =
    let is = c.if-not-has_settled.false in
    let table = c.table-table.ensures in
    let added = c.in_ok-add.ensures.added in
    step_ended _ _ _ _ _ c.in-Some.job c.deref.result.now (record {
      settled = ap (λ s. has_settled s c.in-Some.job) (sym table) ∙ sym c.has_settled.ensures ∙ is;
      told = c.deref.ensures.value ∙ c.in_ok-text.ensures ∙ ap (λ s. told_job c.args.self.now.standing s c.in-Some.job) table;
    }) (record { connection = added.connection; reader = added.reader; taken = added.taken; replies = added.replies }) c.in-Some.is refl (ap (λ (w : ClientStatus). w.standing) c.in_ok-add.ensures.status)

pub returns-in_default-clause-client_step : goal.returns-in_default-clause-client_step
returns-in_default-clause-client_step g c = step_none _ _ _ _ _ (goes_none _ _) refl

pub returns-then-not-has_settled-clause-client_step : goal.returns-then-not-has_settled-clause-client_step
returns-then-not-has_settled-clause-client_step g c = step_none _ _ _ _ _ (goes_none _ _) refl
