-- The request is denied, or refused for the reserve, or it is answered as the roles allow.
use Rattle.std.proofs.Common.{◌≡◌, true, ap, sym, ◌∙◌, subst}
use Rattle.client_reader.specs.declared.ask.Ask.{Ask}
use Rattle.client_roles.specs.RoleTable.{is_allowed}
use Rattle.service_loop.proofs.ClientStepLaws.{answered_by_denial, answered_by_reserve}
use Rattle.service_loop.proofs.client.Client.answer.Goals as goal

pub returns-then-not-is_allowed-clause-done : goal.returns-then-not-is_allowed-clause-done
returns-then-not-is_allowed-clause-done g c =
    let role = ap (λ s. is_allowed c.args.self.now.standing s c.args.ask) (sym c.table.ensures) ∙ sym c.is_allowed.ensures ∙ c.if-not-is_allowed.true in
    answered_by_denial _ _ _ _ _ c.args.ask role c.in_ok-add.ensures.added c.requires c.in_ok-add.ensures.status

pub returns-then-is_reserved-clause-done : goal.returns-then-is_reserved-clause-done
returns-then-is_reserved-clause-done g c =
    let role = ap (λ s. is_allowed c.args.self.now.standing s c.args.ask) (sym c.table.ensures) ∙ sym c.is_allowed.ensures ∙ c.if-not-is_allowed.false in
    answered_by_reserve _ _ c.args.shared.now.engine _ _ c.args.ask c.args.shared.now.area role (sym c.is_reserved.ensures ∙ c.if-is_reserved.true) c.in_ok-add-2.ensures.added c.requires
    c.in_ok-add-2.ensures.status

pub answer_command-requires-clause-role : goal.answer_command-requires-clause-role
answer_command-requires-clause-role g c =
    let role = ap (λ s. is_allowed c.args.self.now.standing s c.args.ask) (sym c.table.ensures) ∙ sym c.is_allowed.ensures ∙ c.if-not-is_allowed.false in
    subst (λ (ask : Ask). is_allowed c.args.self.now.standing c.args.shared.now.engine.run_state.spool.state ask ≡ true) c.in-Command.is role

pub answer_own-requires-clause-role : goal.answer_own-requires-clause-role
answer_own-requires-clause-role g c =
    let role = ap (λ s. is_allowed c.args.self.now.standing s c.args.ask) (sym c.table.ensures) ∙ sym c.is_allowed.ensures ∙ c.if-not-is_allowed.false in
    subst (λ (ask : Ask). is_allowed c.args.self.now.standing c.args.shared.now.engine.run_state.spool.state ask ≡ true) c.in-Own.is role
