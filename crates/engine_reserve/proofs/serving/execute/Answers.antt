-- The command is refused, or the engine takes its step.
use Rattle.std.proofs.Common.{◌∙◌, inl, inr, ap, sym, refl, []}
use Rattle.spool_engine.specs.EngineRuns.{Engine, withheld}
use Rattle.engine_reserve.specs.CommandRoom.{command_cost, full_text, takes_reserve}
use Rattle.engine_reserve.proofs.serving.execute.Goals as goal

pub returns-then-takes_reserve-clause-executed : goal.returns-then-takes_reserve-clause-executed
returns-then-takes_reserve-clause-executed g c =
    let s = c.args.engine.now.run_state in
    let is = ap (takes_reserve c.args.area s) (sym c.command_cost.ensures) ∙ ap (λ (e : Engine g.row.D.Denot). takes_reserve c.args.area e.run_state c.command_cost.result) (sym c.as_staging.ensures) ∙ sym c.takes_reserve.ensures ∙ c.if-takes_reserve.true in
    (record { command = c.args.command; document = []; how = withheld; text = full_text; next = s }, record { legal = inl (record { is = is; text = refl; same = refl }); command = refl; next = refl }, refl)

pub returns-clause-executed : goal.returns-clause-executed
returns-clause-executed g c =
    let (t, takes, same) = c.execute.ensures.executed in
    let s = c.args.engine.now.run_state in
    let is = ap (takes_reserve c.args.area s) (ap command_cost takes.command ∙ sym c.command_cost.ensures) ∙ ap (λ (e : Engine g.row.D.Denot). takes_reserve c.args.area e.run_state c.command_cost.result) (sym c.as_staging.ensures) ∙ sym c.takes_reserve.ensures ∙ c.if-takes_reserve.false in
    (t, record { legal = inr (record { is = is; step = takes.legal }); command = takes.command; next = takes.next }, same)
