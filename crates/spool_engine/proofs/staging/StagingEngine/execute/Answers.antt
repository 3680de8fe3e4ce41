-- A command is staged, or executed after a settle.
use Rattle.std.proofs.Common.{inl, inr, sym, subst}
use Rattle.spool_core.specs.OpenSpools.{IsSettled as NoneStaged}
use Rattle.filter_args.specs.declared.place.Place.{Place}
use Rattle.print_rounds.specs.RunStates.{RunState}
use Rattle.spool_engine.specs.EventSteps.{setting}
use Rattle.spool_engine.specs.EngineRuns.{IsCommandStep}
use Rattle.spool_engine.specs.Mime.{Mime}
use Rattle.spool_engine.proofs.staging.StagingEngine.execute.Goals as goal

pub returns-in-Round-clause-executed : goal.returns-in-Round-clause-executed
returns-in-Round-clause-executed g c =
    let mid = c.settle.new.self in
    let (t, takes, same) = c.execute_settled.ensures.executed in
    let step =
    subst (λ (m : Mime). IsCommandStep (setting g.D.Disk.device m c.args.self.now.place) mid.run_state t) c.settle.ensures.mime
    (subst (λ (p : Place). IsCommandStep (setting g.D.Disk.device mid.mime p) mid.run_state t) c.settle.ensures.place takes.legal) in
    let settled = subst (λ (s : RunState g.row.D.Denot). NoneStaged s.spool) (sym takes.next) c.execute_settled.ensures.settled in
    (t, record { legal = inr (mid.run_state, c.settle.ensures.settles, (c.settle.ensures.settles.spool.settled, settled), step); command = takes.command; next = takes.next }, same)

pub returns-in_default-clause-executed : goal.returns-in_default-clause-executed
returns-in_default-clause-executed g c =
    let (t, stages, same) = c.stage.ensures.staged in
    (t, record { legal = inl stages.legal; command = stages.command; next = stages.next }, same)
