-- If no child ran before the steps, none runs after them.
use Rattle.std.proofs.Common.{sym, subst}
use Rattle.print_rounds.specs.Finished.{HasNoneRunning}
use Rattle.spool_core.specs.OpenSpools.{IsSettled as NoneStaged}
use Rattle.spool_engine.specs.EngineRuns.{Engine}
use Rattle.spool_engine.proofs.RestLaws.{lead_rests}
use Rattle.spool_engine.proofs.staging.StagingEngine.run.Goals as goal

pub returns-clause-rests : goal.returns-clause-rests
returns-clause-rests g c = λ none.
    let (text, turns, h) = c.serve.ensures.run in
    lead_rests _ c.self.inside.printer turns c.serve.new.self h.lead (subst (λ (e : Engine g.row.D.Denot). HasNoneRunning e.run_state.slots) (sym c.self.view_is) none)

pub serve-requires : goal.serve-requires
serve-requires g c = record { settled = subst (λ (e : Engine g.row.D.Denot). NoneStaged e.run_state.spool) (sym c.self.view_is) c.requires.settled }
