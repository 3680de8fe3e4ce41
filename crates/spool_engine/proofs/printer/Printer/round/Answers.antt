-- A round of the executor, over an equal run state.
use Rattle.std.proofs.Common.{List, ℕ, sym, subst}
use Rattle.spool_core.specs.OpenSpools.{IsSettled as NoneStaged}
use Rattle.spool_types.specs.declared.event.Event.{Event}
use Rattle.print_rounds.specs.RunStates.{RunState, run_state}
use Rattle.spool_engine.specs.EventSteps.{setting}
use Rattle.spool_engine.specs.EngineRounds.{IsRan}
use Rattle.spool_engine.proofs.printer.Printer.round.Goals as goal

pub returns-clause-round : goal.returns-clause-round
returns-clause-round g c = λ m.
    let v = setting g.D.Disk.device m c.args.place.now in
    let new = run_state c.round.new.self c.round.new.runner (g.C.Children.tells c.round.new.children) in
    subst (λ (s : RunState g.row.D.Denot). (settled : RunState g.row.D.Denot) × (tried : List Event) × (documents : ℕ → List ℕ) × IsRan v s (record { settled = settled; next = new; result = c.round.result; tried = tried; documents = documents })) c.self.view_is (c.round.ensures.round m)

pub round-requires : goal.round-requires
round-requires g c = record { settled = subst (λ (s : RunState g.row.D.Denot). NoneStaged s.spool) (sym c.self.view_is) c.requires.settled }
