-- A round of the printer, over an equal run state.
use Rattle.std.proofs.Common.{List, ℕ, sym, subst}
use Rattle.std.specs.String.{string_bytes}
use Rattle.spool_types.specs.declared.event.Event.{Event}
use Rattle.print_rounds.specs.RunStates.{RunState}
use Rattle.spool_engine.specs.EventSteps.{setting}
use Rattle.spool_engine.specs.EngineRounds.{IsRan}
use Rattle.spool_core.specs.OpenSpools.{IsSettled as NoneStaged}
use Rattle.spool_engine.specs.EngineRuns.{Engine}
use Rattle.spool_engine.proofs.staging.StagingEngine.round.Goals as goal

pub returns-clause-round : goal.returns-clause-round
returns-clause-round g c =
    subst (λ (e : Engine g.row.D.Denot). (settled : RunState g.row.D.Denot) × (tried : List Event) × (documents : ℕ → List ℕ) × IsRan (setting g.D.Disk.device e.mime e.place) e.run_state (record { settled = settled; next = c.round.new.self; result = c.round.result; tried = tried; documents = documents })) c.self.view_is
    (c.round.ensures.round (record { types = c.self.inside.types; convs = c.self.inside.convs; locale = string_bytes c.self.inside.place.lang }))

pub returns-clause-rests : goal.returns-clause-rests
returns-clause-rests g c = λ none.
    let (settled, tried, documents, is) = c.round.ensures.round (record { types = c.self.inside.types; convs = c.self.inside.convs; locale = string_bytes c.self.inside.place.lang }) in
    is.rest

pub round-requires : goal.round-requires
round-requires g c = record { settled = subst (λ (e : Engine g.row.D.Denot). NoneStaged e.run_state.spool) (sym c.self.view_is) c.requires.settled }
