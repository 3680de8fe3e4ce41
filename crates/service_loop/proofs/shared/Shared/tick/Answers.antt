-- One tick is one call.
use Rattle.std.proofs.Common.{ℕ, List, Some, map, refl, subst, ◌∙◌}
use Rattle.spool_types.specs.State.{State}
use Rattle.spool_engine.specs.EventSteps.{setting}
use Rattle.spool_engine.specs.StagedSteps.{IsStagingTick}
use Rattle.print_rounds.specs.Happenings.{happenings_of}
use Rattle.print_rounds.specs.declared.happenings.Happening.{Happening}
use Rattle.service_loop.specs.RecordedEvents.{HasRecordedAll, happened_deed}
use Rattle.service_loop.proofs.RecordLaws.{tick_events}
use Rattle.service_loop.proofs.CallLaws.{within_tick}
use Rattle.service_loop.proofs.shared.Shared.tick.Goals as goal

pub returns-clause-calls : goal.returns-clause-calls
returns-clause-calls g c =
    let (mid, settles, both, (tried, ticked), turn, happened) = c.tick-counts.ensures.tick in
    within_tick g.D.Disk.device _ _ _ (record { limits = _; next = c.tick-counts.new.self.run_state; result = c.tick-counts.result; tried = tried }) c.tick-counts.ensures.mime c.tick-counts.ensures.place (mid, settles, both, ticked) refl refl

pub returns-clause-tick : goal.returns-clause-tick
returns-clause-tick g c =
    let (mid, settles, both, (tried, ticked), turn, happened) = c.tick-counts.ensures.tick in (
      tried,
      subst (λ (starts : ℕ). IsStagingTick (setting g.D.Disk.device c.args.self.now.engine.mime c.args.self.now.engine.place) c.args.self.now.engine.run_state
          (record { limits = Some (record { most = c.args.self.now.most; starts = starts }); next = c.tick-counts.new.self.run_state; result = c.tick-counts.result; tried = tried })) c.starts.ensures
          (mid, settles, both, ticked),
    )

pub returns-clause-recorded : goal.returns-clause-recorded
returns-clause-recorded g c =
    let (mid, settles, both, ticked, turn, happened) = c.tick-counts.ensures.tick in
    let (events, that, is) = tick_events g.D.Disk.device c.args.self.now.engine.place _ mid mid.spool.dead c.tick-counts.new.self.run_state c.tick-counts.result c.tick-counts.new.happened.items happened in (
      mid,
      settles,
      events,
      _,
      that,
      subst (λ (t : State). HasRecordedAll t c.args.self.now.records (map happened_deed (happenings_of events)) c.record_tick.new.self) c.table.ensures
          (subst (λ (xs : List Happening). HasRecordedAll c.table.result.now.state c.args.self.now.records (map happened_deed xs) c.record_tick.new.self) (c.deref.ensures.value ∙ is) c.record_tick.ensures),
    )

pub returns-clause-turn : goal.returns-clause-turn
returns-clause-turn g c = let (mid, settles, both, ticked, turn, happened) = c.tick-counts.ensures.tick in (mid, settles, _, turn)
