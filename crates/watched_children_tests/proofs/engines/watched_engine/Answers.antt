-- The premises of the laws hold: the table is legal, there are no slots, and the children report that none runs.
use Rattle.std.proofs.Common.{◌≡◌, List, [], ◌∷◌, ◌++◌, Some, refl, sym, ap, subst, ◌∙◌, append-nil}
use Rattle.job_table.specs.Attempts.{HasNoProcessing}
use Rattle.job_table.specs.Legal.{IsLegal}
use Rattle.job_table.specs.TableCalls.{AreOnce}
use Rattle.print_rounds.specs.StageHistory.{keys_in}
use Rattle.spool_engine.specs.EngineLives.{EngineLife}
use Rattle.watched_children_tests.proofs.engines.watched_engine.Goals as goal

pub returns-clause-input : goal.returns-clause-input
returns-clause-input g c =
    let legal = subst IsLegal c.table.ensures.table c.jobs-legal.ensures.legal in
    let engine = c.new.ensures.run_state in
    λ calls are. c.stages_have_right_input.ensures.over_ticks c.new.result.mime c.new.result.place c.new.result.run_state calls c.args.children
    (subst (λ s. IsLegal s.spool.state) (sym engine) legal) (ap (λ s. s.slots) engine) (ap (λ s. s.told) engine ∙ ap Some c.new-watched.ensures.inner) c.requires.quiet are

pub returns-clause-once : goal.returns-clause-once
returns-clause-once g c =
    let legal = subst IsLegal c.table.ensures.table c.jobs-legal.ensures.legal in
    let engine = c.new.ensures.run_state in
    λ first later now orders are told added.
    let life : EngineLife g.row.D.Denot = record {
      mime = c.new.result.mime;
      place = c.new.result.place;
      start = c.new.result.run_state;
      told = c.args.children;
      first = first;
      later = later;
      orders = orders;
    } in
    subst AreOnce (append-nil (keys_in orders)) (c.no_stage_is_ordered_twice.ensures (life ∷ []) (
      record {
        legal = subst (λ s. IsLegal s.spool.state) (sym engine) legal;
        idle = subst (λ s. HasNoProcessing s.spool.state) (sym engine) c.requires.idle;
        empty = ap (λ s. s.slots) engine;
        tells = ap (λ s. s.told) engine ∙ ap Some c.new-watched.ensures.inner;
        quiet = c.requires.quiet;
        calls = are;
        now = now;
        tells_then = told;
        added = added;
      },
      tt,
    ))
