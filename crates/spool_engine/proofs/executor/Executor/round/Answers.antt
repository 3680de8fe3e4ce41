-- The running children are waited for, and then a round runs over the spool. The clauses of the round state the images that a crash leaves.
use Rattle.std.proofs.Common.{refl, sym, subst, ℕ, List}
use Rattle.spool_types.specs.declared.event.Event.{Event}
use Rattle.spool_core.specs.OpenSpools.{OpenSpool, IsSettled as NoneStaged}
use Rattle.print_rounds.specs.RunStates.{RunState, run_state}
use Rattle.spool_engine.specs.EventSteps.{setting}
use Rattle.spool_engine.specs.EngineRounds.{IsRan}
use Rattle.spool_engine.proofs.RoundLaws.{ran_of}
use Rattle.spool_engine.proofs.SettleLaws.{settled_of}
use Rattle.spool_engine.proofs.executor.Executor.round.Goals as goal

pub returns-clause-round : goal.returns-clause-round
returns-clause-round g c = λ m.
    let tells = g.C.Children.tells in
    let v = setting g.D.Disk.device m c.args.place.now in
    let s = c.self.inside.spool in
    let old = run_state s c.args.runner.now (tells c.args.children.now) in
    let new = run_state c.round-ran.new.spool c.round-ran.new.runner (tells c.round-ran.new.children) in
    let (fs, steps, jobs) = c.finish_children.ensures.steps in
    let settles = settled_of old s c.finish_children.new.runner (tells c.finish_children.new.children) fs refl steps jobs c.finish_children.ensures.rest c.finish_children.ensures.finished in
    subst (λ (s : OpenSpool g.row.D.Denot). (settled : RunState g.row.D.Denot) × (tried : List Event) × (documents : ℕ → List ℕ) × IsRan v (run_state s c.args.runner.now (tells c.args.children.now)) (record { settled = settled; next = new; result = c.round-ran.result; tried = tried; documents = documents })) c.self.view_is
    (ran_of v s c.args.runner.now c.finish_children.new.runner (tells c.args.children.now) (tells c.finish_children.new.children) new c.round-ran.result s.dead refl settles g.met.D.Disk.lawful.only_now (c.self.invariant.kept (subst (λ (s : OpenSpool g.row.D.Denot). NoneStaged s) (sym c.self.view_is) c.requires.settled)) (λ alive. c.table-table.ensures.kept alive (c.round-ran.ensures.settled alive))
    c.round-ran.ensures.later c.round-ran.ensures.told c.round-ran.ensures.finished c.round-ran.ensures.rest c.round-ran.ensures.round)

pub invariant_of-self : goal.invariant_of-self
invariant_of-self g c = record { kept = λ settled alive. c.table-table.ensures.kept alive (settled alive); synced = c.table-table.ensures.synced }

pub round-ran-requires-clause-settled : goal.round-ran-requires-clause-settled
round-ran-requires-clause-settled g c = subst (λ (s : OpenSpool g.row.D.Denot). NoneStaged s) (sym c.self.view_is) c.requires.settled
