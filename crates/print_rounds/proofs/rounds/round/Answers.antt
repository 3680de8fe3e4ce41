-- A round is a pass that waits.
use Rattle.std.proofs.Common.{◌+◌, ℕ, length, List, None, subst, true}
use Rattle.std.specs.FinMap as finite
use Rattle.std.specs.Prelude.{vec_capacity}
use Rattle.spool_types.specs.declared.event.Event.{Event}
use Rattle.job_table.specs.Legal.{IsLegal}
use Rattle.print_rounds.specs.Happenings.{HaveHappened, happenings_of}
use Rattle.print_rounds.specs.RunStates.{run_state}
use Rattle.print_rounds.specs.StageChecks.{idle_slots}
use Rattle.print_rounds.specs.Turns.{AreInTurn}
use Rattle.print_rounds.proofs.HappenedLaws.{pass_alone}
use Rattle.print_rounds.proofs.WaitLaws.{waited_round}
use Rattle.print_rounds.proofs.rounds.round.Goals as goal

pub returns : goal.returns
returns g c =
    let old = run_state c.args.spool.now c.args.runner.now (g.C.Children.tells c.args.children.now) in
    let new = run_state c.pass.new.spool c.pass.new.runner (g.C.Children.tells c.pass.new.children) in
    let q = length (finite.keys c.args.spool.now.state.queues) in
    let has = λ (events : List Event) (queues : List (List ℕ)). AreInTurn 0 c.pass.new.turn c.args.spool.now.state (idle_slots c.args.spool.now.state c.args.runner.now) queues × HaveHappened (vec_capacity c.new-happened.result) (q + q) c.new-happened.result.items c.pass.new.happened.items (happenings_of events) in
    let (round, leaves) =
    waited_round g.D.Disk.device g.met.D.Disk.lawful c.args.place.now old (λ alive. c.table.ensures.kept alive (c.requires.settled alive))
    (record {
      legal = c.legal_tables_stay_legal.ensures.stays;
      spent = c.spent_stages_stay_spent.ensures.stays;
      left = c.spent_stages_stay_spent.ensures.left;
      either = c.spent_stages_stay_spent.ensures.either;
      ended = c.spent_stages_stay_spent.ensures.ended;
      rises = c.versions_rise.ensures.all;
      raised_legal = c.versions_rise.ensures.legal;
    })
    (subst IsLegal c.table.ensures.table c.jobs-legal.ensures.legal) c.requires.rest new c.pass.result (pass_alone has g.D.Disk.device c.args.place.now true None old new c.pass.result c.args.spool.now.dead c.pass.ensures.pass) in
    record { round = round; later = leaves.later; told = leaves.told; finished = leaves.finished; rest = leaves.rest; settled = c.pass.ensures.settled }
