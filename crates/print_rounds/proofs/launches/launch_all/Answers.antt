use Rattle.std.proofs.Common.{◌+◌, [], ◌∷◌, ◌++◌, arith, refl, sym, ap, subst, ◌∙◌}
use Rattle.std.specs.Option.{option_or}
use Rattle.spool_types.specs.State.{State, job_at}
use Rattle.print_rounds.specs.Counts.{launch_fault, launching_fault, started_by, started_in}
use Rattle.print_rounds.specs.RunStates.{Launching, IsLaunch}
use Rattle.print_rounds.proofs.LaunchLaws.{HasNumbers, rests_on}
use Rattle.print_rounds.proofs.ReadLaws.{reads_settled, reads_state}
use Rattle.print_rounds.proofs.TraceLaws.{more_launches, more_reads, one_count, one_fault, one_further}
use Rattle.print_rounds.proofs.launches.launch_all.Goals as goal

pub launch-launch-requires-clause-rests : goal.launch-launch-requires-clause-rests
launch-launch-requires-clause-rests g c =
    let (ts, launches, reads, jobs, count, fault) = c.loop-job.invariant.launches in
    let numbers : HasNumbers c.args.spool.now.state = λ j r there. (c.jobs-legal.ensures.legal.jobs j r (ap (λ (s : State). job_at s j) c.table.ensures.table ∙ there)).id in
    rests_on c.args.place.now c.args.spool.now.state numbers c.args.runner.now (g.C.Children.tells c.args.children.now) ts c.loop-job.runner (g.C.Children.tells c.loop-job.children) launches
    c.args.jobs.now c.requires.distinct c.requires.rest c.loop-job.job-index jobs c.loop-job-test.true c.job-item.result c.job-item.is

pub launch-launch-requires-clause-settled : goal.launch-launch-requires-clause-settled
launch-launch-requires-clause-settled g c =
    let (ts, launches, reads, jobs, count, fault) = c.loop-job.invariant.launches in
    reads_settled g.D.Disk.device c.args.spool.now ts c.loop-job.spool c.requires.settled reads

pub loop-job-preserved : goal.loop-job-preserved
loop-job-preserved g c =
    let (ts, launches, reads, jobs, count, fault) = c.loop-job.invariant.launches in
    let (document, launch, read) = c.launch-launch.ensures in
    let t : Launching = record { job = c.job-item.result; document = document; launch = c.launch-launch.result; slots = c.launch-launch.new.runner; told = g.C.Children.tells c.launch-launch.new.children } in
    let state = reads_state g.D.Disk.device c.args.spool.now ts c.loop-job.spool reads in
    let is = subst (λ (s : State). IsLaunch c.args.place.now s c.loop-job.runner (g.C.Children.tells c.loop-job.children) c.job-item.result document c.launch-launch.result c.launch-launch.new.runner (g.C.Children.tells c.launch-launch.new.children)) state launch in
    record {
      launches = (
        ts ++ t ∷ [],
        more_launches c.args.place.now c.args.spool.now.state c.args.runner.now c.loop-job.runner (g.C.Children.tells c.args.children.now) (g.C.Children.tells c.loop-job.children) ts t launches is,
        more_reads g.D.Disk.device c.args.spool.now c.loop-job.spool c.launch-launch.new.spool ts t reads read,
        one_further (λ (t : Launching). t.job) ts t c.args.jobs.now c.loop-job.job-index c.job-item.result jobs c.loop-job-test.true c.job-item.is refl,
        ap (λ n. n + c.started-started.result) count ∙ ap (λ n. started_in ts + n) c.started-started.ensures.value ∙ sym (one_count (λ (t : Launching). started_by t.launch) ts t),
        c.or-fault.ensures ∙ ap (λ f. option_or f c.fault.result) fault ∙ ap (option_or (launching_fault ts)) c.fault.ensures ∙ sym (one_fault (λ (t : Launching). launch_fault t.launch) ts t),
      );
      few = omega (arith, c.loop-job.invariant.few, c.started-started.ensures.at_most);
    }
