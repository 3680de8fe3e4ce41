use Rattle.std.proofs.Common.{◌+◌, [], ◌∷◌, ◌++◌, arith, refl, sym, ap, subst, ◌∙◌}
use Rattle.std.specs.Prelude.{vec_capacity}
use Rattle.spool_types.specs.declared.event.Event.TheVariants.{Stage}
use Rattle.child_pipeline.specs.StageSlots.{end_in}
use Rattle.std.specs.Option.{option_or}
use Rattle.print_rounds.specs.Counts.{ending_fault, report_events, report_fault, told_by, told_in}
use Rattle.print_rounds.specs.Happenings.{HaveHappened, happenings_of}
use Rattle.print_rounds.proofs.HappenedLaws.{end_happened}
use Rattle.print_rounds.specs.RunStates.{Ending, run_state}
use Rattle.print_rounds.proofs.TraceLaws.{ends_settled, more_ends, one_count, one_fault, one_further}
use Rattle.print_rounds.proofs.ends.end_stages.Goals as goal

pub end_stage-report-requires : goal.end_stage-report-requires
end_stage-report-requires g c =
    let before = run_state c.args.spool.now c.args.runner.now (g.C.Children.tells c.args.children.now) in
    let now = run_state c.loop-job.spool c.loop-job.runner (g.C.Children.tells c.loop-job.children) in
    let (es, ends, jobs, count, fault, noted) = c.loop-job.invariant.ends in
    record { settled = ends_settled g.D.Disk.device before es now c.requires.settled ends }

pub loop-job-preserved : goal.loop-job-preserved
loop-job-preserved g c =
    let before = run_state c.args.spool.now c.args.runner.now (g.C.Children.tells c.args.children.now) in
    let now = run_state c.loop-job.spool c.loop-job.runner (g.C.Children.tells c.loop-job.children) in
    let next = run_state c.end_stage-report.new.spool c.end_stage-report.new.runner (g.C.Children.tells c.end_stage-report.new.children) in
    let (es, ends, jobs, count, fault, noted) = c.loop-job.invariant.ends in
    let capacity = c.loop-job.invariant.capacity in
    let (kept, is) = c.end_stage-report.ensures in
    let end : Ending g.row.D.Denot = record { job = c.job-item.result; kept = kept; report = c.end_stage-report.result; next = next } in
    record {
      ends = (
        es ++ end ∷ [],
        more_ends g.D.Disk.device before now es end ends is,
        one_further (λ (e : Ending g.row.D.Denot). e.job) es end c.args.jobs.now c.loop-job.job-index c.job-item.result jobs c.loop-job-test.true c.job-item.is refl,
        ap (λ n. n + c.told-told.result) count ∙ ap (λ n. told_in es + n) c.told-told.ensures.value ∙ sym (one_count (λ (e : Ending g.row.D.Denot). told_by e.report) es end),
        c.or-fault.ensures ∙ ap (λ f. option_or f c.fault.result) fault ∙ ap (option_or (ending_fault es)) c.fault.ensures ∙ sym (one_fault (λ (e : Ending g.row.D.Denot). report_fault e.report) es end),
        end_happened (vec_capacity c.args.happened.now) c.loop-job.job-index es end c.args.happened.now.items c.loop-job.happened.items c.note_end.new.happened.items noted
            (subst (λ n. HaveHappened n 1 c.loop-job.happened.items c.note_end.new.happened.items (happenings_of (report_events (Stage (end_in kept.slots c.job-item.result)) c.end_stage-report.result))) capacity (c.note_end.ensures.noted (end_in kept.slots c.job-item.result) refl)),
      );
      few = omega (arith, c.loop-job.invariant.few, c.told-told.ensures.at_most);
      capacity = c.note_end.ensures.capacity ∙ capacity;
    }
