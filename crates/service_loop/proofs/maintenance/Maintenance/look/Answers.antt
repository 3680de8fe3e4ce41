-- The next ended job is listed, until there is none or the list is full.
use Rattle.std.proofs.Common.{◌≡◌, ◌+◌, suc, true, None, Some, length, refl, sym, ap, subst, ◌∙◌, arith}
use Rattle.std.specs.List.{slice_get}
use Rattle.spool_types.specs.State.{State}
use Rattle.job_table.specs.DueTimes.{ended_numbers, next_due}
use Rattle.service_loop.specs.Due.{AreListed}
use Rattle.service_loop.proofs.DueLaws.{all_listed, listed_next, none_listed}
use Rattle.service_loop.proofs.maintenance.Maintenance.look.Goals as goal

pub loop-at-init : goal.loop-at-init
loop-at-init g c =
    let numbers = ended_numbers c.args.shared.now.engine.run_state.spool.state in
    record {
      due = c.next_due-self.ensures ∙ ap next_due c.table-table.ensures;
      ended = c.ended_count-self.ensures ∙ ap (λ (s : State). length (ended_numbers s)) c.table-table.ensures;
      listed = subst (AreListed 0 numbers) (sym c.clear.ensures.items) (none_listed numbers);
      kept = refl;
    }

pub returns-in_default-clause-listed : goal.returns-in_default-clause-listed
returns-in_default-clause-listed g c =
    let s = c.args.shared.now.engine.run_state.spool.state in
    let none : slice_get (ended_numbers s) c.loop-at.at ≡ None =
    sym (ap (λ (t : State). slice_get (ended_numbers t) c.loop-at.at) c.table-table.ensures) ∙ sym c.in_default.ensures in
    all_listed c.loop-at.at 1024 (ended_numbers s) c.loop-at.self.listed.items (omega (arith, c.loop-at-test.true)) none c.loop-at.invariant.listed

pub loop-at-preserved : goal.loop-at-preserved
loop-at-preserved g c =
    let s = c.args.shared.now.engine.run_state.spool.state in
    let numbers = ended_numbers s in
    let at : slice_get numbers c.loop-at.at ≡ Some c.in-Some.id =
    sym (ap (λ (t : State). slice_get (ended_numbers t) c.loop-at.at) c.table-table.ensures) ∙ sym c.in-Some.ensures in
    let next : suc c.loop-at.at ≡ c.loop-at.at + 1 = omega arith in
    record {
      due = c.loop-at.invariant.due;
      ended = c.loop-at.invariant.ended;
      listed = subst (λ n. AreListed n numbers c.push.new.self.items) next
          (subst (AreListed (suc c.loop-at.at) numbers) (sym c.in_ok-push.ensures.items)
          (listed_next c.loop-at.at numbers c.loop-at.self.listed.items (record { id = c.in-Some.id; ended = true; runs = c.is_running-runs.result }) c.loop-at.invariant.listed at refl));
      kept = λ i. record (c.loop-at.invariant.kept i) { listed = c.push.new.self };
    }
