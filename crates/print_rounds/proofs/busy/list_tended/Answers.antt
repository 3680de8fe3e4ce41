use Rattle.std.proofs.Common.{rules, tests, ◌≡◌, ◌≤◌, ◌<◌, ◌+◌, not, true, false, cond, [], ◌∷◌, length, take, vec_len, ◌++◌, arith, sym, subst, ap, ◌∙◌, append-nil}
use Rattle.std.specs.Prelude.{vec_capacity}
use Rattle.std.specs.FinMap as finite
use Rattle.std.proofs.lemmas.List.{take_all}
use Rattle.job_table.specs.Attempts.{busy_of}
use Rattle.print_rounds.specs.Choice.{busy_jobs}
use Rattle.print_rounds.specs.Finished.{AreDistinct}
use Rattle.print_rounds.specs.StageChecks.{is_stray, tended_jobs}
use Rattle.print_rounds.proofs.BusyLaws.{all_distinct, part_distinct, tended_further, tended_of}
use Rattle.print_rounds.proofs.StartLaws.{name_at, queue_count}
use Rattle.print_rounds.proofs.busy.list_tended.Goals as goal
use Rattle.print_rounds.proofs.busy.list_tended.Goals.{in-Some+then-not-is_stray, in-Some+else-not-is_stray, in_default}

pub loop-queue-preserved : goal.loop-queue-preserved
loop-queue-preserved g c =
    let s = c.args.table.now.state in
    let slots = c.args.runner.now in
    let names = finite.keys s.queues in
    let rows = c.queues-queue-items.result.now in
    let i = c.loop-queue.queue-index in
    let name = c.queue-item.result.name in
    let at = name_at rows names c.queues-queue-items.ensures.names i c.queue-item.result c.queue-item.is in
    let lt : i < length names = subst (λ n. i < n) (queue_count rows names c.queues-queue-items.ensures.names) c.loop-queue-test.true in
    let further = tended_further s slots names i name lt at in
    let as_before : tended_of s slots (busy_of s name) ≡ [] → c.loop-queue.jobs.items ≡ tended_jobs s slots (take (i + 1) names) =
    λ none. c.loop-queue.invariant.jobs ∙ sym (append-nil (tended_jobs s slots (take i names))) ∙ ap (λ js. tended_jobs s slots (take i names) ++ js) (sym none) ∙ sym further in
    elim c.match-processing.branch [
      | in-Some+then-not-is_stray w ↦
          let off : w.is_stray.result ≡ false = search (rules, tests, w.if-not-is_stray.true) in
          let one : tended_of s slots (busy_of s name) ≡ w.in-Some.job ∷ [] =
          ap (tended_of s slots) (sym c.processing.ensures ∙ w.in-Some.is) ∙ ap (λ b. cond (not b) (w.in-Some.job ∷ []) []) (sym w.is_stray.ensures ∙ off) in
          record {
            jobs = ap (λ v. v.items) w.jobs-is ∙ w.push_reserved.ensures.items ∙ ap (λ js. js ++ w.in-Some.job ∷ []) c.loop-queue.invariant.jobs ∙ ap (λ js. tended_jobs s slots (take i names) ++ js) (sym one) ∙ sym further;
            few = let len = ap vec_len w.jobs-is ∙ w.push_reserved.ensures.len in let few = c.loop-queue.invariant.few in omega (arith, len, few);
            room = ap vec_capacity w.jobs-is ∙ w.push_reserved.ensures.capacity ∙ c.loop-queue.invariant.room;
          }
      | in-Some+else-not-is_stray w ↦
          let on : w.is_stray.result ≡ true = search (rules, tests, w.if-not-is_stray.false) in
          let none : tended_of s slots (busy_of s name) ≡ [] =
          ap (tended_of s slots) (sym c.processing.ensures ∙ w.in-Some.is) ∙ ap (λ b. cond (not b) (w.in-Some.job ∷ []) []) (sym w.is_stray.ensures ∙ on) in
          record {
            jobs = ap (λ v. v.items) w.jobs-is ∙ as_before none;
            few = let len = ap vec_len w.jobs-is in let few = c.loop-queue.invariant.few in omega (arith, len, few);
            room = ap vec_capacity w.jobs-is ∙ c.loop-queue.invariant.room;
          }
      | in_default w ↦ record {
        jobs = ap (λ v. v.items) w.jobs-is ∙ as_before (ap (tended_of s slots) (sym c.processing.ensures ∙ w.in_default.is));
        few = let len = ap vec_len w.jobs-is in let few = c.loop-queue.invariant.few in omega (arith, len, few);
        room = ap vec_capacity w.jobs-is ∙ c.loop-queue.invariant.room;
      }
    ]

pub returns-clause-distinct : goal.returns-clause-distinct
returns-clause-distinct g c =
    let s = c.args.table.now.state in
    let slots = c.args.runner.now in
    let names = finite.keys s.queues in
    let rows = c.queues-queue-items.result.now in
    let all = take_all c.loop-queue.queue-index names (subst (λ n. n ≤ c.loop-queue.queue-index) (queue_count rows names c.queues-queue-items.ensures.names) c.loop-queue-test.false) in
    subst AreDistinct (sym (c.loop-queue.invariant.jobs ∙ ap (tended_jobs s slots) all)) (part_distinct (λ j. not (is_stray s slots j)) (busy_jobs s names) (all_distinct s c.jobs-rows.ensures.found))
