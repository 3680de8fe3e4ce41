use Rattle.std.proofs.Common.{◌≡◌, ◌+◌, cond, [], ◌∷◌, ◌++◌, map, take, vec_len, arith, refl, sym, subst, ap, ◌∙◌, append-nil}
use Rattle.std.specs.Prelude.{vec_capacity}
use Rattle.print_rounds.specs.StageChecks.{Look, IsLook, ripe_in}
use Rattle.print_rounds.proofs.LookLaws.{more_looks, more_ripe}
use Rattle.print_rounds.proofs.TraceLaws.{one_further}
use Rattle.print_rounds.proofs.looks.list_ripe.Goals as goal
use Rattle.print_rounds.proofs.looks.list_ripe.Goals.{then-is_ripe, else-is_ripe}

pub loop-job-preserved : goal.loop-job-preserved
loop-job-preserved g c =
    let tells = g.C.Children.tells in
    let old = c.args.runner.now in
    let told = tells c.args.children.now in
    let before = tells c.loop-job.children in
    let jobs = c.args.jobs.now in
    let job = c.job-item.result in
    let (ls, looks, are, ripe) = c.loop-job.invariant.looks in
    let l : Look = record { job = job; ripe = c.is_ripe.result; told = tells c.is_ripe.new.children } in
    let look : IsLook c.args.waits old before l = subst (λ m. IsLook c.args.waits m before l) c.loop-job.invariant.slots c.is_ripe.ensures.look in
    let more = more_looks c.args.waits old told before ls l looks look in
    let all : map (λ (x : Look). x.job) (ls ++ l ∷ []) ≡ take (c.loop-job.job-index + 1) jobs = one_further (λ (x : Look). x.job) ls l jobs c.loop-job.job-index job are c.loop-job-test.true c.job-item.is refl in
    elim c.if-is_ripe.branch [
      | then-is_ripe w ↦ record {
        slots = c.is_ripe.ensures.slots ∙ c.loop-job.invariant.slots;
        looks = (
          ls ++ l ∷ [],
          more,
          all,
          ap (λ v. v.items) w.ripe-is ∙ w.push_reserved.ensures.items ∙ ap (λ rs. rs ++ job ∷ []) ripe ∙ sym (more_ripe ls l ∙ ap (λ b. ripe_in ls ++ cond b (job ∷ []) []) w.if-is_ripe.true),
        );
        few = let len = ap vec_len w.ripe-is ∙ w.push_reserved.ensures.len in let few = c.loop-job.invariant.few in omega (arith, len, few);
        room = ap vec_capacity w.ripe-is ∙ w.push_reserved.ensures.capacity ∙ c.loop-job.invariant.room;
      }
      | else-is_ripe w ↦ record {
        slots = c.is_ripe.ensures.slots ∙ c.loop-job.invariant.slots;
        looks = (
          ls ++ l ∷ [],
          more,
          all,
          ap (λ v. v.items) w.ripe-is ∙ ripe ∙ sym (append-nil (ripe_in ls)) ∙ sym (more_ripe ls l ∙ ap (λ b. ripe_in ls ++ cond b (job ∷ []) []) w.if-is_ripe.false),
        );
        few = let len = ap vec_len w.ripe-is in let few = c.loop-job.invariant.few in omega (arith, len, few);
        room = ap vec_capacity w.ripe-is ∙ c.loop-job.invariant.room;
      }
    ]
