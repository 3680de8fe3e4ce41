use Rattle.std.proofs.Common.{true, false, Some, refl, sym, subst, ◌∙◌}
use Rattle.child_pipeline.specs.StageSlots.{IsNextJob}
use Rattle.print_rounds.specs.StageChecks.{Dropping, IsDropped, IsLook}
use Rattle.print_rounds.proofs.LookLaws.{AreDroppedTo, all_dropped, none_dropped, dropped_same, passes, seen_to}
use Rattle.print_rounds.proofs.looks.drop_strays.Goals as goal
use Rattle.print_rounds.proofs.looks.drop_strays.Goals.{then-is_stray+then-is_ripe, else-is_stray, else-is_stray-via-then-is_stray+else-is_ripe, else-is_stray-via-else-is_stray}

pub loop-job-init : goal.loop-job-init
loop-job-init g c = none_dropped c.args.waits c.args.table.now.state c.args.runner.now (g.C.Children.tells c.args.children.now)

pub loop-job-preserved : goal.loop-job-preserved
loop-job-preserved g c =
    let tells = g.C.Children.tells in
    let waits = c.args.waits in
    let s = c.args.table.now.state in
    let old = c.args.runner.now in
    let told = tells c.args.children.now in
    let behind = c.loop-job.behind in
    let now = c.loop-job.runner in
    let told' = tells c.loop-job.children in
    let job = c.in-Some.job in
    let next : IsNextJob now behind (Some job) = subst (IsNextJob now behind) c.in-Some.is c.next_job.ensures in
    elim c.if-is_stray.branch [
      | then-is_stray+then-is_ripe w ↦
          let looked = tells w.is_ripe.new.children in
          let d : Dropping = record { look = record { job = job; ripe = true; told = looked }; slots = w.drop_child.new.runner; told = tells w.drop_child.new.children } in
          let look : IsLook waits now told' d.look = subst (λ b. IsLook waits now told' (record { job = job; ripe = b; told = looked })) w.if-is_ripe.true w.is_ripe.ensures.look in
          let dropped : IsDropped true now job looked d.slots d.told = subst (λ m. IsDropped true m job looked d.slots d.told) w.is_ripe.ensures.slots w.drop_child.ensures in
          let (kept, finishes, gone) = dropped in
          subst (λ m. AreDroppedTo waits s old told (Some job) m (tells c.if-is_stray.children)) (sym w.runner-is)
          (subst (λ ch. AreDroppedTo waits s old told (Some job) d.slots (tells ch)) (sym w.children-is)
          (seen_to waits s old told behind now told' c.loop-job.invariant job next (sym c.is_stray.ensures ∙ w.if-is_stray.true) d refl (look, dropped) (dropped_same looked now kept d.slots job d.told finishes gone)))
      | else-is_stray w ↦ elim w.else-is_stray.branch [
        | else-is_stray-via-then-is_stray+else-is_ripe w' ↦
            let looked = tells w'.is_ripe.new.children in
            let d : Dropping = record { look = record { job = job; ripe = false; told = looked }; slots = now; told = looked } in
            let look : IsLook waits now told' d.look = subst (λ b. IsLook waits now told' (record { job = job; ripe = b; told = looked })) w'.if-is_ripe.false w'.is_ripe.ensures.look in
            subst (λ m. AreDroppedTo waits s old told (Some job) m (tells c.if-is_stray.children)) (sym (w.runner-is ∙ w'.runner-is ∙ w'.is_ripe.ensures.slots))
            (subst (λ ch. AreDroppedTo waits s old told (Some job) now (tells ch)) (sym (w.children-is ∙ w'.children-is))
            (seen_to waits s old told behind now told' c.loop-job.invariant job next (sym c.is_stray.ensures ∙ w'.if-is_stray.true) d refl (look, (refl, refl)) (λ j other. refl)))
        | else-is_stray-via-else-is_stray w' ↦
            subst (λ m. AreDroppedTo waits s old told (Some job) m (tells c.if-is_stray.children)) (sym (w.runner-is ∙ w'.runner-is))
            (subst (λ ch. AreDroppedTo waits s old told (Some job) now (tells ch)) (sym (w.children-is ∙ w'.children-is))
            (passes waits s old told behind now told' c.loop-job.invariant job next (sym c.is_stray.ensures ∙ w'.if-is_stray.false)))
      ]
    ]

pub returns : goal.returns
returns g c =
    let tells = g.C.Children.tells in
    all_dropped c.args.waits c.args.table.now.state c.args.runner.now (tells c.args.children.now) c.loop-job.behind c.loop-job.runner (tells c.loop-job.children) c.loop-job.invariant
    (subst (IsNextJob c.loop-job.runner c.loop-job.behind) c.in_default.is c.next_job.ensures)
