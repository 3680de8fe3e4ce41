-- A prepared stage is due, and is started with the document that was read for it.
use Rattle.std.proofs.Common.{◌≡◌, false, true, None, Err, refl, sym, ap, subst, ◌∙◌}
use Rattle.spool_types.specs.State.{State, job_at, queue_at}
use Rattle.child_pipeline.specs.StageSlots.{slot_in}
use Rattle.print_rounds.specs.Launches.{IsPrepared, IsUnprepared, IsDocumentFor, has_output}
use Rattle.print_rounds.specs.declared.outcome.Launch.TheVariants.{Unlaunched, NoMemory}
use Rattle.print_rounds.proofs.PrepareLaws.{unprepared_as, prepared_as, broken_as}
use Rattle.print_rounds.proofs.ReadLaws.{calm_rest, calm_memory, still_read, dead_read, document_unread, document_state, document_broken, broken_read, launched_from}
use Rattle.print_rounds.proofs.launches.launch.Goals as goal

pub returns-then-is_dead : goal.returns-then-is_dead
returns-then-is_dead g c = (None, (refl, refl, refl), dead_read g.D.Disk.device g.met.D.Disk.lawful c.args.spool.now c.args.job (sym c.is_dead.ensures ∙ c.if-is_dead.true))

pub returns-in-Ok-false : goal.returns-in-Ok-false
returns-in-Ok-false g c =
    let rests = subst (λ b. IsPrepared c.table.result.now.state c.args.runner.now c.args.job b c.prepare.new.runner) c.in-Ok-false.field-0-test c.in-Ok-false.ensures.ok in
    let (rest, same) = subst (λ (s : State). IsPrepared s c.args.runner.now c.args.job false c.prepare.new.runner) c.table.ensures.table rests in (
      None,
      (rest, refl, same, refl),
      still_read g.D.Disk.device g.met.D.Disk.lawful c.args.spool.now c.args.spool.now c.args.job Unlaunched (sym c.is_dead.ensures ∙ c.if-is_dead.false) calm_rest refl,
    )

pub returns-in-Err : goal.returns-in-Err
returns-in-Err g c = (
  None,
  unprepared_as c.args.place.now c.args.spool.now.state c.args.runner.now (g.C.Children.tells c.args.children.now) c.args.job c.prepare.new.runner
      (subst (λ (s : State). IsUnprepared s c.args.runner.now c.args.job c.prepare.new.runner) c.table.ensures.table c.in-Err.ensures.err),
  still_read g.D.Disk.device g.met.D.Disk.lawful c.args.spool.now c.args.spool.now c.args.job NoMemory (sym c.is_dead.ensures ∙ c.if-is_dead.false) calm_memory refl,
)

pub returns-in-Ok : goal.returns-in-Ok
returns-in-Ok g c =
    let own = c.prepare.new.runner in
    let due = subst (λ b. IsPrepared c.table.result.now.state c.args.runner.now c.args.job b own) c.in-Ok-true.field-0-test c.in-Ok-true.ensures.ok in
    let prepared = subst (λ (s : State). IsPrepared s c.args.runner.now c.args.job true own) c.table.ensures.table due in
    let output = has_output (slot_in own c.args.job).progress in
    let table : c.table-in-Ok.result.now.state ≡ c.args.spool.now.state = c.table-in-Ok.ensures.table ∙ document_state g.D.Disk.device c.args.spool.now c.args.job c.in-Ok.document c.document.new.spool output c.in-Ok.ensures in
    launched_from g.D.Disk.device g.met.D.Disk.lawful c.args.place.now c.args.spool.now c.document.new.spool c.args.runner.now (g.C.Children.tells c.args.children.now) c.args.job own c.in-Ok.document c.start.result c.start.new.runner (g.C.Children.tells c.start.new.children)
    (sym c.is_dead.ensures ∙ c.if-is_dead.false) (c.requires.settled (sym c.is_dead.ensures ∙ c.if-is_dead.false)) prepared output refl c.in-Ok.ensures
    (λ r q row queue. c.start.ensures r q (ap (λ (s : State). job_at s c.args.job) table ∙ row) (ap (λ (s : State). queue_at s r.queue) table ∙ queue))

pub returns-in-Err-Memory : goal.returns-in-Err-Memory
returns-in-Err-Memory g c =
    let own = c.prepare.new.runner in
    let due = subst (λ b. IsPrepared c.table.result.now.state c.args.runner.now c.args.job b own) c.in-Ok-true.field-0-test c.in-Ok-true.ensures.ok in
    let output = has_output (slot_in own c.args.job).progress in
    let same = document_unread g.D.Disk.device c.args.spool.now c.args.job c.document.new.spool output
    (subst (λ f. IsDocumentFor g.D.Disk.device c.args.spool.now c.args.job output (Err f) c.document.new.spool) c.in-Err-Memory.field-0-is c.in-Err-Memory.ensures) in (
      None,
      prepared_as c.args.place.now c.args.spool.now.state c.args.runner.now (g.C.Children.tells c.args.children.now) c.args.job own (subst (λ (s : State). IsPrepared s c.args.runner.now c.args.job true own) c.table.ensures.table due),
      still_read g.D.Disk.device g.met.D.Disk.lawful c.args.spool.now c.document.new.spool c.args.job NoMemory (sym c.is_dead.ensures ∙ c.if-is_dead.false) calm_memory same,
    )

pub returns-in-Err-Disk : goal.returns-in-Err-Disk
returns-in-Err-Disk g c =
    let own = c.prepare.new.runner in
    let due = subst (λ b. IsPrepared c.table.result.now.state c.args.runner.now c.args.job b own) c.in-Ok-true.field-0-test c.in-Ok-true.ensures.ok in
    let output = has_output (slot_in own c.args.job).progress in
    let broken = document_broken g.D.Disk.device c.args.spool.now c.args.job c.document.new.spool output
    (subst (λ f. IsDocumentFor g.D.Disk.device c.args.spool.now c.args.job output (Err f) c.document.new.spool) c.in-Err-Disk.field-0-is c.in-Err-Disk.ensures) in (
      None,
      broken_as c.args.place.now c.args.spool.now.state c.args.runner.now (g.C.Children.tells c.args.children.now) c.args.job own (subst (λ (s : State). IsPrepared s c.args.runner.now c.args.job true own) c.table.ensures.table due),
      broken_read g.D.Disk.device c.args.spool.now c.document.new.spool c.args.job (sym c.is_dead.ensures ∙ c.if-is_dead.false) broken,
    )
