use Rattle.std.proofs.Common.{◌≡◌, ◌∙◌, [], ◌∷◌, ◌++◌, List, ap, subst, sym, take}
use Rattle.std.proofs.lemmas.List.{take_more}
use Rattle.std.specs.IoError.{error_kind}
use Rattle.std.specs.declared.io.ErrorKind.TheVariants.{OutOfMemory}
use Rattle.program_lists.specs.declared.kinds.BackendNameKind.{BackendNameKind}
use Rattle.program_lists.specs.declared.line.Listed.{Listed}
use Rattle.spool_runtime.specs.DeviceLines.{PrintsTold}
use Rattle.spool_runtime.proofs.PrintLaws.{asked_more, no_memory}
use Rattle.spool_runtime.proofs.devices.print_devices.Goals as goal

pub loop-backend-preserved : goal.loop-backend-preserved
loop-backend-preserved g c =
    let all = c.backends-backend-items.result.now in
    let i = c.loop-backend.backend-index in
    subst (λ (backends : List (Listed BackendNameKind)). PrintsTold (g.D.Discovery.tells c.args.discovery.now) backends (g.W.Write.contents c.args.writer.now) (g.W.Write.contents c.print_told.new.writer))
    (ap (λ (backend : Listed BackendNameKind). take i all ++ backend ∷ []) c.backend-item.is ∙ sym (take_more all i c.backend-item.result c.loop-backend-test.true))
    (asked_more (λ text. text.items) (λ e. error_kind e ≡ OutOfMemory) c.ask-told.result (g.D.Discovery.tells c.args.discovery.now) _ c.backend-item.result _ _ _ c.loop-backend.invariant
    c.ask-told.ensures.text c.ask-told.ensures.none c.in_ok-print_told.ensures.lines c.in_ok-print_told.ensures.nothing
    (no_memory (λ e. error_kind e ≡ OutOfMemory) c.ask-told.result _ _ c.in_ok-print_told.ensures.memory))
