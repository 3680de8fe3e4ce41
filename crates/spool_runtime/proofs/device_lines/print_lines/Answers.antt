use Rattle.std.proofs.Common.{List, ℕ, Bor, sym, subst}
use Rattle.std.proofs.lemmas.List.{map_more}
use Rattle.spool_runtime.specs.DeviceLines.{PrintsDevices}
use Rattle.spool_runtime.proofs.PrintLaws.{prints_more}
use Rattle.spool_runtime.proofs.device_lines.print_lines.Goals as goal

pub loop-line-preserved : goal.loop-line-preserved
loop-line-preserved g c =
    subst (λ (lines : List (List ℕ)). PrintsDevices lines (g.W.Write.contents c.args.writer.now) (g.W.Write.contents c.print_if_device.new.writer))
    (sym (map_more (λ (line : Bor (List ℕ)). line.now) c.deref-line-items.result.now c.loop-line.line-index _ c.loop-line-test.true))
    (prints_more _ _ _ _ _ c.loop-line.invariant c.in_ok-print_if_device.ensures.line)
