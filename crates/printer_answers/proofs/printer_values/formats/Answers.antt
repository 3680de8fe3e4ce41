use Rattle.std.proofs.Common.{arith}
use Rattle.std.proofs.lemmas.Grind.{common_steps}
use Rattle.std.proofs.lemmas.List.{map-append}
use Rattle.std.proofs.lemmas.List.Elements.{filter-append}
use Rattle.printer_answers.proofs.printer_values.formats.Goals as goal

pub loop-format-preserved : goal.loop-format-preserved
loop-format-preserved c = grind (arith, common_steps, map-append, filter-append)
