use Rattle.std.proofs.Common.{arith}
use Rattle.std.proofs.lemmas.Grind.{common_steps}
use Rattle.std.proofs.lemmas.List.Elements.{filter-append}
use Rattle.printer_answers.proofs.formats.formats_to.Goals as goal

pub loop-media-preserved : goal.loop-media-preserved
loop-media-preserved c = grind (arith, common_steps, filter-append)
