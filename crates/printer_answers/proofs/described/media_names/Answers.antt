use Rattle.std.proofs.Common.{arith}
use Rattle.std.proofs.lemmas.Grind.{common_steps}
use Rattle.std.proofs.lemmas.List.{map-append}
use Rattle.printer_answers.proofs.described.media_names.Goals as goal

pub loop-size-preserved : goal.loop-size-preserved
loop-size-preserved c = grind (arith, common_steps, map-append)
