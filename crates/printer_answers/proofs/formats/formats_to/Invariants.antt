-- The types so far from which a chain leads to the type of the queue.
use Rattle.std.proofs.Common.{◌≡◌, take}
use Rattle.std.specs.Prelude.{filter}
use Rattle.printer_answers.specs.PrinterAnswers.{leads_to}
use Rattle.printer_answers.proofs.formats.formats_to.Given as goal

abbrev pub invariant-loop-media : goal.invariant-loop-media
invariant-loop-media l = l.formats.items ≡ filter (leads_to l.convs l.to) (take l.media-index l.types)
