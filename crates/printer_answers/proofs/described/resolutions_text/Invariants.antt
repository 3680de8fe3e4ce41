-- The resolutions so far.
use Rattle.std.proofs.Common.{◌≡◌, ◌++◌, ◌∷◌, take}
use Rattle.std.specs.Prelude.{codes, string_bytes}
use Rattle.printer_answers.specs.PrinterAnswers.{joined}
use Rattle.printer_answers.proofs.described.resolutions_text.Given as goal

abbrev pub invariant-loop-other : goal.invariant-loop-other
invariant-loop-other l = string_bytes l.text ≡ codes "RS" ++ joined (l.fn.first ∷ take l.other-index l.others)
