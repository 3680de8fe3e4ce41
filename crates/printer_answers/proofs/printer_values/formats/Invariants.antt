-- The types so far that clients may use, after that of octets.
use Rattle.std.proofs.Common.{◌≡◌, ◌∷◌, map, take}
use Rattle.std.specs.Prelude.{filter}
use Rattle.ipp_answers.specs.AnswerValues.{type_value}
use Rattle.printer_answers.specs.PrinterAnswers.{is_told, octet_stream}
use Rattle.printer_answers.proofs.printer_values.formats.Given as goal

abbrev pub invariant-loop-format : goal.invariant-loop-format
invariant-loop-format l = l.values ≡ type_value octet_stream ∷ map type_value (filter is_told (take l.format-index l.formats))
