-- The numbers of the operations so far.
use Rattle.std.proofs.Common.{◌≡◌, map, take}
use Rattle.ipp_names.specs.IppOperations.{operation_number}
use Rattle.ipp_answers.specs.AnswerValues.{enum_of}
use Rattle.printer_answers.proofs.printer_values.operations.Given as goal

abbrev pub invariant-loop-operation : goal.invariant-loop-operation
invariant-loop-operation l = l.values ≡ map (λ operation. enum_of (operation_number operation)) (take l.operation-index l.all)
