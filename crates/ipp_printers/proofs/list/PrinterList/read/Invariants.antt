-- The sections of the lines so far, none of which has a fault.
use Rattle.std.proofs.Common.{◌≡◌, ℕ, ◌<◌, map, take, None}
use Rattle.ipp_printers.specs.PrinterSections.{sections_of, fault_at}
use Rattle.ipp_printers.proofs.LineLaws.{says}
use Rattle.ipp_printers.proofs.list.PrinterList.read.Given as goal

abbrev pub invariant-loop-i : goal.invariant-loop-i
invariant-loop-i l = record {
  sections : l.list ≡ sections_of (map says (take l.i l.line-items));
  faultless : (before : ℕ) → before < l.i → fault_at (map says l.line-items) before ≡ None;
}
