use Rattle.std.proofs.Common.{◌≡◌, [], Some, take, drop}
use Rattle.mime_rules.specs.Patterns.{pieces_in}
use Rattle.mime_rules.proofs.pattern.cut_set.Given as goal

abbrev pub invariant-loop-i : goal.invariant-loop-i
invariant-loop-i l = pieces_in (Some (take l.i l.text)) (drop l.i l.text) ≡ pieces_in (Some []) l.text
