use Rattle.std.proofs.Common.{◌≡◌, ◌++◌, take, drop}
use Rattle.mime_rules.specs.RuleReading.{before, from}
use Rattle.mime_rules.specs.TestArguments.{is_close}
use Rattle.mime_rules.proofs.arguments.cut_at_close.Given as goal

abbrev pub invariant-loop-i : goal.invariant-loop-i
invariant-loop-i l = record { word : take l.i l.line ++ before is_close (drop l.i l.line) ≡ before is_close l.line; rest : from is_close (drop l.i l.line) ≡ from is_close l.line }
