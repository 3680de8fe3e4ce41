-- The types of the lines so far.
use Rattle.std.proofs.Common.{◌≡◌, ◌++◌, take}
use Rattle.std.specs.Prelude.{codes}
use Rattle.std.specs.List.{flat_map}
use Rattle.mime_lines.specs.LineFields.{line_of}
use Rattle.spool_types.specs.Values.{media_in}
use Rattle.spool_front.specs.ReachableTypes.{kind_of, listed}
use Rattle.spool_front.proofs.chains.kinds_in.Given as goal

abbrev pub invariant-loop-line : goal.invariant-loop-line
invariant-loop-line l = l.kinds.items ≡ listed (media_in (codes "application/octet-stream")) ++ flat_map (λ line. kind_of (line_of line)) (take l.line-index l.line-items)
