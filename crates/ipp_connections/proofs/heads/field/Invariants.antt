-- The field is among those that follow.
use Rattle.std.proofs.Common.{◌≡◌, drop}
use Rattle.ipp_connections.specs.HeadParts.{field}
use Rattle.ipp_connections.proofs.heads.field.Given as goal

abbrev pub invariant-loop-field : goal.invariant-loop-field
invariant-loop-field l = field l.input (drop l.field-index l.fields) l.name ≡ field l.input l.fields l.name
