-- No row so far has a device.
use Rattle.std.proofs.Common.{◌≡◌, drop}
use Rattle.front_texts.specs.Lpstat.{device_in}
use Rattle.front_texts.proofs.queue_fields.device_in.Given as goal

abbrev pub invariant-loop-row : goal.invariant-loop-row
invariant-loop-row l = device_in (λ row. row.items) (drop l.row-index l.rows) ≡ device_in (λ row. row.items) l.rows
