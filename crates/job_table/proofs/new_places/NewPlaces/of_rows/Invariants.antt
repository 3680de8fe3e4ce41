-- The documents so far are those of the visited rows.
use Rattle.std.proofs.Common.{map}
use Rattle.job_table.specs.Lanes.{AreBeside}
use Rattle.job_table.specs.Noted.{IsNewOf}
use Rattle.job_table.proofs.new_places.NewPlaces.of_rows.Given as goal

abbrev pub invariant-loop-row : goal.invariant-loop-row
invariant-loop-row l = AreBeside IsNewOf (map (λ row. row.now) l.yielded) l.documents.items
