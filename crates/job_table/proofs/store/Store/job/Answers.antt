-- The row that was read is the one in the map.
use Rattle.std.proofs.Common.{◌≡◌, [], true, None, Some, Option, ap, ◌∙◌}
use Rattle.std.specs.Prelude.{IfSome}
use Rattle.std.specs.Borrow.{Bor}
use Rattle.std.specs.FinMap as finite
use Rattle.extents.specs.Extents.{size_of}
use Rattle.spool_types.specs.Phases.{has_ended}
use Rattle.spool_types.specs.declared.rows.JobRow.{JobRow}
use Rattle.job_rows.specs.NumberedRows.{HasRow}
use Rattle.job_table.specs.Contents.{places_at}
use Rattle.job_table.specs.DocumentLengths.{document_len}
use Rattle.job_table.proofs.Numbered.{looked_at}
use Rattle.job_table.proofs.Steps.{row_seen}
use Rattle.job_table.proofs.store.Store.job.Goals as goal

pub returns-clause-row : goal.returns-clause-row
returns-clause-row c =
    looked_at c.self.inside.jobs c.self.invariant.own c.self.invariant.jobs c.args.id c.get.result c.get.ensures.found c.get.ensures.absent
    ∙ ap (λ v. finite.get v.state.jobs c.args.id) c.self.view_is

pub returns-clause-places : goal.returns-clause-places
returns-clause-places c = each c.get.result c.get.ensures.found
  where
    each : (o : Option (Bor JobRow)) → IfSome o (λ row. HasRow c.self.inside.jobs c.args.id row.now) → IfSome o (λ r. r.now.document.items ≡ places_at c.args.self.now c.args.id)
    each None found = tt
    each (Some r) found = (row_seen c.self.inside c.self.invariant c.args.id r.now found).places ∙ ap (λ v. places_at v c.args.id) c.self.view_is

pub returns-clause-sized : goal.returns-clause-sized
returns-clause-sized c = each c.get.result c.get.ensures.found
  where
    each : (o : Option (Bor JobRow)) → IfSome o (λ row. HasRow c.self.inside.jobs c.args.id row.now) → IfSome o (λ r. size_of r.now.document.items ≡ document_len r.now.job)
    each None found = tt
    each (Some r) found = (row_seen c.self.inside c.self.invariant c.args.id r.now found).sized

pub returns-clause-ended : goal.returns-clause-ended
returns-clause-ended c = each c.get.result c.get.ensures.found
  where
    each : (o : Option (Bor JobRow)) → IfSome o (λ row. HasRow c.self.inside.jobs c.args.id row.now) → IfSome o (λ r. has_ended r.now.job.phase ≡ true → r.now.document.items ≡ [])
    each None found = tt
    each (Some r) found = (row_seen c.self.inside c.self.invariant c.args.id r.now found).ended
