-- The slot of the number has the row, or no such slot exists.
use Rattle.std.proofs.Common.{IsSome, None, subst}
use Rattle.std.specs.Prelude.{IfSome, IfNone, ◌↔◌}
use Rattle.std.specs.Borrow.{Bor}
use Rattle.std.specs.Ordering.{nat_cmp}
use Rattle.spool_types.specs.declared.rows.JobRow.{JobRow}
use Rattle.job_rows.specs.RowPositions.{IsPosition}
use Rattle.job_rows.specs.NumberedRows.{Listed, HasNumber, HasRow, LacksNumber}
use Rattle.job_rows.specs.RowSlots.{number_of, numbers}
use Rattle.job_rows.proofs.Holding.{looked_there, looked_absent, row_gap, lacks_there}
use Rattle.job_rows.proofs.Found.{looked_found}
use Rattle.job_rows.proofs.rows.Rows.get.Goals as goal

pub returns-in-Ok-clause-there : goal.returns-in-Ok-clause-there
returns-in-Ok-clause-there c =
    let place : IsPosition nat_cmp number_of c.self.inside.slots.items c.args.id c.in-Ok.at = rw c.deref.ensures.value at c.in-Ok.ensures.found in
    subst (λ (v : Listed). IsSome c.row.result ↔ HasNumber v.numbers c.args.id) c.self.view_is
    (looked_there c.self.inside.slots.items c.self.invariant.order c.args.id c.in-Ok.at c.index.result.now c.index.ensures place c.row.result c.row.ensures)

pub returns-in-Ok-clause-found : goal.returns-in-Ok-clause-found
returns-in-Ok-clause-found c =
    let place : IsPosition nat_cmp number_of c.self.inside.slots.items c.args.id c.in-Ok.at = rw c.deref.ensures.value at c.in-Ok.ensures.found in
    subst (λ (v : Listed). IfSome c.row.result (λ row. HasRow v c.args.id row.now)) c.self.view_is
    (looked_found c.self.inside c.self.invariant c.args.id c.in-Ok.at place c.index.result.now c.index.ensures c.row.result c.row.ensures)

pub returns-in-Ok-clause-absent : goal.returns-in-Ok-clause-absent
returns-in-Ok-clause-absent c =
    let place : IsPosition nat_cmp number_of c.self.inside.slots.items c.args.id c.in-Ok.at = rw c.deref.ensures.value at c.in-Ok.ensures.found in
    subst (λ (v : Listed). IfNone c.row.result (LacksNumber v.numbers c.args.id)) c.self.view_is
    (looked_absent c.self.inside.slots.items c.self.invariant.order c.args.id c.in-Ok.at c.index.result.now c.index.ensures place c.row.result c.row.ensures)

pub returns-in-Err-clause-there : goal.returns-in-Err-clause-there
returns-in-Err-clause-there c =
    subst (λ (v : Listed). IsSome {T = Bor JobRow} None ↔ HasNumber v.numbers c.args.id) c.self.view_is
    (lacks_there (numbers c.self.inside.slots.items) c.args.id (row_gap c.self.inside.slots.items c.self.invariant.order c.args.id c.in-Err.field-0 (rw c.deref.ensures.value at c.in-Err.ensures.absent)))

pub returns-in-Err-clause-absent : goal.returns-in-Err-clause-absent
returns-in-Err-clause-absent c =
    subst (λ (v : Listed). LacksNumber v.numbers c.args.id) c.self.view_is
    (row_gap c.self.inside.slots.items c.self.invariant.order c.args.id c.in-Err.field-0 (rw c.deref.ensures.value at c.in-Err.ensures.absent))
