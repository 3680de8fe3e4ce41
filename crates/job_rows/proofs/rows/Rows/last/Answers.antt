-- The last slot has the last row.
use Rattle.std.proofs.Common.{◌-◌, length, sym, ap, ◌∙◌}
use Rattle.std.specs.Prelude.{slice_get}
use Rattle.job_rows.specs.NumberedRows.{Listed}
use Rattle.job_rows.proofs.Ending.{last_of}
use Rattle.job_rows.proofs.rows.Rows.last.Goals as goal

pub returns : goal.returns
returns c =
    let slot = c.in_ok-last.field-0.now in
    c.row.ensures
    ∙ sym (last_of c.self.inside.slots.items slot c.self.invariant.last (sym (rw c.deref.ensures.value at c.in_ok-last.ensures.value)))
    ∙ ap (λ (v : Listed). slice_get v.items (length v.items - 1)) c.self.view_is
