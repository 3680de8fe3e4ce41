-- The first slot with a row has the least number.
use Rattle.std.proofs.Common.{ap, ◌∙◌}
use Rattle.std.specs.Prelude.{slice_get}
use Rattle.job_rows.specs.NumberedRows.{Listed}
use Rattle.job_rows.specs.RowSlots.{first_number}
use Rattle.job_rows.proofs.Ending.{first_is}
use Rattle.job_rows.proofs.rows.Rows.first.Goals as goal

pub returns : goal.returns
returns c =
    c.first_number.ensures
    ∙ ap (λ xs. first_number xs) c.deref.ensures.value
    ∙ first_is c.self.inside.slots.items
    ∙ ap (λ (v : Listed). slice_get v.numbers 0) c.self.view_is
