-- A slot that is not gone has a row.
use Rattle.std.proofs.Common.{◌≡◌, ◌-◌, length, ap, subst, ◌∙◌, arith}
use Rattle.std.specs.List.Sorted.{IsStrictlyIncreasing}
use Rattle.job_rows.specs.NumberedRows.{Listed}
use Rattle.job_rows.specs.RowSlots.{held, numbers}
use Rattle.job_rows.proofs.Holding.{length_held, length_numbers}
use Rattle.job_rows.proofs.Ending.{ascending}
use Rattle.job_rows.proofs.rows.Rows.len.Goals as goal

pub returns-clause-numbers : goal.returns-clause-numbers
returns-clause-numbers c =
    let rest : c.len.result - c.self.inside.gone ≡ length (numbers c.self.inside.slots.items) = omega (arith, c.len.ensures, c.self.invariant.count, length_held c.self.inside.slots.items, length_numbers c.self.inside.slots.items) in
    rest ∙ ap (λ (v : Listed). length v.numbers) c.self.view_is

pub returns-clause-items : goal.returns-clause-items
returns-clause-items c =
    let rest : c.len.result - c.self.inside.gone ≡ length (held c.self.inside.slots.items) = omega (arith, c.len.ensures, c.self.invariant.count, length_held c.self.inside.slots.items) in
    rest ∙ ap (λ (v : Listed). length v.items) c.self.view_is

pub returns-clause-ascending : goal.returns-clause-ascending
returns-clause-ascending c = subst (λ (v : Listed). IsStrictlyIncreasing v.numbers) c.self.view_is (ascending c.self.inside.slots.items c.self.invariant.order)
