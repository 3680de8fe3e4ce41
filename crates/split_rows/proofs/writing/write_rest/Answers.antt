-- The last rows are written, and the header is opened.
use Rattle.std.proofs.Common.{◌≡◌, ◌∙◌, ℕ, ◌+◌, ◌-◌, sym, arith, ap}
use Rattle.listing_rows.proofs.RowLaws.{own_len}
use Rattle.spool_areas.specs.Checkpoint.{area_len, other_base, other_of}
use Rattle.split_rows.proofs.Written.{in_images}
use Rattle.split_rows.proofs.writing.write_rest.Goals as goal

pub write_rows-requires-clause-spare : goal.write_rows-requires-clause-spare
write_rows-requires-clause-spare g c = omega (arith, own_len c.args.filler.now.block, c.requires.may.few, c.requires.may.spare)

pub returns-in-Ok-open_other-clause-written : goal.returns-in-Ok-open_other-clause-written
returns-in-Ok-open_other-clause-written g c = λ x rows is epoch fills.
    let v = g.T.Disk.device in
    let same = c.write_rows.ensures.same in
    let other : other_base c.write_rows.new.self ≡ other_base c.args.areas.now = λ i. other_of (same.1 i - same.0 i) (same.0 i) in
    let len : area_len c.write_rows.new.self ≡ area_len c.args.areas.now = λ i. same.1 i - same.0 i in
    let changed = c.in-Ok-open_other.ensures.changed in
    let keeps = c.in-Ok-open_other.ensures.added x rows (is.other ∙ sym other) (is.len ∙ sym len) (epoch ∙ ap (λ (n : ℕ). n + 1) (sym same.2)) (c.in-Ok.ensures.added x rows is.other is.len fills) in
    in_images v c.open_other.new.self _ rows keeps (changed.0 ∙ other) changed.3
