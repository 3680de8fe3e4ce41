use Rattle.std.proofs.Common.{◌≡◌, ◌++◌, ℕ, List, length, replicate, arith, append_assoc}
use Rattle.std.proofs.lemmas.Grind.{common_steps}
use Rattle.std.proofs.lemmas.List.{length-replicate}
use Rattle.spool_types.specs.declared.version.Version.TheVariants.{Two}
use Rattle.spool_types.specs.declared.listing.Row.TheVariants.{Piece}
use Rattle.event_codec.specs.RowSpelling.{row_spelling}
use Rattle.listing_rows.proofs.RowLaws.{is_put}
use Rattle.listing_rows.proofs.block.put_piece.Goals as goal

pub returns-clause-put : goal.returns-clause-put
returns-clause-put c =
    let zeros : List ℕ = replicate c.args.count 0 in
    let size : length zeros ≡ c.args.count = length-replicate c.args.count 0 in
    let spelled : c.put_zeros.new.block.items ≡ c.begin_record-start.new.block.items ++ row_spelling Two (Piece c.args.job zeros) = grind (arith, common_steps, append_assoc, size) in
    is_put (Piece c.args.job zeros) c.args.block.now c.begin_record-start.new.block c.put_zeros.new.block c.begin_record-start.result
    c.begin_record-start.ensures.start c.begin_record-start.ensures.items spelled (omega (arith, c.begin_record-start.ensures.spare, c.put.ensures.spare, c.put_zeros.ensures.spare)) (omega (arith, size))
