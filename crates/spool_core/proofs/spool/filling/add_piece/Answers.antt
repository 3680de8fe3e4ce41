use Rattle.std.proofs.Common.{◌∙◌, ◌+◌, ◌-◌, ◌∷◌, [], ℕ, length, take, drop, refl, ap, arith}
use Rattle.std.specs.Vec.{with_items}
use borrow.Rule.Slice.PartMut.{put_mid}
use Rattle.spool_types.specs.declared.listing.Row.TheVariants.{Piece}
use Rattle.spool_areas.specs.declared.fault.AreaFault.TheVariants as areas
use Rattle.documents.specs.Documents.{joined}
use Rattle.job_table.specs.Contents.{places_at}
use Rattle.listing_rows.specs.RowFilling.{filling_at}
use Rattle.listing_rows.proofs.RowLaws.{put_adds, put_back, put_on}
use Rattle.spool_core.proofs.AddLaws.{read_adds, read_failed, read_then}
use Rattle.spool_core.proofs.FillLaws.{into_long, into_was, piece_put, piece_spellable}
use Rattle.spool_core.proofs.ListingLaws.{on_ok}
use Rattle.spool_core.proofs.spool.filling.add_piece.Goals as goal

pub returns-in-Err-clause-on : goal.returns-in-Err-clause-on
returns-in-Err-clause-on g c = read_failed g.D.Disk.device g.met.D.Disk.lawful (filling_at c.args.areas.now c.args.filler.now) _ c.in-Err.field-0 areas.Disk c.in-Err.ensures.read

pub returns-clause-on : goal.returns-clause-on
returns-clause-on g c =
    let v = g.D.Disk.device in
    let lawful = g.met.D.Disk.lawful in
    let a = c.args.areas.now in
    let filler = c.args.filler.now in
    let mid = c.read_piece.new.areas in
    let lent = c.deref_mut.result.now in
    let into = c.read_piece.new.into in
    let put = c.put_piece-start.new.block in
    let start = c.put_piece-start.result in
    let rest = length lent - (start + 14) in
    let block = with_items put (put_mid (start + 14) rest lent into) in
    let is = piece_put c.args.job c.args.count start filler.block put block lent into rest c.put_piece-start.ensures.put c.deref_mut.ensures.value refl c.read_piece.auto.into refl (omega arith) in
    let f = filling_at a filler in
    let end = filling_at c.end_record.new.areas c.end_record.new.filler in
    read_then v lawful f end mid c.in-Ok.ensures.read c.end_record.result (put_on v mid filler.gate (Piece c.args.job into) filler.block block start is end c.end_record.result c.end_record.ensures.on)

pub returns-clause-added : goal.returns-clause-added
returns-clause-added g c =
    let v = g.D.Disk.device in
    let lawful = g.met.D.Disk.lawful in
    let a = c.args.areas.now in
    let filler = c.args.filler.now in
    let mid = c.read_piece.new.areas in
    let lent = c.deref_mut.result.now in
    let into = c.read_piece.new.into in
    let put = c.put_piece-start.new.block in
    let start = c.put_piece-start.result in
    let rest = length lent - (start + 14) in
    let block = with_items put (put_mid (start + 14) rest lent into) in
    let is = piece_put c.args.job c.args.count start filler.block put block lent into rest c.put_piece-start.ensures.put c.deref_mut.ensures.value refl c.read_piece.auto.into refl (omega arith) in
    let f = filling_at a filler in
    let end = filling_at c.end_record.new.areas c.end_record.new.filler in
    let piece = c.put_piece-start.ensures.put in
    let long = into_long c.args.job c.args.count start filler.block put block lent into rest piece c.deref_mut.ensures.value refl c.read_piece.auto.into in
    let was = into_was c.args.job c.args.count start filler.block put block lent into rest piece c.deref_mut.ensures.value refl c.read_piece.auto.into in
    let spellable = piece_spellable c.args.job c.args.count start filler.block put block lent into rest piece c.deref_mut.ensures.value refl c.read_piece.auto.into c.put_piece-start.ensures.spellable in
    on_ok c.end_record.result c.end_record.ensures.added
    (λ adds. record {
      bytes = into;
      long = long;
      told = λ r tells. c.in-Ok.ensures.data r tells ∙ ap (λ (n : ℕ). take n (drop c.args.at (joined r (places_at c.args.table.now c.args.job)))) was;
      adds = read_adds v lawful f end mid c.in-Ok.ensures.read (Piece c.args.job into ∷ [])
          (put_adds v mid filler.gate (Piece c.args.job into) filler.block block start is end (adds (Piece c.args.job into) (put_back (Piece c.args.job into) filler.block block start is) spellable));
    })
