use Rattle.std.proofs.Common.{◌≡◌, ◌∙◌, ◌+◌, ◌-◌, ◌<◌, ◌≤◌, ◌∷◌, ◌*◌, [], ℕ, List, length, map, min, replicate, cond, Ok, Err, refl, sym, subst, ap, arith}
use Rattle.extents.specs.declared.extent.Extent.{Extent}
use Rattle.spool_types.specs.Limits.{longest_send}
use Rattle.spool_types.specs.Phases.{has_ended}
use Rattle.spool_types.specs.State.{State, Job, job_at}
use Rattle.spool_types.specs.declared.listing.Row.TheVariants.{Job as JobRow, Piece}
use Rattle.job_table.specs.Contents.{move_room, places_at, places_of}
use Rattle.job_table.specs.DocumentLengths.{document_len}
use Rattle.job_table.specs.Listing.{pieces}
use Rattle.job_table.specs.Over.{is_over_by}
use Rattle.documents.specs.Documents.{LieIn}
use Rattle.listing_rows.specs.RowFilling.{filling_at, MayFill}
use Rattle.spool_core.specs.ListingFilling.{TellsBut, IsPieceAdded, IsPieceNoted}
use Rattle.spool_core.specs.OpenSpools.{len_found}
use Rattle.listing_rows.proofs.RowLaws.{end_room, end_short, end_spare, end_whole, err_on, put_adds, put_back, put_on}
use Rattle.spool_core.proofs.AddLaws.{may_first, then_on}
use Rattle.spool_core.proofs.ListedLaws.{lying_long}
use Rattle.spool_core.proofs.PartLaws.{IsPartAdded, due_row, lives_here, part_begun, part_next, part_noted, part_whole, piece_may, room_there}
use Rattle.spool_core.proofs.ReadOn.{told_size}
use Rattle.spool_core.proofs.spool.filling.add_job.Goals as goal

pub end_record-requires-clause-whole : goal.end_record-requires-clause-whole
end_record-requires-clause-whole g c =
    let v = g.D.Disk.device in
    let lawful = g.met.D.Disk.lawful in
    let a = c.args.areas.now in
    let filler = c.args.filler.now in
    let due = c.requires.due in
    let row = due.row in
    let f = filling_at a filler in
    let put = c.put_row-start.new.block in
    let start = c.put_row-start.result.0 in
    let is = c.put_row-start.ensures.put row due.there in
    let rest = map (λ bytes. Piece row.id bytes) (pieces (replicate (document_len row) 0)) in
    let may = may_first v lawful (JobRow row ∷ []) rest f due.may in
    end_whole v a filler.gate (JobRow row) filler.block put start may is c.requires.spare

pub end_record-requires-clause-short : goal.end_record-requires-clause-short
end_record-requires-clause-short g c =
    let v = g.D.Disk.device in
    let lawful = g.met.D.Disk.lawful in
    let a = c.args.areas.now in
    let filler = c.args.filler.now in
    let due = c.requires.due in
    let row = due.row in
    let f = filling_at a filler in
    let put = c.put_row-start.new.block in
    let start = c.put_row-start.result.0 in
    let is = c.put_row-start.ensures.put row due.there in
    let rest = map (λ bytes. Piece row.id bytes) (pieces (replicate (document_len row) 0)) in
    let may = may_first v lawful (JobRow row ∷ []) rest f due.may in
    end_short v a filler.gate (JobRow row) filler.block put start may is c.requires.spare

pub end_record-requires-clause-spare : goal.end_record-requires-clause-spare
end_record-requires-clause-spare g c =
    let v = g.D.Disk.device in
    let lawful = g.met.D.Disk.lawful in
    let a = c.args.areas.now in
    let filler = c.args.filler.now in
    let due = c.requires.due in
    let row = due.row in
    let f = filling_at a filler in
    let put = c.put_row-start.new.block in
    let start = c.put_row-start.result.0 in
    let is = c.put_row-start.ensures.put row due.there in
    let rest = map (λ bytes. Piece row.id bytes) (pieces (replicate (document_len row) 0)) in
    let may = may_first v lawful (JobRow row ∷ []) rest f due.may in
    end_spare v a filler.gate (JobRow row) filler.block put start may is c.requires.spare

pub end_record-requires-clause-room : goal.end_record-requires-clause-room
end_record-requires-clause-room g c =
    let v = g.D.Disk.device in
    let lawful = g.met.D.Disk.lawful in
    let a = c.args.areas.now in
    let filler = c.args.filler.now in
    let due = c.requires.due in
    let row = due.row in
    let f = filling_at a filler in
    let put = c.put_row-start.new.block in
    let start = c.put_row-start.result.0 in
    let is = c.put_row-start.ensures.put row due.there in
    let rest = map (λ bytes. Piece row.id bytes) (pieces (replicate (document_len row) 0)) in
    let may = may_first v lawful (JobRow row ∷ []) rest f due.may in
    end_room v a filler.gate (JobRow row) filler.block put start may is c.requires.spare

pub returns-in_err-end_record-clause-on : goal.returns-in_err-end_record-clause-on
returns-in_err-end_record-clause-on g c =
    let v = g.D.Disk.device in
    let lawful = g.met.D.Disk.lawful in
    let a = c.args.areas.now in
    let filler = c.args.filler.now in
    let due = c.requires.due in
    let row = due.row in
    let f = filling_at a filler in
    let put = c.put_row-start.new.block in
    let start = c.put_row-start.result.0 in
    let is = c.put_row-start.ensures.put row due.there in
    let rest = map (λ bytes. Piece row.id bytes) (pieces (replicate (document_len row) 0)) in
    let may = may_first v lawful (JobRow row ∷ []) rest f due.may in
    let end = filling_at c.end_record.new.areas c.end_record.new.filler in
    let e = c.in_err-end_record.field-0.0 in
    err_on v f end e _ c.from_residual.result c.from_residual.ensures.1 (put_on v a filler.gate (JobRow row) filler.block put start is end (Err e) c.in_err-end_record.ensures.on)

pub loop-done-init : goal.loop-done-init
loop-done-init g c =
    let v = g.D.Disk.device in
    let lawful = g.met.D.Disk.lawful in
    let a = c.args.areas.now in
    let filler = c.args.filler.now in
    let due = c.requires.due in
    let row = due.row in
    let f = filling_at a filler in
    let put = c.put_row-start.new.block in
    let start = c.put_row-start.result.0 in
    let is = c.put_row-start.ensures.put row due.there in
    let rest = map (λ bytes. Piece row.id bytes) (pieces (replicate (document_len row) 0)) in
    let may = may_first v lawful (JobRow row ∷ []) rest f due.may in
    let end = filling_at c.end_record.new.areas c.end_record.new.filler in
    let table = c.args.table.now in
    let adds = put_adds v a filler.gate (JobRow row) filler.block put start is end (c.in_ok-end_record.ensures.added (JobRow row) (put_back (JobRow row) filler.block put start is) (c.put_row-start.ensures.spellable row due.there due.listed)) in
    let room : document_len row ≤ move_room table.moves row.id * longest_send = subst (λ (j : ℕ). document_len row ≤ move_room table.moves j * longest_send) (sym due.id) due.room in
    record {
      within = omega arith;
      on = put_on v a filler.gate (JobRow row) filler.block put start is end (Ok tt) c.in_ok-end_record.ensures.on;
      spare = omega (arith, is.spare, c.end_record.ensures.spare);
      same = refl;
      places = refl;
      len = c.put_row-start.ensures.len;
      part = λ r there.
          subst (λ (x : Job). IsPartAdded v (places_at table c.args.job) x 0 f table.moves end table.moves) (due_row v table c.args.job f due r there)
          (part_begun v row (places_at table c.args.job) f end table.moves adds room);
    }

pub add_piece-requires-clause-may : goal.add_piece-requires-clause-may
add_piece-requires-clause-may g c =
    let v = g.D.Disk.device in
    let lawful = g.met.D.Disk.lawful in
    let table = c.args.table.now in
    let job = c.args.job in
    let due = c.requires.due in
    let row = due.row in
    let f = filling_at c.args.areas.now c.args.filler.now in
    let now = filling_at c.loop-done.areas c.loop-done.filler in
    let inv = c.loop-done.invariant in
    let document = places_at table job in
    let done = c.loop-done.done in
    let count = c.min-count.result in
    let len = inv.len row due.there in
    let within : done < document_len row = omega (arith, len, c.loop-done-test.true) in
    let counted : count ≡ min (document_len row - done) longest_send = c.min-count.ensures ∙ ap (λ (n : ℕ). min (n - done) longest_send) len in
    let part = inv.part row due.there in
    subst (λ (j : ℕ). MayFill v (Piece j (replicate count 0) ∷ []) now) due.id (piece_may v lawful document row done count f table.moves now c.loop-done.table.moves inv.on part within counted due.may)

pub add_piece-requires-clause-lie : goal.add_piece-requires-clause-lie
add_piece-requires-clause-lie g c =
    let v = g.D.Disk.device in
    let lawful = g.met.D.Disk.lawful in
    let table = c.args.table.now in
    let job = c.args.job in
    let due = c.requires.due in
    let row = due.row in
    let f = filling_at c.args.areas.now c.args.filler.now in
    let now = filling_at c.loop-done.areas c.loop-done.filler in
    let inv = c.loop-done.invariant in
    let document = places_at table job in
    let done = c.loop-done.done in
    let count = c.min-count.result in
    let len = inv.len row due.there in
    let within : done < document_len row = omega (arith, len, c.loop-done-test.true) in
    let counted : count ≡ min (document_len row - done) longest_send = c.min-count.ensures ∙ ap (λ (n : ℕ). min (n - done) longest_send) len in
    let part = inv.part row due.there in
    let lie = due.lie (lives_here table.state job row due.there (omega (arith, within))) in
    subst (λ (n : ℕ). LieIn n c.loop-done.areas.end (places_at c.loop-done.table job)) (ap (λ (b : ℕ). b + 16) (sym inv.on.base))
    (subst (λ (n : ℕ). LieIn (c.args.areas.now.base + 16) n (places_at c.loop-done.table job)) (sym inv.on.end)
    (subst (LieIn (c.args.areas.now.base + 16) c.args.areas.now.end) (ap (λ ps. places_of ps job) (sym inv.places)) lie))

pub add_piece-requires-clause-inside : goal.add_piece-requires-clause-inside
add_piece-requires-clause-inside g c =
    let v = g.D.Disk.device in
    let lawful = g.met.D.Disk.lawful in
    let table = c.args.table.now in
    let job = c.args.job in
    let due = c.requires.due in
    let row = due.row in
    let f = filling_at c.args.areas.now c.args.filler.now in
    let now = filling_at c.loop-done.areas c.loop-done.filler in
    let inv = c.loop-done.invariant in
    let document = places_at table job in
    let done = c.loop-done.done in
    let count = c.min-count.result in
    let len = inv.len row due.there in
    let within : done < document_len row = omega (arith, len, c.loop-done-test.true) in
    let counted : count ≡ min (document_len row - done) longest_send = c.min-count.ensures ∙ ap (λ (n : ℕ). min (n - done) longest_send) len in
    let part = inv.part row due.there in
    omega (arith, within, counted, ap len_found (ap (λ (s : State). job_at s job) inv.same ∙ due.there))

pub add_piece-requires-clause-room : goal.add_piece-requires-clause-room
add_piece-requires-clause-room g c =
    let v = g.D.Disk.device in
    let lawful = g.met.D.Disk.lawful in
    let table = c.args.table.now in
    let job = c.args.job in
    let due = c.requires.due in
    let row = due.row in
    let f = filling_at c.args.areas.now c.args.filler.now in
    let now = filling_at c.loop-done.areas c.loop-done.filler in
    let inv = c.loop-done.invariant in
    let document = places_at table job in
    let done = c.loop-done.done in
    let count = c.min-count.result in
    let len = inv.len row due.there in
    let within : done < document_len row = omega (arith, len, c.loop-done-test.true) in
    let counted : count ≡ min (document_len row - done) longest_send = c.min-count.ensures ∙ ap (λ (n : ℕ). min (n - done) longest_send) len in
    let part = inv.part row due.there in
    subst (λ (j : ℕ). 0 < move_room c.loop-done.table.moves j) due.id (room_there v lawful document row done count f table.moves now c.loop-done.table.moves inv.on part within counted)

pub returns-in_err-add_piece-clause-on : goal.returns-in_err-add_piece-clause-on
returns-in_err-add_piece-clause-on g c =
    let v = g.D.Disk.device in
    let lawful = g.met.D.Disk.lawful in
    let table = c.args.table.now in
    let job = c.args.job in
    let due = c.requires.due in
    let row = due.row in
    let f = filling_at c.args.areas.now c.args.filler.now in
    let now = filling_at c.loop-done.areas c.loop-done.filler in
    let inv = c.loop-done.invariant in
    let document = places_at table job in
    let done = c.loop-done.done in
    let count = c.min-count.result in
    let len = inv.len row due.there in
    let within : done < document_len row = omega (arith, len, c.loop-done-test.true) in
    let counted : count ≡ min (document_len row - done) longest_send = c.min-count.ensures ∙ ap (λ (n : ℕ). min (n - done) longest_send) len in
    let part = inv.part row due.there in
    let end = filling_at c.add_piece.new.areas c.add_piece.new.filler in
    let e = c.in_err-add_piece.field-0.0 in
    err_on v f end e _ c.from_residual-in_err-add_piece.result c.from_residual-in_err-add_piece.ensures.1 (then_on v lawful f now inv.on _ part.adds end (Err e) c.in_err-add_piece.ensures.on)

pub loop-done-preserved : goal.loop-done-preserved
loop-done-preserved g c =
    let v = g.D.Disk.device in
    let lawful = g.met.D.Disk.lawful in
    let table = c.args.table.now in
    let job = c.args.job in
    let due = c.requires.due in
    let row = due.row in
    let f = filling_at c.args.areas.now c.args.filler.now in
    let now = filling_at c.loop-done.areas c.loop-done.filler in
    let inv = c.loop-done.invariant in
    let document = places_at table job in
    let done = c.loop-done.done in
    let count = c.min-count.result in
    let len = inv.len row due.there in
    let within : done < document_len row = omega (arith, len, c.loop-done-test.true) in
    let counted : count ≡ min (document_len row - done) longest_send = c.min-count.ensures ∙ ap (λ (n : ℕ). min (n - done) longest_send) len in
    let part = inv.part row due.there in
    let end = filling_at c.add_piece.new.areas c.add_piece.new.filler in
    let added = subst (λ (j : ℕ). IsPieceAdded v document j done count now end) (sym due.id)
    (subst (λ (xs : List Extent). IsPieceAdded v xs job done count now end) (ap (λ ps. places_of ps job) inv.places) c.in_ok-add_piece.ensures.added) in
    let noted = subst (λ (j : ℕ). IsPieceNoted j count (c.loop-done.filler.gate + length c.loop-done.filler.block.items) c.loop-done.table.moves c.add_piece.new.table.moves) (sym due.id) c.in_ok-add_piece.ensures.noted in
    let whole = λ (r : List ℕ) (told : TellsBut v c.args.areas.now r).
    lying_long (c.args.areas.now.base + 16) c.args.areas.now.end r document (document_len row) (has_ended row.phase) (λ over. ap (λ b. cond b 0 row.size) over)
    (λ lives. due.lie (ap (is_over_by table.state.highest job) due.there ∙ lives)) due.sized (omega (arith, due.may.area.within, told_size v lawful c.args.areas.now r told)) in
    record {
      within = omega (arith, counted, len, c.loop-done-test.true);
      on = then_on v lawful f now inv.on _ part.adds end (Ok tt) c.in_ok-add_piece.ensures.on;
      spare = omega (arith, inv.spare, c.add_piece.ensures.spare);
      same = c.add_piece.ensures.same ∙ inv.same;
      places = c.add_piece.ensures.places ∙ inv.places;
      len = inv.len;
      part = λ r there.
          subst (λ (x : Job). IsPartAdded v document x (done + count) f table.moves end c.add_piece.new.table.moves) (due_row v table job f due r there)
          (part_next v lawful document row done count f table.moves now c.loop-done.table.moves inv.on part within counted end c.add_piece.new.table.moves added noted whole);
    }

pub returns-clause-added : goal.returns-clause-added
returns-clause-added g c r there =
    let v = g.D.Disk.device in
    let lawful = g.met.D.Disk.lawful in
    let table = c.args.table.now in
    let job = c.args.job in
    let due = c.requires.due in
    let f = filling_at c.args.areas.now c.args.filler.now in
    let inv = c.loop-done.invariant in
    let document = places_at table job in
    let same = due_row v table job f due r there in
    let whole = λ (b : List ℕ) (told : TellsBut v c.args.areas.now b).
    lying_long (c.args.areas.now.base + 16) c.args.areas.now.end b document (document_len r) (has_ended r.phase) (λ over. ap (λ b. cond b 0 r.size) over)
    (λ lives. due.lie (ap (is_over_by table.state.highest job) there ∙ lives)) (due.sized ∙ ap document_len same) (omega (arith, due.may.area.within, told_size v lawful c.args.areas.now b told)) in
    part_whole v document r c.loop-done.done f table.moves (filling_at c.loop-done.areas c.loop-done.filler) c.loop-done.table.moves (inv.part r there) (omega (arith, inv.len r there, c.loop-done-test.false)) whole

pub returns-clause-noted : goal.returns-clause-noted
returns-clause-noted g c r there =
    let table = c.args.table.now in
    part_noted g.D.Disk.device (places_at table c.args.job) r c.loop-done.done (filling_at c.args.areas.now c.args.filler.now) table.moves (filling_at c.loop-done.areas c.loop-done.filler) c.loop-done.table.moves
    (c.loop-done.invariant.part r there) (omega (arith, c.loop-done.invariant.len r there, c.loop-done-test.false))
