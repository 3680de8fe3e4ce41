use Rattle.std.proofs.Common.{◌≡◌, ◌∙◌, sym, ap}
use Rattle.std.specs.Cmp.Lexicographic.{bytes_decides}
use Rattle.spool_types.specs.declared.rows.QueueRow.{QueueRow}
use Rattle.spool_types.specs.declared.listing.Row.{Row as RowOf}
use Rattle.spool_types.specs.declared.listing.Row.TheVariants.{Head, Queue, Job as JobRow, Piece}
use Rattle.spool_types.specs.declared.version.Version.TheVariants.{Two}
use Rattle.event_codec.specs.RowSpelling.{row_spelling}
use Rattle.split_rows.proofs.rows.is_same_queue.Goals as goal

-- The queue that the row represents.
told : QueueRow → RowOf → QueueRow
told other (Head h) = other
told other (Queue q) = q
told other (JobRow r) = other
told other (Piece j bytes) = other

pub returns : goal.returns
unfolding told
returns c = λ same.
    let a = c.args.a.now in
    let b = c.args.b.now in
    let bytes = (bytes_decides c.as_slice.result.now c.as_slice-2.result.now).0 (sym c.eq.ensures ∙ same) in
    let spelled : row_spelling Two (Queue b) ≡ row_spelling Two (Queue a) =
    sym c.in_ok-queue_b.ensures.spelled ∙ sym c.as_slice-2.ensures.value ∙ sym bytes ∙ c.as_slice.ensures.value ∙ c.in_ok-queue_a.ensures.spelled in
    ap (told a) (c.one_row.ensures Two (Queue b) (Queue a) (c.in_ok-queue_b.ensures.spellable c.requires.b) (c.in_ok-queue_a.ensures.spellable c.requires.a) spelled)
