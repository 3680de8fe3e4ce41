use Rattle.std.proofs.Common.{◌≡◌, ◌∙◌, ◌∷◌, ◌++◌, [], List, ℕ, map, take, sym, subst, ap, length, arith}
use Rattle.spool_types.specs.declared.listing.Row.{Row}
use Rattle.spool_types.specs.declared.listing.Row.TheVariants.{Queue}
use Rattle.spool_types.specs.declared.version.Version.TheVariants.{Two}
use Rattle.event_codec.specs.RowSpelling.{row_spelling}
use Rattle.spool_core.specs.Measuring.{IsSumMore}
use Rattle.listing_rows.proofs.RowLaws.{own_len}
use Rattle.spool_core.proofs.FillLaws.{sum_row, sum_then}
use Rattle.spool_core.proofs.ListingLaws.{queues_next}
use Rattle.spool_core.proofs.spool.measuring.queues_len.Goals as goal

pub loop-queue-preserved : goal.loop-queue-preserved
loop-queue-preserved c =
    let qs = c.args.queues.now in
    let i = c.loop-queue.queue-index in
    let q = c.queue-item.result in
    let spelling = row_spelling Two (Queue q) in
    let spelled : c.encode_queue_onto.new.out.items ≡ spelling = c.in_ok-encode_queue_onto.ensures.spelled ∙ ap (λ (l : List ℕ). l ++ spelling) c.clear.ensures.items in
    record {
      sum = subst (λ (rows : List Row). IsSumMore rows c.args.before c.with_record-sum.result) (sym (queues_next qs i q c.loop-queue-test.true c.queue-item.is))
          (sum_then (map (λ x. Queue x) (take i qs)) (Queue q ∷ []) c.args.before c.loop-queue.sum c.with_record-sum.result c.loop-queue.invariant.sum
          (sum_row (Queue q) c.loop-queue.sum c.with_record-sum.result c.len.result (c.len.ensures ∙ own_len c.encode_queue_onto.new.out ∙ ap length spelled) c.with_record-sum.ensures));
      spare = omega (arith, c.loop-queue.invariant.spare, c.clear.ensures.capacity, c.encode_queue_onto.ensures.grown);
    }
