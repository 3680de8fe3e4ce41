-- The extents have the length of the new bytes more.
use Rattle.std.proofs.Common.{◌+◌, cond, length, sym, ap, ◌∙◌, arith}
use Rattle.extents.specs.declared.extent.Extent.{Extent}
use Rattle.extents.specs.Extents.{size_of}
use Rattle.job_table.proofs.Changes.{apart}
use Rattle.job_table.proofs.Rooms.{size_more}
use Rattle.job_table.proofs.store.row_changes.add_bytes.Goals as goal

pub returns-clause-memory : goal.returns-clause-memory
returns-clause-memory c = record {
  spare = omega (arith, c.push_reserved.ensures.len, c.push_reserved.ensures.capacity);
  holds = λ holds. record {
    freed = λ over. absurd (apart _ over c.requires.live);
    sized =
        let was = c.args.row.now in
        let x = c.extent_behind.result in
        ap size_of c.push_reserved.ensures.items
        ∙ size_more was.document.items x
        ∙ ap (λ n. n + x.len) (holds.sized ∙ ap (λ b. cond b 0 was.job.size) c.requires.live)
        ∙ ap (λ (e : Extent). was.job.size + e.len) c.extent_behind.ensures
        ∙ sym (ap (λ b. cond b 0 (was.job.size + length c.as_slice-count.result.now)) c.requires.live);
  };
}
