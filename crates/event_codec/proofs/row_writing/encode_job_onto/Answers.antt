use Rattle.std.proofs.Common.{List, ℕ, [], ◌∷◌, ◌++◌, ap, ◌∙◌}
use Rattle.spool_types.specs.declared.version.Version.TheVariants.{Two}
use Rattle.event_codec.specs.RowSpelling.{job_row_code}
use Rattle.event_codec.proofs.Added.{put_both}
use Rattle.event_codec.proofs.row_writing.encode_job_onto.Goals as goal

pub returns-clause-spelled : goal.returns-clause-spelled
returns-clause-spelled c =
    let begun = c.put_kind.ensures.written ∙ ap (λ (l : List ℕ). l ++ 0x42 ∷ []) c.in_ok-reserve.ensures.items in
    put_both (0x42 ∷ []) (job_row_code Two c.args.job.now) c.args.out.now c.put_kind.new.out c.put_job_row.new.out begun c.put_job_row.ensures.written
