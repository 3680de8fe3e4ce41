use Rattle.std.proofs.Common.{◌≡◌, ◌∙◌, ◌*◌, ◌/◌, ◌+◌, ◌++◌, min, List, ℕ, ap, length}
use Rattle.spool_types.specs.declared.listing.Row.TheVariants.{Job}
use Rattle.spool_types.specs.declared.version.Version.TheVariants.{Two}
use Rattle.event_codec.specs.RowSpelling.{row_spelling}
use Rattle.listing_rows.proofs.RowLaws.{own_len}
use Rattle.spool_core.proofs.FillLaws.{sum_job}
use Rattle.spool_core.proofs.spool.measuring.job_len.Goals as goal

pub returns-clause-sum : goal.returns-clause-sum
returns-clause-sum c =
    let spelling = row_spelling Two (Job c.args.job.now) in
    let spelled : c.encode_job_onto.new.out.items ≡ spelling = c.in_ok-encode_job_onto.ensures.spelled ∙ ap (λ (l : List ℕ). l ++ spelling) c.clear.ensures.items in
    sum_job c.args.job.now c.args.before c.with_record-sum.result c.saturating_add.result c.saturating_mul-heads.result c.saturating_add-2.result c.len.result
    (c.len.ensures ∙ own_len c.encode_job_onto.new.out ∙ ap length spelled)
    c.with_record-sum.ensures
    (c.saturating_add.ensures ∙ ap (λ (n : ℕ). min (c.with_record-sum.result + n) 18446744073709551615) c.document_len-len.ensures)
    (c.saturating_mul-heads.ensures ∙ ap (λ (n : ℕ). min (n * 14) 18446744073709551615) (c.piece_count.ensures ∙ ap (λ (n : ℕ). (n + 65535) / 65536) c.document_len-len.ensures))
    c.saturating_add-2.ensures
