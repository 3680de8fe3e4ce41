use Rattle.std.proofs.Common.{◌∙◌, sym, subst, ap}
use Rattle.spool_types.specs.State.{Job, job_of}
use Rattle.spool_types.specs.declared.listing.Row.TheVariants.{Job as JobRow}
use Rattle.spool_types.specs.declared.version.Version.TheVariants.{Two}
use Rattle.event_codec.specs.RowSpelling.{IsRowSpellable}
use Rattle.job_table.specs.DocumentLengths.{document_len}
use Rattle.spool_core.specs.Checkpointing.{MayBeListed}
use Rattle.listing_rows.specs.RowFilling.{IsPut}
use Rattle.spool_core.proofs.ListingLaws.{legal_job}
use Rattle.spool_core.proofs.ReadOn.{some_same}
use Rattle.spool_core.proofs.spool.filling.put_row.Goals as goal

pub returns-clause-put : goal.returns-clause-put
returns-clause-put c r there =
    subst (λ (x : Job). IsPut (JobRow x) c.args.block.now c.put_job-start.new.block c.put_job-start.result) (some_same (job_of c.in-Some.row.now) r (c.in-Some.ensures.row ∙ there)) c.put_job-start.ensures.put

pub returns-clause-len : goal.returns-clause-len
returns-clause-len c r there = c.document_len.ensures ∙ ap document_len (some_same (job_of c.in-Some.row.now) r (c.in-Some.ensures.row ∙ there))

pub returns-clause-spellable : goal.returns-clause-spellable
returns-clause-spellable c r there may =
    let same = some_same (job_of c.in-Some.row.now) r (c.in-Some.ensures.row ∙ there) in
    subst (λ (x : Job). IsRowSpellable Two (JobRow x)) same (c.put_job-start.ensures.spellable (legal_job (job_of c.in-Some.row.now) (subst MayBeListed (sym same) may) c.put_job-start.ensures.few))
